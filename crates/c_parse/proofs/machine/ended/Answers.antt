use Rattle.std.proofs.Common.{◌≡◌, ◌<◌, length, rules}
use Rattle.c_parse.proofs.StackLaws.{ended_first, ended_second, ended_empty, ended_turn}
use Rattle.c_parse.proofs.machine.ended.Goals as goal

pub returns-in-First : goal.returns-in-First
returns-in-First c = ended_first c.add.result c.in-First.e c.args.list c.new.result c.args.head c.args.rest c.in-First.is c.new.ensures.items c.add.ensures

pub returns-then-is_empty : goal.returns-then-is_empty
returns-then-is_empty c = let none : length c.args.list.items ≡ 0 = search rules in ended_empty c.in-Second.e c.in-Second.yes c.args.list c.args.head c.args.rest c.in-Second.is none

pub returns-else-is_empty : goal.returns-else-is_empty
returns-else-is_empty c =
    let some : 0 < length c.args.list.items = search rules in
    ended_second c.add-in-Second.result c.in-Second.e c.in-Second.yes c.args.list c.args.head c.args.rest c.in-Second.is some c.add-in-Second.ensures

pub returns-in-Turn : goal.returns-in-Turn
returns-in-Turn c = ended_turn c.add-in-Turn.result c.in-Turn.x c.in-Turn.bound c.args.list c.args.head c.args.rest c.in-Turn.is c.add-in-Turn.ensures
