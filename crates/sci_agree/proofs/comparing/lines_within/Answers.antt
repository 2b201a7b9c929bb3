use Rattle.std.proofs.Common.{rules, ◌≡◌, length, arith}
use Rattle.sci_agree.proofs.Lines.{lines-within}
use Rattle.sci_agree.proofs.Taking.{counted_on}
use Rattle.sci_agree.proofs.comparing.lines_within.Goals as goal

pub overflow_add-lines : goal.overflow_add-lines
overflow_add-lines c =
    let halves = c.split_at.ensures in
    let on = counted_on c.args.piece.now c.loop-rest.rest.now c.split_at.result.0.now c.split_at.result.1.now c.min.result c.loop-rest.lines c.front_lines-few.result halves.front halves.back c.loop-rest.invariant c.front_lines-few.ensures in
    let most = lines-within c.args.piece.now in search (rules, on, most)

pub loop-rest-preserved : goal.loop-rest-preserved
loop-rest-preserved c =
    let halves = c.split_at.ensures in
    counted_on c.args.piece.now c.loop-rest.rest.now c.split_at.result.0.now c.split_at.result.1.now c.min.result c.loop-rest.lines c.front_lines-few.result halves.front halves.back c.loop-rest.invariant c.front_lines-few.ensures

pub returns : goal.returns
returns c =
    let none : length c.loop-rest.rest.now ≡ 0 = search rules in
    let few = lines-within c.loop-rest.rest.now in omega (arith, none, few, c.loop-rest.invariant)
