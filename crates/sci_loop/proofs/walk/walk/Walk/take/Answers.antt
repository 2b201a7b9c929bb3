use Rattle.sci_loop.proofs.Walking.{taken_are}
use Rattle.sci_loop.proofs.walk.walk.Walk.take.Goals as goal

pub returns-clause-found : goal.returns-clause-found
returns-clause-found c = taken_are c.args.self.now.count c.args.numbers.now c.forget.new.self c.add_all.new.self c.forget.ensures c.in_ok-add_all.ensures.ok
