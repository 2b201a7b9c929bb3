use Rattle.sci_loop.proofs.Walking.{taken_none}
use Rattle.sci_loop.proofs.walk.walk.unmark.Goals as goal

pub loop-number-init : goal.loop-number-init
loop-number-init c = taken_none c.args.marks.now
