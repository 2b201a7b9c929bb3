use Rattle.sci_save.proofs.NumberLoops.{below_none}
use Rattle.sci_save.proofs.line.below_zero.Goals as goal

pub returns-then-size-eq0 : goal.returns-then-size-eq0
returns-then-size-eq0 c = below_none c.args.size c.args.rest.now c.if-size-eq0.true
