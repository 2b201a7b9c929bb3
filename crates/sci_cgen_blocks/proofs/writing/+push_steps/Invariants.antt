use Rattle.std.proofs.Common.{length}
use Rattle.sci_cgen_blocks.proofs.writing.+push_steps.Given as goal

abbrev pub decreases-push_steps : goal.decreases-push_steps
decreases-push_steps l = length l.steps.now
