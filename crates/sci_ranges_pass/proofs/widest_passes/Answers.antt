use Rattle.sci_ranges_pass.proofs.Widest.{widest_passes}
use Rattle.sci_ranges_pass.proofs.widest_passes.Goals as goal

pub returns : goal.returns
returns c = widest_passes
