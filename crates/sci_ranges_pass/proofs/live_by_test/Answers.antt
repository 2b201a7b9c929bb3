use Rattle.sci_ranges_pass.proofs.Living.{live_by_test}
use Rattle.sci_ranges_pass.proofs.live_by_test.Goals as goal

pub returns : goal.returns
returns c = live_by_test
