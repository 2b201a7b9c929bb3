use Rattle.sci_ranges_pass.proofs.Passing.{closed_by_test}
use Rattle.sci_ranges_pass.proofs.closed_by_test.Goals as goal

pub returns : goal.returns
returns c = closed_by_test
