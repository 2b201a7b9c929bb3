use Rattle.sci_ranges_pass.proofs.Passing.{possible_by_test}
use Rattle.sci_ranges_pass.proofs.possible_by_test.Goals as goal

pub returns : goal.returns
returns c = possible_by_test
