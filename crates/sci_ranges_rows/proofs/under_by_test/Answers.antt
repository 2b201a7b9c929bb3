use Rattle.sci_ranges_rows.proofs.Testing.{under_by_test}
use Rattle.sci_ranges_rows.proofs.under_by_test.Goals as goal

pub returns : goal.returns
returns c = under_by_test
