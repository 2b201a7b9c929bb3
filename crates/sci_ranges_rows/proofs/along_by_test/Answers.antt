use Rattle.sci_ranges_rows.proofs.Testing.{along_by_test}
use Rattle.sci_ranges_rows.proofs.along_by_test.Goals as goal

pub returns : goal.returns
returns c = along_by_test
