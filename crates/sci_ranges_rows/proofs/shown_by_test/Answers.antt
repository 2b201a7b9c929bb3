use Rattle.sci_ranges_rows.proofs.Testing.{shown_by_test}
use Rattle.sci_ranges_rows.proofs.shown_by_test.Goals as goal

pub returns : goal.returns
returns c = shown_by_test
