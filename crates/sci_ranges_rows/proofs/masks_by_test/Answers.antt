use Rattle.sci_ranges_rows.proofs.Testing.{masks_by_test}
use Rattle.sci_ranges_rows.proofs.masks_by_test.Goals as goal

pub returns : goal.returns
returns c = masks_by_test
