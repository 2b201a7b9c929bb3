use Rattle.sci_needs.proofs.Columns.{columns_in_range}
use Rattle.sci_needs.proofs.columns_in_range.Goals as goal

pub returns : goal.returns
returns c n bytes columns sensors accepted = columns_in_range n bytes columns sensors accepted
