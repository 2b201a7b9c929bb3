use Rattle.sci_flat.proofs.TagSource.{one_before}
use Rattle.sci_flat.proofs.single.one_before.Goals as goal

pub returns : goal.returns
returns c = one_before
