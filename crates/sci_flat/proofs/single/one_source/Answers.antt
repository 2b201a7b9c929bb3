use Rattle.sci_flat.proofs.Source.{one_source}
use Rattle.sci_flat.proofs.single.one_source.Goals as goal

pub returns : goal.returns
returns c = one_source
