use Rattle.sci_bulk.proofs.Ready.{bulk_is_ready}
use Rattle.sci_bulk.proofs.laws.bulk_is_ready.Goals as goal

pub returns : goal.returns
returns c = bulk_is_ready
