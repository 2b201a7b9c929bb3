use Rattle.sci_agenda.proofs.Replaced.{replacing}
use Rattle.sci_agenda.proofs.order.replacing.Goals as goal

pub returns : goal.returns
returns c = replacing
