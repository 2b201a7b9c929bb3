use Rattle.sci_rounds.proofs.Fronts.{ready_is_alike}
use Rattle.sci_rounds.proofs.ready_is_alike.Goals as goal

pub returns : goal.returns
returns c n m i s done b y z net free closed ready same = ready_is_alike n m i s done b y z net free closed ready same
