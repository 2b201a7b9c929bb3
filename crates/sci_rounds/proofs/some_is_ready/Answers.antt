use Rattle.sci_rounds.proofs.Levels.{some_is_ready}
use Rattle.sci_rounds.proofs.some_is_ready.Goals as goal

pub returns : goal.returns
returns c n s done free none b may = some_is_ready n s done none free b may
