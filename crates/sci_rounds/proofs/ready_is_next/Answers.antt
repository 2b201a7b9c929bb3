use Rattle.sci_rounds.proofs.Fronts.{ready_is_next, all_done}
use Rattle.sci_rounds.proofs.ready_is_next.Goals as goal

pub returns-clause-next : goal.returns-clause-next
returns-clause-next c n m i s done w b net free closed front ready = ready_is_next n m i s done w b net free closed front ready

pub returns-clause-whole : goal.returns-clause-whole
returns-clause-whole c n m i s done w front all = all_done n m i s done w front all
