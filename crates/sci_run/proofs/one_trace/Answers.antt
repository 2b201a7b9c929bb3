use Rattle.sci_run.proofs.Unique.{one_trace, one_rest, one_state}
use Rattle.sci_run.proofs.OneFinish.{one_finish}
use Rattle.sci_run.proofs.one_trace.Goals as goal

pub returns-clause-whole : goal.returns-clause-whole
returns-clause-whole c n i until limit os ps net free h g = one_trace n i net free until limit os ps h g

pub returns-clause-rest : goal.returns-clause-rest
returns-clause-rest c n i until limit st os ps net free h g = one_rest n i net free until limit st os ps h g

pub returns-clause-state : goal.returns-clause-state
returns-clause-state c n i until limit st other seen others net free h g fired = one_state n i net free until limit st other seen others h g fired

pub returns-clause-finish : goal.returns-clause-finish
returns-clause-finish c n i until limit st other how way os others net free f g = one_finish n i net free until limit f g
