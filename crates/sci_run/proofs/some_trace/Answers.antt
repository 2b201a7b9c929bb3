use Rattle.sci_run.proofs.Traces.{some_trace, some_rest}
use Rattle.sci_run.proofs.some_trace.Goals as goal

pub returns-clause-whole : goal.returns-clause-whole
returns-clause-whole c n i until limit net free = some_trace n i net free until limit

pub returns-clause-rest : goal.returns-clause-rest
returns-clause-rest c n i until limit st net free = some_rest n i net free until limit st
