use Rattle.sci_run.proofs.Traces.{goes_on, run_goes_on}
use Rattle.sci_run.proofs.Finish.{run_is_over}
use Rattle.sci_run.proofs.Conflicts.{never}
use Rattle.sci_run.proofs.goes_on.Goals as goal

pub returns-clause-rest : goal.returns-clause-rest
returns-clause-rest c n i until limit from st seen os reaches rest = goes_on n i until limit from reaches os rest

pub returns-clause-whole : goal.returns-clause-whole
returns-clause-whole c n i until limit st seen os stands rest = run_goes_on n i until limit st seen os stands rest

pub returns-clause-over : goal.returns-clause-over
returns-clause-over c n i until limit os = run_is_over n i until limit os

pub returns-clause-conflict : goal.returns-clause-conflict
returns-clause-conflict c n i until limit st block os finish = never n i until limit finish
