use Rattle.sci_resume.proofs.Behind.{one_saved, one_end, not_both, saved_is_valid, run_goes_on}
use Rattle.sci_resume.proofs.SomeReached.{some_reached}
use Rattle.sci_resume.proofs.one_is_saved.Goals as goal

pub returns-clause-saved : goal.returns-clause-saved
returns-clause-saved c = one_saved

pub returns-clause-ended : goal.returns-clause-ended
returns-clause-ended c = one_end

pub returns-clause-not_both : goal.returns-clause-not_both
returns-clause-not_both c = not_both

pub returns-clause-some : goal.returns-clause-some
returns-clause-some c = some_reached

pub returns-clause-valid : goal.returns-clause-valid
returns-clause-valid c = saved_is_valid

pub returns-clause-goes_on : goal.returns-clause-goes_on
returns-clause-goes_on c = run_goes_on
