use Rattle.sci_sim.proofs.Again.{may_begin, may_follow, may_go_on}
use Rattle.sci_sim.proofs.laws.a_step_may_be_done.Goals as goal

pub returns-clause-at_start : goal.returns-clause-at_start
returns-clause-at_start c until limit r banks h = may_begin until limit r banks h

pub returns-clause-behind_a_step : goal.returns-clause-behind_a_step
returns-clause-behind_a_step c until limit r banks i date source from o started step = may_follow until limit r banks i date source from o started step

pub returns-clause-behind_a_reaction : goal.returns-clause-behind_a_reaction
returns-clause-behind_a_reaction c until limit r banks st started at none = may_go_on until limit r banks st started at none
