use Rattle.sci_range_laws.proofs.Ending.{runs_end_well, rests_end_well}
use Rattle.sci_range_laws.proofs.safe_runs_end_well.Goals as goal

pub returns-clause-runs : goal.returns-clause-runs
returns-clause-runs c n i j t until limit st how os safe finish = runs_end_well n i j t until limit st how os safe finish

pub returns-clause-rests : goal.returns-clause-rests
returns-clause-rests c n i j t until limit st seen os safe reached rest = rests_end_well n i j t until limit st seen os safe reached rest
