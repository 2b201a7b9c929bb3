use Rattle.sci_range_laws.proofs.Stepped.{steps_end_well}
use Rattle.sci_range_laws.proofs.safe_steps_end_well.Goals as goal

pub returns : goal.returns
returns c n rows net free schedule = steps_end_well n rows net free schedule
