use Rattle.sci_range_laws.proofs.Ending.{code_ends_well}
use Rattle.sci_range_laws.proofs.safe_code_ends_well.Goals as goal

pub returns : goal.returns
returns c = code_ends_well
