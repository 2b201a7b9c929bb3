use Rattle.sci_ranges_base.proofs.Fitted.{fitted_has}
use Rattle.sci_ranges_base.proofs.fitted_law.Goals as goal

pub returns : goal.returns
returns c = fitted_has
