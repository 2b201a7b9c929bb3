use Rattle.sci_rows.proofs.Origins.{origin_law}
use Rattle.sci_rows.proofs.origin_law.Goals as goal

pub returns : goal.returns
returns c = origin_law
