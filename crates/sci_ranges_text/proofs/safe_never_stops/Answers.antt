use Rattle.sci_ranges_text.proofs.Safe.{safe_never_stops}
use Rattle.sci_ranges_text.proofs.safe_never_stops.Goals as goal

pub returns : goal.returns
returns c = safe_never_stops
