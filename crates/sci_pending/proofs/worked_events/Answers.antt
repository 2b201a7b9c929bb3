use Rattle.std.proofs.Common.{refl}
use Rattle.sci_pending.proofs.worked_events.Goals as goal

pub returns : goal.returns
returns c = record {
  none = refl;
  least_date = refl;
  first_programmed = refl;
  order = refl;
  one_event = refl;
  behind = refl;
  counted = refl;
  waits = refl;
  gone = refl;
}
