use Rattle.std.proofs.Common.{ap, sym, ◌∷◌, [], pos, Option, Some}
use Rattle.sci_io.proofs.Advance.{same_text}
use Rattle.sci_ranges_base.specs.declared.interval.Interval.{Interval}
use Rattle.sci_ranges_text.specs.Text.{held_text}
use Rattle.sci_ranges_tell.proofs.elements.put_held_as.Goals as goal

pub returns-in-None : goal.returns-in-None
returns-in-None g c = same_text (sym (ap (λ (o : Option Interval). held_text (pos c.args.place.block ∷ pos c.args.place.port ∷ pos c.args.place.element ∷ []) o (Some c.args.held)) c.in-None.is)) c.put_range.ensures

pub returns-in-Some : goal.returns-in-Some
returns-in-Some g c = same_text (sym (ap (λ (o : Option Interval). held_text (pos c.args.place.block ∷ pos c.args.place.port ∷ pos c.args.place.element ∷ []) o (Some c.args.held)) c.in-Some.is)) c.put_other.ensures
