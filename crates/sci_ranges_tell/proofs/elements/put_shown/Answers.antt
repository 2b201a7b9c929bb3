use Rattle.std.proofs.Common.{ap, sym, ◌∷◌, [], pos}
use Rattle.sci_io.proofs.Advance.{same_text}
use Rattle.sci_ranges_text.specs.Text.{shown_text}
use Rattle.sci_ranges_tell.proofs.elements.put_shown.Goals as goal

pub returns-in-Some : goal.returns-in-Some
returns-in-Some g c = same_text (sym (ap (shown_text (pos c.args.place.block ∷ pos c.args.place.port ∷ pos c.args.place.element ∷ [])) c.in-Some.is)) c.put_range.ensures
