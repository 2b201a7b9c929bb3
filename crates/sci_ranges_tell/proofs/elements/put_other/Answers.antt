use Rattle.std.proofs.Common.{◌∷◌, [], pos, sym, ◌∙◌, codes}
use Rattle.sci_io.proofs.Advance.{same_text, nothing_due}
use Rattle.sci_ranges_text.specs.Text.{interval_line, same_interval}
use Rattle.sci_ranges_tell.proofs.Pieces.{other-same, other-told}
use Rattle.sci_ranges_tell.proofs.elements.put_other.Goals as goal

pub returns-then-is_same : goal.returns-then-is_same
returns-then-is_same g c =
    same_text (other-same (same_interval c.args.shown c.args.held) (interval_line (codes "held") (pos c.args.place.block ∷ pos c.args.place.port ∷ pos c.args.place.element ∷ []) c.args.held) (sym c.is_same.ensures ∙ c.if-is_same.true)) (nothing_due _ _)

pub returns-else-is_same : goal.returns-else-is_same
returns-else-is_same g c =
    same_text (other-told (same_interval c.args.shown c.args.held) (interval_line (codes "held") (pos c.args.place.block ∷ pos c.args.place.port ∷ pos c.args.place.element ∷ []) c.args.held) (sym c.is_same.ensures ∙ c.if-is_same.false)) c.put_range.ensures
