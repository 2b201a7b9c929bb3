use Rattle.std.proofs.Common.{sym, ap, ◌∙◌, Bool, cond, pos, [], ◌∷◌}
use Rattle.std.specs.Prelude.{codes}
use Rattle.sci_io.proofs.Advance.{same_text, nothing_due}
use Rattle.sci_save.specs.Text.{row_text}
use Rattle.sci_save.proofs.write.put_cursor.Goals as goal

pub returns-then-is_sensor : goal.returns-then-is_sensor
returns-then-is_sensor g c =
    same_text (sym (ap (λ (t : Bool). row_text (codes "cursor") c.args.block (cond t (pos c.args.cursor ∷ []) [])) (sym c.is_sensor.ensures ∙ c.if-is_sensor.true))) c.put_taken.ensures

pub returns : goal.returns
returns g c =
    same_text (sym (ap (λ (t : Bool). row_text (codes "cursor") c.args.block (cond t (pos c.args.cursor ∷ []) [])) (sym c.is_sensor.ensures ∙ c.if-is_sensor.false))) (nothing_due _ _)
