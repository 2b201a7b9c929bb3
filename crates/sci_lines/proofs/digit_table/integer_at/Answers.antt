use Rattle.std.specs.Prelude.{unsigned_abs}
use Rattle.std.proofs.Common.{◌≡◌, ap, ◌∙◌, w64, to_z, of_z, arith}
use Rattle.std.proofs.lemmas.Int.{to_z-of_z}
use Rattle.sci_lines.proofs.Signs.{is_negative, is_natural, negative_behind, natural_behind}
use Rattle.sci_lines.proofs.digit_table.integer_at.Goals.{then-n-lt0, else-n-lt0}
use Rattle.sci_lines.proofs.digit_table.integer_at.Goals as goal

pub returns-clause-text : goal.returns-clause-text
returns-clause-text c =
    let value : to_z w64 (of_z w64 c.args.n) ≡ c.args.n = grind (arith, to_z-of_z) in
    let size : c.unsigned_abs.result ≡ unsigned_abs c.args.n = c.unsigned_abs.ensures.value ∙ ap unsigned_abs value in
    elim c.if-n-lt0.branch [
      | then-n-lt0 w ↦ negative_behind c.args.n c.args.text.now c.byte_at-behind.new.text _ c.args.at c.byte_at-behind.result c.if-n-lt0.first c.unsigned_abs.result (is_negative _ _ value w.if-n-lt0.true) c.byte_at-behind.ensures.text w.first-is
          size c.natural_at.ensures.text
      | else-n-lt0 w ↦ natural_behind c.args.n c.args.text.now c.byte_at-behind.new.text _ c.args.at c.byte_at-behind.result c.if-n-lt0.first c.unsigned_abs.result (is_natural _ _ value w.if-n-lt0.false) (omega (arith, c.requires.room))
          c.byte_at-behind.ensures.text c.byte_at-behind.ensures.end w.first-is size c.natural_at.ensures.text
    ]
