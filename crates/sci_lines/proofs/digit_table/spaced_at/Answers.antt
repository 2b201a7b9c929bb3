use Rattle.std.proofs.Common.{◌≡◌, ℕ, ℤ, List, [], ◌∷◌, ◌++◌, take, ap, ◌∙◌, w64, to_z, of_z, arith, append_assoc}
use Rattle.std.proofs.lemmas.Int.{to_z-of_z}
use Rattle.std.specs.Fmt.{signed_decimal}
use Rattle.sci_lines.proofs.digit_table.spaced_at.Goals as goal

pub returns-clause-text : goal.returns-clause-text
returns-clause-text c =
    let value : to_z w64 (of_z w64 c.args.n) ≡ c.args.n = grind (arith, to_z-of_z) in
    c.integer_at.ensures.text ∙ ap (λ (z : ℤ). take c.byte_at-first.result c.byte_at-first.new.text ++ signed_decimal z) value
    ∙ ap (λ (l : List ℕ). l ++ signed_decimal c.args.n) c.byte_at-first.ensures.text ∙ append_assoc (take c.args.at c.args.text.now) (32 ∷ []) (signed_decimal c.args.n)
