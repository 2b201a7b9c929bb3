use Rattle.std.proofs.Common.{◌≡◌, ℕ, ℤ, List, [], ◌∷◌, ◌++◌, take, ap, ◌∙◌, w64, to_z, of_z, arith, append_assoc}
use Rattle.std.proofs.lemmas.Int.{to_z-of_z}
use Rattle.std.specs.Fmt.{signed_decimal}
use Rattle.sci_lines.proofs.lines.line_at.Goals as goal

pub returns-clause-text : goal.returns-clause-text
returns-clause-text c =
    let value : to_z w64 (of_z w64 c.args.value) ≡ c.args.value = grind (arith, to_z-of_z) in
    let front = take c.args.at c.args.text.now in
    let head = c.args.head.now in
    let digits = signed_decimal c.args.value in
    c.byte_at.ensures.text
    ∙ ap (λ (l : List ℕ). l ++ 10 ∷ []) (c.integer_at-at.ensures.text ∙ ap (λ (z : ℤ). take c.put_at-at.result c.put_at-at.new.text ++ signed_decimal z) value ∙ ap (λ (l : List ℕ). l ++ digits) c.put_at-at.ensures.text)
    ∙ append_assoc (front ++ head) digits (10 ∷ []) ∙ append_assoc front head (digits ++ 10 ∷ [])
