use Rattle.std.proofs.Common.{◌≡◌, ℕ, ◌+◌, ℤ, List, ◌∷◌, ◌++◌, drop, get_or, append_assoc, sym, ap, ap₂, ◌∙◌, to_z, of_z, w64}
use Rattle.std.specs.Prelude.{codes, decimal}
use Rattle.std.proofs.lemmas.Int.{to_z-of_z}
use Rattle.sci_base.specs.declared.Ty.{Ty}
use Rattle.sci_base.specs.Fit.{width}
use Rattle.sci_base.specs.Bits.{pattern}
use Rattle.sci_text.specs.Lines.{with_lf}
use Rattle.sci_vcd.specs.Waveforms.{no_signal}
use Rattle.sci_vcd.specs.Spelling.{binary, bits, value_line}
use Rattle.sci_vcd.specs.LaidDown.{end_text}
use Rattle.sci_vcd.proofs.signal_lines.SignalLines.value_before.Goals as goal

-- the line of a value, put together from its end
value_text : (t : Ty) (n : ℕ) (v : ℤ) (digits tail : List ℕ) → digits ≡ binary (width t) (pattern t v) → 98 ∷ (digits ++ (end_text n ++ tail)) ≡ with_lf (value_line t n v) ++ tail
value_text t n v digits tail is =
    let number = decimal n in
    let later : end_text n ++ tail ≡ (codes " v" ++ number) ++ (codes "\n" ++ tail) =
    append_assoc (codes " v") (number ++ codes "\n") tail
    ∙ (ap (λ (l : List ℕ). codes " v" ++ l) (append_assoc number (codes "\n") tail) ∙ sym (append_assoc (codes " v") number (codes "\n" ++ tail))) in
    ap₂ (λ (l m : List ℕ). 98 ∷ (l ++ m)) is later
    ∙ ap (λ (l : List ℕ). 98 ∷ l)
    (sym (append_assoc (bits t v) (codes " v" ++ number) (codes "\n" ++ tail)) ∙ sym (append_assoc (bits t v ++ (codes " v" ++ number)) (codes "\n") tail))

pub returns-clause-text : goal.returns-clause-text
returns-clause-text c =
    let t = (get_or c.args.self.now c.args.at no_signal).ty in
    let tail = drop c.args.end c.args.line.now in
    let value : to_z w64 (of_z w64 c.args.value) ≡ c.args.value = to_z-of_z w64 c.args.value c.ranges.value in
    let wrapped = to_z w64 (of_z w64 c.args.value) in
    let digits : bits c.ty-ty.result wrapped ≡ binary (width t) (pattern t c.args.value) = ap₂ (λ (u : Ty) (v : ℤ). bits u v) c.ty-ty.ensures value in
    c.byte_before.ensures.text
    ∙ (ap (λ (l : List ℕ). 98 ∷ l)
    (c.bits_before-place.ensures.text
    ∙ ap (λ (l : List ℕ). bits c.ty-ty.result wrapped ++ l) (c.put_before-place.ensures.text ∙ ap (λ (l : List ℕ). l ++ tail) c.line_end.ensures))
    ∙ value_text t (c.args.at + 1) c.args.value (bits c.ty-ty.result wrapped) tail digits)
