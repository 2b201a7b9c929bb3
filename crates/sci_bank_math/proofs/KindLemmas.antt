-- Steps of the kinds' loops, and what a kind's parameters have.
use Rattle.std.proofs.Common.{◌≡◌, ℕ, zero, suc, ◌+◌, ◌-◌, ◌<◌, ◌≤◌, ℤ, pos, ◌≤ℤ◌, ap, ◌∙◌, arith}
use Rattle.std.specs.Int.{int_min, int_max}
use Rattle.sci_forms.specs.declared.Kind.TheVariants.{Extractor}
use Rattle.sci_forms.specs.declared.spec.Spec.{Spec}
use Rattle.sci_forms.specs.Ports.{total}
use Rattle.sci_forms.specs.Words.{param, out_type, size}
use Rattle.sci_kinds.specs.Asks.{Asks}
use Rattle.sci_kinds.specs.Table.{least_to, greatest_to}
use Rattle.sci_kinds.proofs.Elements.{total_one}

-- one more number
pub least_more : (f : ℕ → ℤ) (k : ℕ) (m v r : ℤ) → 1 ≤ k → m ≡ least_to f (k - 1) → v ≡ f k → r ≡ int_min m v → r ≡ least_to f ((k + 1) - 1)
least_more f zero m v r h e d g = absurd (omega arith)
least_more f (suc k) m v r h e d g =
    let a : suc k - 1 ≡ k = omega arith in
    let b : (suc k + 1) - 1 ≡ suc k = omega arith in
    rw b (g ∙ ap (λ x. int_min x v) (rw a at e) ∙ ap (λ x. int_min (least_to f k) x) d)

pub greatest_more : (f : ℕ → ℤ) (k : ℕ) (m v r : ℤ) → 1 ≤ k → m ≡ greatest_to f (k - 1) → v ≡ f k → r ≡ int_max m v → r ≡ greatest_to f ((k + 1) - 1)
greatest_more f zero m v r h e d g = absurd (omega arith)
greatest_more f (suc k) m v r h e d g =
    let a : suc k - 1 ≡ k = omega arith in
    let b : (suc k + 1) - 1 ≡ suc k = omega arith in
    rw b (g ∙ ap (λ x. int_max x v) (rw a at e) ∙ ap (λ x. int_max (greatest_to f k) x) d)

-- the number of an element that an EXTRACTOR takes
pub number_least : (s : Spec) (e : ℕ) → Asks Extractor s → e < total s.outs → pos 1 ≤ℤ param s e
number_least s e a h = (a.4 e (omega (arith, h, a.3, total_one s.outs (out_type s) (size s) a.0.outs_alike a.0.one))).0
