-- What the reads of a spec and of the inputs are proved by.
use Rattle.std.proofs.Common.{◌≡◌, ℕ, zero, suc, ◌<◌, ◌≤◌, ℤ, pos, List, length, false, refl, ap, arith, negsuc, ◌≤ℤ◌, FitsSigned, w64, to_z, of_z, Option}
use Rattle.std.specs.Prelude.{int_div}
use Rattle.std.proofs.lemmas.Int.{ints, quot_is}
use Rattle.std.proofs.Math.Nat.{div-le_self}
use Rattle.sci_base.specs.declared.Ty.{Ty}
use Rattle.sci_base.specs.declared.Mode.{Mode}
use Rattle.sci_base.proofs.FitLemmas.{low_at_least, high_at_most}
use Rattle.sci_base.specs.Fit.{InRange, fit, int_eq}
use Rattle.sci_base.specs.Lists.{at}
use Rattle.sci_forms.specs.declared.spec.Spec.{Spec}
use Rattle.sci_forms.specs.Ports.{total, Fills}
use Rattle.sci_forms.specs.Words.{out_type, size}
use Rattle.sci_kinds.specs.Asks.{IsAlikeSpec}
use Rattle.sci_kinds.specs.Table.{fitted, quotient_cell, input}
use Rattle.sci_kinds.proofs.Elements.{total_one, input_in_range}
use Rattle.sci_kinds.proofs.Ranges.{elem}

-- ---- reads of the inputs

pub alike_in_range : (s : Spec) (u : List ℤ) (k e : ℕ) → IsAlikeSpec s → Fills s.ins u → k < length s.ins → e < total s.outs → InRange (out_type s) (input (size s) u k e)
alike_in_range s u k e a f p q =
    input_in_range s.ins (out_type s) (size s) u a.ins_alike f k e p (omega (arith, q, total_one s.outs (out_type s) (size s) a.outs_alike a.one))

pub only_in_range : (s : Spec) (u : List ℤ) (e : ℕ) → IsAlikeSpec s → Fills s.ins u → length s.ins ≡ 1 → e < total s.outs → InRange (out_type s) (at u e)
only_in_range s u e a f p q = elem s u e a p f (omega (arith, q, total_one s.outs (out_type s) (size s) a.outs_alike a.one))

-- ---- quotients

quotient_bounds : (a b : ℤ) → negsuc 4294967295 ≤ℤ a → a ≤ℤ pos 4294967296 → (negsuc 4294967296 ≤ℤ int_div a b) × (int_div a b ≤ℤ pos 4294967296)
quotient_bounds (pos a) (pos b) h k = let d = div-le_self a b in (omega (arith, ints), omega (arith, ints))
quotient_bounds (pos a) (negsuc b) h k = let d = div-le_self a (suc b) in (omega (arith, ints), omega (arith, ints))
quotient_bounds (negsuc a) (pos b) h k = let d = div-le_self (suc a) b in (omega (arith, ints), omega (arith, ints))
quotient_bounds (negsuc a) (negsuc b) h k = let d = div-le_self (suc a) (suc b) in (omega (arith, ints), omega (arith, ints))

quotient_fits : (t : Ty) (a b : ℤ) → InRange t a → FitsSigned w64 (int_div a b)
quotient_fits t a b r =
    let lo = low_at_least t in
    let hi = high_at_most t in
    let above = r.above in
    let below = r.below in
    let d = quotient_bounds a b (omega (arith, ints)) (omega (arith, ints)) in
    let x = d.0 in
    let y = d.1 in
    omega (arith, ints)

not_zero : (b : ℤ) → (of_z w64 b ≡ 0 → ⊥) → int_eq b (pos 0) ≡ false
not_zero (pos zero) h = absurd (h refl)
not_zero (pos (suc n)) h = grind (arith, ints)
not_zero (negsuc n) h = grind (arith, ints)

pub quotient_is : (t : Ty) (m : Mode) (a b : ℤ) (o : Option ℤ) → InRange t a → FitsSigned w64 a → FitsSigned w64 b → (of_z w64 b ≡ 0 → ⊥)
    → o ≡ fit t m (to_z w64 (of_z w64 (int_div (to_z w64 (of_z w64 a)) (to_z w64 (of_z w64 b))))) → fitted o ≡ quotient_cell t m a b
quotient_is t m a b o r fa fb nz e =
    rw (not_zero b nz, e) (ap (λ q. fitted (fit t m q)) (quot_is w64 a b fa fb (quotient_fits t a b r)))
