-- Bounds of patterns, and of numbers times powers of 2.
use Rattle.std.proofs.Common.{◌≡◌, ℕ, ◌+◌, ◌-◌, ◌*◌, ◌/◌, ◌%◌, ◌^◌, ◌<◌, ◌≤◌, ℤ, pos, negsuc, ◌*ℤ◌, refl, ap, sym, ◌∙◌, arith, subst, inl, inr, FitsSigned, w64, to_z, of_z}
use Rattle.std.specs.Prelude.{unsigned_abs}
use Rattle.std.proofs.lemmas.Int.{ints, fits_signed_mul, to_z-of_z, to_z_pos}
use Rattle.std.proofs.lemmas.Bool.{cases_lt}
use Rattle.std.proofs.lemmas.Nat.{or_lt, pow_below, shr_below, mod-pow-add, shl-shr, shr-shr, mul-add-lt, pow-add, pow_pos, mod_below}
use Rattle.std.proofs.Math.Nat.{mul-mod_left}
use Rattle.sci_base.specs.declared.Ty.{Ty}
use Rattle.sci_base.specs.declared.Ty.TheVariants.{I32, I16, I8, U32, U16, U8}
use Rattle.sci_base.specs.Fit.{width, span, InRange}
use Rattle.sci_base.specs.Bits.{set_bit}
use Rattle.sci_base.proofs.FitLemmas.{span-pow, low_at_least, high_at_most}

pub width_at_most : (t : Ty) → width t ≤ 32
width_at_most I32 = omega arith
width_at_most I16 = omega arith
width_at_most I8 = omega arith
width_at_most U32 = omega arith
width_at_most U16 = omega arith
width_at_most U8 = omega arith

-- a pattern with one bit more
pub set_below : (t : Ty) (p k : ℕ) → p < span t → k < width t → set_bit p k < span t
set_below t p k b h =
    let w = span-pow t in
    rw w (or_lt (width t) p (2 ^ k) (rw w at b) (pow_below k (width t) h))

-- a pattern of w bits turned left by k places
pub turned_below : (w k p : ℕ) → p < 2 ^ w → k < w → p * 2 ^ k % 2 ^ w + p * 2 ^ k / 2 ^ w < 2 ^ w
turned_below w k p b h =
    let j = w - k in
    let e : w ≡ j + k = omega (arith, h) in
    let pw : p < 2 ^ (k + j) = subst (λ n. p < 2 ^ n) (e ∙ omega arith) b in
    let down : p * 2 ^ k / 2 ^ w ≡ p / 2 ^ j =
    ap (λ n. p * 2 ^ k / 2 ^ n) (e ∙ omega arith) ∙ (sym (shr-shr (p * 2 ^ k) k j) ∙ ap (λ n. n / 2 ^ j) (shl-shr p k)) in
    let zero_low : p * 2 ^ k % 2 ^ k ≡ 0 = mul-mod_left p (2 ^ k) in
    let low : p * 2 ^ k % 2 ^ w ≡ (p % 2 ^ j) * 2 ^ k =
    ap (λ n. p * 2 ^ k % 2 ^ n) e ∙ (mod-pow-add (p * 2 ^ k) j k ∙ rw (shl-shr p k, zero_low) (omega arith)) in
    let part : p % 2 ^ j < 2 ^ j = mod_below p (2 ^ j) (pow_pos j) in
    let all = mul-add-lt (p % 2 ^ j) (2 ^ k) (p / 2 ^ j) (2 ^ j) part (shr_below p k j pw) in
    let whole : 2 ^ w ≡ 2 ^ k * 2 ^ j = ap (λ n. 2 ^ n) (e ∙ omega arith) ∙ pow-add 2 k j in
    rw (low, down, whole) all

-- ---- numbers times powers of 2

abs_at_most : (t : Ty) (v : ℤ) → InRange t v → unsigned_abs v ≤ 4294967295
abs_at_most t (pos a) i = let h = high_at_most t in let b = i.below in omega (arith, ints)
abs_at_most t (negsuc a) i = let l = low_at_least t in let b = i.above in omega (arith, ints)

pow_at_most : (k : ℕ) → k < 32 → 2 ^ k ≤ 2147483648
pow_at_most k h = elim (cases_lt k 31) [
  | inl l ↦ let b = pow_below k 31 l in omega (arith, b)
  | inr r ↦ let e : k ≡ 31 = omega (arith, h, r) in rw e (omega arith)
]

pub moved_fits : (t : Ty) (v : ℤ) (k : ℕ) → InRange t v → k < 32 → FitsSigned w64 (v *ℤ pos (2 ^ k))
moved_fits t v k i h = fits_signed_mul w64 v (pos (2 ^ k)) 4294967295 2147483648 (abs_at_most t v i) (pow_at_most k h) (omega arith)

-- what the code's product gives
pub moved_is : (t : Ty) (v : ℤ) (k p : ℕ) → InRange t v → k < 32 → FitsSigned w64 v → p ≡ 2 ^ k
    → (to_z w64 (of_z w64 v) *ℤ to_z w64 p ≡ v *ℤ pos (2 ^ k)) × (to_z w64 (of_z w64 (to_z w64 (of_z w64 v) *ℤ to_z w64 p)) ≡ v *ℤ pos (2 ^ k))
moved_is t v k p i h f e =
    let power : to_z w64 p ≡ pos (2 ^ k) = ap (to_z w64) e ∙ to_z_pos w64 (2 ^ k) (omega (arith, pow_at_most k h)) in
    let factor = to_z-of_z w64 v f in
    let product : to_z w64 (of_z w64 v) *ℤ to_z w64 p ≡ v *ℤ pos (2 ^ k) = rw (power, factor) refl in
    (product, rw product (to_z-of_z w64 (v *ℤ pos (2 ^ k)) (moved_fits t v k i h)))
