use Rattle.std.proofs.Common.{◌≡◌, ℕ, zero, suc, ◌^◌, ◌*◌, ◌/◌, ◌<◌, ◌≤◌, ℤ, pos, negsuc, ◌+ℤ◌, ◌-ℤ◌, ◌*ℤ◌, ◌≤ℤ◌, ◌<ℤ◌, Bool, true, false, Some, refl, arith, sym, ap, ◌∙◌, FitsSigned, w64, lit<, subst, cond}
use Rattle.std.proofs.Math.IntN.{suc_ℤ, suc_ℤ-*ℤ}
use Rattle.std.proofs.Math.Nat.{zero-mul}
use Rattle.std.specs.Prelude.{int_lt, int_le, unsigned_abs}
use Rattle.std.specs.Int.{int_rem_euclid, w128}
use Rattle.std.proofs.lemmas.Int.{ints, fits_signed_mul}
use Rattle.sci_base.specs.declared.Mode.{Mode}
use Rattle.sci_base.specs.declared.Mode.TheVariants.{Wrap, Saturate, Stop}
use Rattle.sci_base.specs.declared.Ty.{Ty}
use Rattle.sci_base.specs.declared.Ty.TheVariants.{I32, I16, I8, U32, U16, U8}
use Rattle.sci_base.specs.Fit.{width, low, high, span, wrap, in_range, fit, fit_outside, InRange, WrapLaw}

-- the ends of the types, as bounds
pub low_at_least : (t : Ty) → negsuc 2147483647 ≤ℤ low t
low_at_least I32 = omega arith
low_at_least I16 = omega arith
low_at_least I8 = omega arith
low_at_least U32 = omega arith
low_at_least U16 = omega arith
low_at_least U8 = omega arith

pub high_at_most : (t : Ty) → high t ≤ℤ pos 4294967295
high_at_most I32 = omega arith
high_at_most I16 = omega arith
high_at_most I8 = omega arith
high_at_most U32 = omega arith
high_at_most U16 = omega arith
high_at_most U8 = omega arith

-- the types have as many numbers as lie from the least to the greatest
pub low+span : (t : Ty) → low t +ℤ pos (span t) ≡ high t +ℤ pos 1
low+span I32 = refl
low+span I16 = refl
low+span I8 = refl
low+span U32 = refl
low+span U16 = refl
low+span U8 = refl

pub span_pos : (t : Ty) → 0 < span t
span_pos I32 = omega arith
span_pos I16 = omega arith
span_pos I8 = omega arith
span_pos U32 = omega arith
span_pos U16 = omega arith
span_pos U8 = omega arith

pub int_le_yes : (a b : ℤ) → a ≤ℤ b → int_le a b ≡ true
int_le_yes a b h = grind (arith, ints)

pub int_le_no : (a b : ℤ) → b <ℤ a → int_le a b ≡ false
int_le_no a b h = grind (arith, ints)

pub in_range_yes : (t : Ty) (v : ℤ) → low t ≤ℤ v → v ≤ℤ high t → in_range t v ≡ true
in_range_yes t v h k = rw (int_le_yes (low t) v h, int_le_yes v (high t) k) refl

pub in_range_low : (t : Ty) (v : ℤ) → v <ℤ low t → in_range t v ≡ false
in_range_low t v h = rw (int_le_no (low t) v h) refl

pub low≤high : (t : Ty) → low t ≤ℤ high t
low≤high t = omega (arith, ints, low+span t, span_pos t)

pub in_range_high : (t : Ty) (v : ℤ) → high t <ℤ v → in_range t v ≡ false
in_range_high t v h = rw (int_le_yes (low t) v (omega (arith, ints, low≤high t)), int_le_no v (high t) h) refl

pub fit_inside : (t : Ty) (m : _) (v : ℤ) → low t ≤ℤ v → v ≤ℤ high t → fit t m v ≡ Some v
fit_inside t m v h k = rw (in_range_yes t v h k) refl

pub fit_below : (t : Ty) (m : _) (v : ℤ) → v <ℤ low t → fit t m v ≡ fit_outside t m v
fit_below t m v h = rw (in_range_low t v h) refl

pub fit_above : (t : Ty) (m : _) (v : ℤ) → high t <ℤ v → fit t m v ≡ fit_outside t m v
fit_above t m v h = rw (in_range_high t v h) refl

-- a remainder is not negative and below the divisor
pub rem_bounds : (z : ℤ) (n : ℕ) → 0 < n → (pos 0 ≤ℤ int_rem_euclid z (pos n)) × (int_rem_euclid z (pos n) <ℤ pos n)
rem_bounds (pos a) n h = (omega (arith, ints), omega (arith, ints))
rem_bounds (negsuc a) n h = (omega (arith, ints), omega (arith, ints))

pub wrap_bounds : (t : Ty) (v : ℤ) → InRange t (wrap t v)
wrap_bounds t v =
    let b = rem_bounds (v -ℤ low t) (span t) (span_pos t) in
    record { above = omega (arith, ints, b.0); below = omega (arith, ints, b.1, low+span t) }

-- the code's sum, as the number that it computes
pub wrap_code : (t : Ty) (v lo r : ℤ) → lo ≡ low t → r ≡ int_rem_euclid (v -ℤ lo) (pos (span t)) → lo +ℤ r ≡ wrap t v
wrap_code t v lo r e f = rw (f, e) refl

pub span_at_most : (t : Ty) → span t ≤ 4294967296
span_at_most I32 = omega arith
span_at_most I16 = omega arith
span_at_most I8 = omega arith
span_at_most U32 = omega arith
span_at_most U16 = omega arith
span_at_most U8 = omega arith

abs_at_most : (a : ℤ) → negsuc 4294967295 ≤ℤ a → a ≤ℤ pos 4294967296 → unsigned_abs a ≤ 4294967296
abs_at_most (pos a) h k = omega (arith, ints)
abs_at_most (negsuc a) h k = omega (arith, ints)

-- the exact product fits 128 bits
pub mul_fits : (a b : ℤ) → negsuc 4294967295 ≤ℤ a → a ≤ℤ pos 4294967296 → negsuc 4294967295 ≤ℤ b → b ≤ℤ pos 4294967296 → FitsSigned w128 (a *ℤ b)
mul_fits a b p q r s = fits_signed_mul w128 a b 4294967296 4294967296 (abs_at_most a p q) (abs_at_most b r s) (lit< tt)

pub wrap_fits : (t : Ty) (v : ℤ) → FitsSigned w64 (wrap t v)
wrap_fits t v =
    let a = low_at_least t in
    let b = high_at_most t in
    let w = wrap_bounds t v in
    fits_from (wrap t v) (omega (arith, ints)) (omega (arith, ints))
  where
    fits_from : (z : ℤ) → negsuc 2147483647 ≤ℤ z → z ≤ℤ pos 4294967295 → FitsSigned w64 z
    fits_from z h k = omega (arith, ints)

-- what a number has beside its remainder
pub quotient_of : (z : ℤ) (n : ℕ) → 0 < n → (k : ℤ) × (z ≡ int_rem_euclid z (pos n) +ℤ (k *ℤ pos n))
quotient_of (pos a) n h = (pos (a / n), grind (arith, ints))
quotient_of (negsuc a) n h = (negsuc (a / n), grind (arith, ints))

pub span-pow : (t : Ty) → span t ≡ 2 ^ width t
span-pow I32 = refl
span-pow I16 = refl
span-pow I8 = refl
span-pow U32 = refl
span-pow U16 = refl
span-pow U8 = refl

one_more : (a : ℤ) → suc_ℤ a ≡ a +ℤ pos 1
one_more (pos n) = omega (arith, ints)
one_more (negsuc zero) = omega (arith, ints)
one_more (negsuc (suc n)) = omega (arith, ints)

-- d more times n
more_times : (a : ℤ) (d n : ℕ) → (a +ℤ pos d) *ℤ pos n ≡ (a *ℤ pos n) +ℤ pos (d * n)
more_times a zero n =
    let e : a +ℤ pos 0 ≡ a = omega (arith, ints) in
    let z : pos (0 * n) ≡ pos 0 = ap pos (zero-mul n) in
    rw (e, z) (omega (arith, ints))
more_times a (suc d) n =
    let e : a +ℤ pos (suc d) ≡ suc_ℤ (a +ℤ pos d) = omega (arith, ints, one_more (a +ℤ pos d)) in
    let m = more_times a d n in
    rw (e, suc_ℤ-*ℤ, m) (omega (arith, ints))

-- two numbers of which one is the other and a multiple of n, less than n apart, are one
apart_small : (q r x y : ℤ) (d n : ℕ) → y ≡ x +ℤ pos (d * n) → q +ℤ x ≡ r +ℤ y → q <ℤ (r +ℤ pos n) → q ≡ r
apart_small q r x y zero n e h k = omega (arith, ints)
apart_small q r x y (suc d) n e h k = absurd (omega (arith, ints))

-- two numbers in range that differ by a multiple of the span are one
only_one : (t : Ty) (v q r a b : ℤ) → InRange t q → InRange t r → v ≡ q +ℤ (a *ℤ pos (span t)) → v ≡ r +ℤ (b *ℤ pos (span t)) → q ≡ r
only_one t v q r a b f g e d = by_difference (b -ℤ a) refl
  where
    near : (x y : ℤ) → InRange t x → InRange t y → x <ℤ (y +ℤ pos (span t))
    near x y f g =
        let s = low+span t in let top = f.below in let bottom = g.above in omega (arith, ints)

    by_difference : (z : ℤ) → b -ℤ a ≡ z → q ≡ r
    by_difference (pos k) h =
        let m : b ≡ a +ℤ pos k = omega (arith, ints) in
        let p : b *ℤ pos (span t) ≡ (a *ℤ pos (span t)) +ℤ pos (k * span t) = rw m (more_times a k (span t)) in
        apart_small q r (a *ℤ pos (span t)) (b *ℤ pos (span t)) k (span t) p (sym e ∙ d) (near q r f g)
    by_difference (negsuc k) h =
        let m : a ≡ b +ℤ pos (suc k) = omega (arith, ints) in
        let p : a *ℤ pos (span t) ≡ (b *ℤ pos (span t)) +ℤ pos (suc k * span t) = rw m (more_times b (suc k) (span t)) in
        sym (apart_small r q (b *ℤ pos (span t)) (a *ℤ pos (span t)) (suc k) (span t) p (sym d ∙ e) (near r q g f))

pub wrap_law : WrapLaw
wrap_law t v =
    let q = quotient_of (v -ℤ low t) (span t) (span_pos t) in
    let d : v ≡ wrap t v +ℤ (q.0 *ℤ pos (span t)) = apart v (low t) _ _ q.1 in
    record {
      is = record { in_range = wrap_bounds t v; times = q.0; differs = by_span _ _ _ _ (span-pow t) d };
      only = λ r o. only_one t v r (wrap t v) o.times q.0 o.in_range (wrap_bounds t v) (by_span _ _ _ _ (sym (span-pow t)) o.differs) d;
    }
  where
    apart : (v l r k : ℤ) → v -ℤ l ≡ r +ℤ k → v ≡ (l +ℤ r) +ℤ k
    apart v l r k h = omega (arith, ints)

    by_span : (r k : ℤ) (m n : ℕ) → m ≡ n → v ≡ r +ℤ (k *ℤ pos m) → v ≡ r +ℤ (k *ℤ pos n)
    by_span r k m n e h = rw (← e) h

some_same : (a b : ℤ) → Some a ≡ Some b → a ≡ b
some_same a b e = cc

end_in_range : (t : Ty) (b : Bool) → InRange t (cond b (low t) (high t))
end_in_range t true = let h = low≤high t in record { above = omega (arith, ints); below = h }
end_in_range t false = let h = low≤high t in record { above = h; below = omega (arith, ints) }

-- what is fitted is in range
pub fit_in_range : (t : Ty) (m : Mode) (z v : ℤ) → fit t m z ≡ Some v → InRange t v
fit_in_range t m z v e = by_lower (int_le (low t) z) refl
  where
    outside_in_range : (m : Mode) → fit_outside t m z ≡ Some v → InRange t v
    outside_in_range Wrap e = subst (InRange t) (some_same _ _ e) (wrap_bounds t z)
    outside_in_range Saturate e = subst (InRange t) (some_same _ _ e) (end_in_range t (int_lt z (low t)))
    outside_in_range Stop e = cc

    by_upper : (b : Bool) → int_le (low t) z ≡ true → int_le z (high t) ≡ b → InRange t v
    by_upper true p q = subst (InRange t) (some_same _ _ (rw (p, q) at e)) (record { above = grind (arith, ints); below = grind (arith, ints) })
    by_upper false p q = outside_in_range m (rw (p, q) at e)

    by_lower : (b : Bool) → int_le (low t) z ≡ b → InRange t v
    by_lower true p = by_upper (int_le z (high t)) p refl
    by_lower false p = outside_in_range m (rw p at e)
