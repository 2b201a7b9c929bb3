-- What the bits of numbers become, where the code has other terms that are the same.
use Rattle.std.proofs.Common.{◌≡◌, ℕ, ◌^◌, ◌<◌, ◌≤◌, ℤ, pos, ◌+ℤ◌, ◌-ℤ◌, ◌≤ℤ◌, true, false, Option, refl, arith, to_z, w64}
use Rattle.std.proofs.Math.Nat.{pow-le-pow_right}
use Rattle.std.proofs.lemmas.Int.{ints}
use Rattle.std.proofs.lemmas.Nat.{pow_pos}
use Rattle.std.specs.Prelude.{int_lt, unsigned_abs, option_map, if◌then◌else◌}
use Rattle.std.specs.Int.{int_div_euclid}
use Rattle.sci_base.specs.declared.Ty.{Ty}
use Rattle.sci_base.specs.Fit.{high, span, int_eq}
use Rattle.sci_base.specs.Bits.{turned_left}
use Rattle.sci_ranges_base.specs.declared.interval.Interval.{Interval}
use Rattle.sci_ranges_base.specs.Intervals.{from_to, times}
use Rattle.sci_ranges_base.specs.Fitting.{wrapped_up_to}
use Rattle.sci_ranges_rules.specs.declared.patterns.Patterns.{Patterns}
use Rattle.sci_ranges_rules.specs.Patterns.{InType, patterns_from, turned_patterns}
use Rattle.sci_ranges_rules.specs.Words.{shifted_range, turned_range, set_bits, kept_bits}

-- a power of 2 of 32 bits at most, as a number of 64 bits
pub record IsPower (k : ℕ) (z : ℤ) : Type 0 where
  pub value : z ≡ pos (2 ^ k)
  pub some : pos 1 ≤ℤ z
  pub few : z ≤ℤ pos 4294967296

pub power_is : (k n : ℕ) → k < 32 → n ≡ 2 ^ k → IsPower k (to_z w64 n)
power_is k n l e =
    let below : k ≤ 32 = omega (arith, l) in
    let most : 2 ^ k ≤ 2 ^ 32 = pow-le-pow_right {n = 2} (omega arith) below in
    let least : 0 < 2 ^ k = pow_pos k in
    rw e (record { value = omega (arith, ints, most); some = omega (arith, ints, most, least); few = omega (arith, ints, most) })

pub shifted_down : (t : Ty) (n : ℤ) (i : Interval) (x y f : ℤ) → int_lt n (pos 0) ≡ true → f ≡ pos (2 ^ unsigned_abs n) → x ≡ int_div_euclid i.least f
    → y ≡ int_div_euclid i.greatest f → from_to x y ≡ shifted_range t n i
shifted_down t n i x y f h e l g = rw (h, l, g, e) refl

pub shifted_up : (t : Ty) (n : ℤ) (i : Interval) (m f : ℤ) (w : Interval) → int_lt n (pos 0) ≡ false → f ≡ pos (2 ^ unsigned_abs n)
    → m ≡ (high t +ℤ pos 1) -ℤ f → w ≡ times f i → wrapped_up_to t m w ≡ shifted_range t n i
shifted_up t n i m f w h e l g = rw (h, l, g, e) refl

pub same_floor : (a b x y : ℤ) → a ≡ x → b ≡ y → int_div_euclid a b ≡ int_div_euclid x y
same_floor a b x y e f = rw (e, f) refl

pub same_turned : (t : Ty) (k l : ℕ) (p q : Patterns) → k ≡ l → p ≡ q → turned_patterns t k (λ x. turned_left t x k) p ≡ turned_patterns t l
    (λ x. turned_left t x l) q
same_turned t k l p q e f = rw (e, f) refl

pub same_moved : (t u : Ty) (n m c d : ℤ) (i : Interval) → t ≡ u → n ≡ m → c ≡ d
    → (if int_eq c (pos 0) then shifted_range t n i else turned_range t n i) ≡ (if int_eq d (pos 0) then shifted_range u m i else turned_range u m i)
same_moved t u n m c d i e f g = rw (e, f, g) refl

pub same_set : (t u : Ty) (b c : ℕ) (o p : Option Interval) → t ≡ u → b ≡ c → o ≡ p → option_map (set_bits t b) o ≡ option_map (set_bits u c) p
same_set t u b c o p e f g = rw (e, f, g) refl

pub same_kept : (t u : Ty) (b c : ℕ) (o p : Option Interval) → t ≡ u → b ≡ c → o ≡ p → option_map (kept_bits t b) o ≡ option_map (kept_bits u c) p
same_kept t u b c o p e f g = rw (e, f, g) refl

pub one_in_type : (t : Ty) (b : ℕ) → b < span t → InType t (patterns_from b b)
one_in_type t b h = record { least = h; greatest = h }
