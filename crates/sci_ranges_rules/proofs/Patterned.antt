-- Patterns from a least to a greatest one.
use Rattle.std.proofs.Common.{◌≡◌, ℕ, zero, suc, ◌+◌, ◌-◌, ◌*◌, ◌/◌, ◌%◌, ◌^◌, ◌<◌, ◌≤◌, ℤ, pos, negsuc, ◌≤ℤ◌, ◌<ℤ◌, Bool, true, false, Some, refl, sym, ap, ◌∙◌, arith, subst, cond, ◌&&◌, inl, inr, min, max}
use Rattle.std.proofs.lemmas.Int.{ints}
use Rattle.std.proofs.lemmas.Bool.{cases_lt}
use Rattle.std.proofs.Math.Nat.{pow-suc, mod-lt, pow-le-pow_right, mul_comm}
use Rattle.std.proofs.lemmas.Nat.{pow_pos, shr-shr, shr_split, and_le_l, and_le_r, le_or_l, le_or_r, xor_shr, xor_lt, or_lt, shl-shr, shr_below, pow-add, mul-add-lt}
use Rattle.std.proofs.lemmas.Nat.Bits.{bit_at_and, bit_at_or, bit_at-lt, bit_at-zero, bit_at_ones, bit_at_cat_low, bit_at_cat_high, same_from_bits}
use Rattle.std.specs.Prelude.{int_lt, int_le, nat_eq, unsigned_abs, bit_and, bit_or, bit_xor}
use Rattle.std.specs.Int.{int_rem_euclid, bit_at}
use Rattle.sci_base.specs.declared.Ty.{Ty}
use Rattle.sci_base.specs.declared.Ty.TheVariants.{I32, I16, I8, U32, U16, U8}
use Rattle.sci_base.specs.Fit.{low, high, span, width}
use Rattle.sci_base.specs.Bits.{pattern}
use Rattle.sci_base.proofs.FitLemmas.{rem_bounds, span_pos, span-pow}
use Rattle.sci_forms.proofs.TestLemmas.{nat_same, both_true, int_le_told}
use Rattle.sci_kinds.specs.Table.{number}
use Rattle.sci_ranges_base.specs.declared.interval.Interval.{Interval}
use Rattle.sci_ranges_base.specs.Intervals.{IsIn, from_to}
use Rattle.sci_ranges_base.specs.Cells.{MayBe, valued}
use Rattle.sci_ranges_base.proofs.Numbers.{le_along}
use Rattle.sci_ranges_base.proofs.Fitted.{fit_wrap, wrapped_has}
use Rattle.sci_ranges_rules.proofs.Arithmetic.{div_rises}
use Rattle.sci_ranges_rules.specs.declared.patterns.Patterns.{Patterns}
use Rattle.sci_ranges_rules.specs.Patterns.{InType, HasPattern, patterns_from, has_one_sign, patterns_of, numbers_of, open_to, open_bits, cleared, lowest, highest, and_patterns, or_patterns, xor_patterns, turned_over}

-- ---- the patterns of numbers

abs_below : (z : ℤ) (n : ℕ) → pos 0 ≤ℤ z → z <ℤ pos n → unsigned_abs z < n
abs_below (pos z) n h k = omega (arith, ints, k)
abs_below (negsuc z) n h k = absurd (omega (arith, ints, h))

pub pattern_small : (t : Ty) (v : ℤ) → pattern t v < span t
pattern_small t v = let r = rem_bounds v (span t) (span_pos t) in abs_below (int_rem_euclid v (pos (span t))) (span t) r.0 r.1

-- of a number that isn't below 0, and of one that is
pub pattern_some : (t : Ty) (n : ℕ) → pos n ≤ℤ high t → pattern t (pos n) ≡ n
pattern_some I32 n h = omega (arith, ints, h)
pattern_some I16 n h = omega (arith, ints, h)
pattern_some I8 n h = omega (arith, ints, h)
pattern_some U32 n h = omega (arith, ints, h)
pattern_some U16 n h = omega (arith, ints, h)
pattern_some U8 n h = omega (arith, ints, h)

pub pattern_below : (t : Ty) (n : ℕ) → low t ≤ℤ negsuc n → pattern t (negsuc n) + suc n ≡ span t
pattern_below I32 n h = omega (arith, ints, h)
pattern_below I16 n h = omega (arith, ints, h)
pattern_below I8 n h = omega (arith, ints, h)
pattern_below U32 n h = absurd (omega (arith, ints, h))
pattern_below U16 n h = absurd (omega (arith, ints, h))
pattern_below U8 n h = absurd (omega (arith, ints, h))

-- they rise with the numbers of one sign
some_rise : (t : Ty) (u v : ℤ) → pos 0 ≤ℤ u → u ≤ℤ v → v ≤ℤ high t → pattern t u ≤ pattern t v
some_rise t (negsuc a) v h k l = absurd (omega (arith, ints, h))
some_rise t (pos a) (negsuc b) h k l = absurd (omega (arith, ints, k))
some_rise t (pos a) (pos b) h k l =
    compare (pattern t (pos a)) (pattern t (pos b)) (pattern_some t a (le_along (pos a) (pos b) (high t) k l)) (pattern_some t b l)
  where
    compare : (p q : ℕ) → p ≡ a → q ≡ b → p ≤ q
    compare p q e f = omega (arith, ints, k, e, f)

below_rise : (t : Ty) (u v : ℤ) → low t ≤ℤ u → u ≤ℤ v → v <ℤ pos 0 → pattern t u ≤ pattern t v
below_rise t (pos a) v h k l = absurd (omega (arith, ints, k, l))
below_rise t (negsuc a) (pos b) h k l = absurd (omega (arith, ints, l))
below_rise t (negsuc a) (negsuc b) h k l =
    compare (pattern t (negsuc a)) (pattern t (negsuc b)) (span t) (pattern_below t a h) (pattern_below t b (le_along (low t) (negsuc a) (negsuc b) h k))
  where
    compare : (p q n : ℕ) → p + suc a ≡ n → q + suc b ≡ n → p ≤ q
    compare p q n e f = omega (arith, ints, k, e, f)

pub patterns_have : (t : Ty) (i : Interval) (v : ℤ) → IsIn i v → HasPattern (patterns_of t i) (pattern t v)
patterns_have t i v h = by_sign (int_lt i.greatest (pos 0)) refl
  where
    all : HasPattern (patterns_from 0 (span t - 1)) (pattern t v)
    all = let s = pattern_small t v in record { above = omega arith; below = below_span (pattern t v) (span t) s }
      where
        below_span : (p n : ℕ) → p < n → p ≤ n - 1
        below_span p n h = omega (arith, h)

    by_below : (b : Bool) → i.greatest <ℤ pos 0 → int_le (low t) i.least ≡ b
        → HasPattern (cond b (patterns_from (pattern t i.least) (pattern t i.greatest)) (patterns_from 0 (span t - 1))) (pattern t v)
    by_below true n e =
        let lo = int_le_told (low t) i.least e in
        record {
          above = below_rise t i.least v lo h.above (omega (arith, ints, n, h.below));
          below = below_rise t v i.greatest (le_along (low t) i.least v lo h.above) h.below n;
        }
    by_below false n e = all

    by_some : (b : Bool) → (int_le (pos 0) i.least && int_le i.greatest (high t)) ≡ b
        → HasPattern (cond b (patterns_from (pattern t i.least) (pattern t i.greatest)) (patterns_from 0 (span t - 1))) (pattern t v)
    by_some true e =
        let p = both_true (int_le (pos 0) i.least) (int_le i.greatest (high t)) e in
        let lo = int_le_told (pos 0) i.least p.0 in
        let hi = int_le_told i.greatest (high t) p.1 in
        record {
          above = some_rise t i.least v lo h.above (le_along v i.greatest (high t) h.below hi);
          below = some_rise t v i.greatest (le_along (pos 0) i.least v lo h.above) h.below hi;
        }
    by_some false e = all

    by_sign : (b : Bool) → int_lt i.greatest (pos 0) ≡ b
        → HasPattern (cond (cond b (int_le (low t) i.least) (int_le (pos 0) i.least && int_le i.greatest (high t))) (patterns_from (pattern t i.least) (pattern t i.greatest)) (patterns_from 0 (span t - 1))) (pattern t v)
    by_sign true e = let n : i.greatest <ℤ pos 0 = grind (arith, ints) in by_below (int_le (low t) i.least) n refl
    by_sign false e = by_some (int_le (pos 0) i.least && int_le i.greatest (high t)) refl

pub patterns_in_type : (t : Ty) (i : Interval) → InType t (patterns_of t i)
patterns_in_type t i = by_sign (has_one_sign t i)
  where
    by_sign : (b : Bool) → InType t (cond b (patterns_from (pattern t i.least) (pattern t i.greatest)) (patterns_from 0 (span t - 1)))
    by_sign true = record { least = pattern_small t i.least; greatest = pattern_small t i.greatest }
    by_sign false = let s = span_pos t in record { least = s; greatest = omega (arith, s) }

-- the number of one of the patterns
pub numbers_have : (t : Ty) (p : Patterns) (q : ℕ) → HasPattern p q → MayBe (valued (Some (numbers_of t p))) (number t q)
numbers_have t p q h =
    rw (fit_wrap t (pos q)) (wrapped_has t (from_to (pos p.least) (pos p.greatest)) (pos q) (record { above = omega (arith, ints, h.above); below = omega (arith, ints, h.below) }))

-- ---- bit by bit

-- each bit that is 1 in a is so in b
abbrev pub AreBitsOf : ℕ → ℕ → Type 0
AreBitsOf a b = (i : ℕ) → bit_at a i ≤ bit_at b i

pub bits_le : (a b : ℕ) → AreBitsOf a b → a ≤ b
bits_le a b h =
    let same : bit_and a b ≡ a = same_from_bits (bit_and a b) a (λ i. bit_at_and a b i ∙ lesser (bit_at a i) (bit_at b i) (h i)) in
    subst (λ n. n ≤ b) same (and_le_r a b)
  where
    lesser : (x y : ℕ) → x ≤ y → min x y ≡ x
    lesser x y h = omega (arith, h)

and_bits : (a b c d : ℕ) → AreBitsOf a c → AreBitsOf b d → AreBitsOf (bit_and a b) (bit_and c d)
and_bits a b c d h k i = rw (bit_at_and a b i, bit_at_and c d i) (both (bit_at a i) (bit_at b i) (bit_at c i) (bit_at d i) (h i) (k i))
  where
    both : (w x y z : ℕ) → w ≤ y → x ≤ z → min w x ≤ min y z
    both w x y z h k = omega (arith, h, k)

or_bits : (a b c d : ℕ) → AreBitsOf a c → AreBitsOf b d → AreBitsOf (bit_or a b) (bit_or c d)
or_bits a b c d h k i = rw (bit_at_or a b i, bit_at_or c d i) (both (bit_at a i) (bit_at b i) (bit_at c i) (bit_at d i) (h i) (k i))
  where
    both : (w x y z : ℕ) → w ≤ y → x ≤ z → max w x ≤ max y z
    both w x y z h k = omega (arith, h, k)

-- ---- the bits in common

-- what the open bits are of two patterns of n bits
open_is : (n p q : ℕ) → p < 2 ^ n → q < 2 ^ n → (k : ℕ) × (open_to p q n + 1 ≡ 2 ^ k) × (k ≤ n) × (p / 2 ^ k ≡ q / 2 ^ k)
open_is zero p q h l = (0, refl, omega arith, omega (arith, h, l))
open_is (suc n) p q h l = by_same (nat_eq p q) refl (open_is n (p / 2) (q / 2) (omega (arith, h, pow-suc 2 n)) (omega (arith, l, pow-suc 2 n)))
  where
    halved : (k : ℕ) → p / 2 / 2 ^ k ≡ q / 2 / 2 ^ k → p / 2 ^ suc k ≡ q / 2 ^ suc k
    halved k e =
        let one : 1 + k ≡ suc k = omega arith in
        subst (λ j. p / 2 ^ j ≡ q / 2 ^ j) one (sym (shr-shr p 1 k) ∙ e ∙ shr-shr q 1 k)

    by_same : (b : Bool) → nat_eq p q ≡ b → (k : ℕ) × (open_to (p / 2) (q / 2) n + 1 ≡ 2 ^ k) × (k ≤ n) × (p / 2 / 2 ^ k ≡ q / 2 / 2 ^ k)
        → (k : ℕ) × (cond b 0 (2 * open_to (p / 2) (q / 2) n + 1) + 1 ≡ 2 ^ k) × (k ≤ suc n) × (p / 2 ^ k ≡ q / 2 ^ k)
    by_same true e r = (0, refl, omega arith, ap (λ x. x / 2 ^ 0) (nat_same p q e))
    by_same false e r = (suc r.0, omega (arith, r.1, pow-suc 2 r.0), omega (arith, r.2), halved r.0 r.3)

-- the patterns have all bits from k on in common: those of c
pub record HasInCommon (t : Ty) (p : Patterns) (k c : ℕ) : Type 0 where
  pub opens : open_bits t p + 1 ≡ 2 ^ k
  pub few : k ≤ width t
  pub lowest_is : lowest t p ≡ c * 2 ^ k
  pub highest_is : highest t p ≡ c * 2 ^ k + (2 ^ k - 1)
  pub each : (a : ℕ) → HasPattern p a → a / 2 ^ k ≡ c

-- cleared of the bits below k
pub cleared_is : (a bits k : ℕ) → bits + 1 ≡ 2 ^ k → cleared a bits ≡ a / 2 ^ k * 2 ^ k
cleared_is a bits k e = rw e (rest (a / 2 ^ k * 2 ^ k) (a % 2 ^ k) (shr_split a k))
  where
    rest : (x y : ℕ) → x + y ≡ a → a - y ≡ x
    rest x y e = omega (arith, e)

pub in_common : (t : Ty) (p : Patterns) → InType t p → (k : ℕ) × HasInCommon t p k (p.least / 2 ^ k)
in_common t p i =
    let bits = span-pow t in
    let o = open_is (width t) p.least p.greatest (rw bits at i.least) (rw bits at i.greatest) in
    let low_is = cleared_is p.least (open_bits t p) o.0 o.1 in (
      o.0,
      record {
        opens = o.1;
        few = o.2;
        lowest_is = low_is;
        highest_is = rw low_is (all_ones (p.least / 2 ^ o.0 * 2 ^ o.0) (open_bits t p) (2 ^ o.0) o.1);
        each = λ a h. squeezed (div_rises p.least a (2 ^ o.0) (pow_pos o.0) h.above) (div_rises a p.greatest (2 ^ o.0) (pow_pos o.0) h.below) o.3;
      },
    )
  where
    all_ones : (x y n : ℕ) → y + 1 ≡ n → x + y ≡ x + (n - 1)
    all_ones x y n e = omega (arith, e)

    squeezed : {x y z : ℕ} → x ≤ y → y ≤ z → x ≡ z → y ≡ x
    squeezed h k e = omega (arith, h, k, e)

-- a number with these bits from k on
module _ (k c a : ℕ) (e : a / 2 ^ k ≡ c) where
  split_at : a ≡ c * 2 ^ k + a % 2 ^ k
  split_at = sym (subst (λ n. n * 2 ^ k + a % 2 ^ k ≡ a) e (shr_split a k))

  at_low : (i : ℕ) → i < k → bit_at a i ≡ bit_at (a % 2 ^ k) i
  at_low i l = ap (λ n. bit_at n i) split_at ∙ bit_at_cat_low c k (a % 2 ^ k) i l

  at_high : (i : ℕ) → k ≤ i → bit_at a i ≡ bit_at c (i - k)
  at_high i l = ap (λ n. bit_at n i) split_at ∙ bit_at_cat_high c k (a % 2 ^ k) i (mod-lt a (pow_pos k)) l

  none : (n : ℕ) → n + 0 ≡ n
  none n = omega arith

  pub low_bits : AreBitsOf (c * 2 ^ k) a
  low_bits i = elim (cases_lt i k) [
    | inl l ↦
        let z : bit_at (c * 2 ^ k) i ≡ 0 = subst (λ n. bit_at n i ≡ 0) (none (c * 2 ^ k)) (bit_at_cat_low c k 0 i l ∙ bit_at-zero i) in
        rw z (omega arith)
    | inr l ↦
        let z : bit_at (c * 2 ^ k) i ≡ bit_at c (i - k) = subst (λ n. bit_at n i ≡ bit_at c (i - k)) (none (c * 2 ^ k)) (bit_at_cat_high c k 0 i (pow_pos k) l) in
        rw (z, at_high i l) (omega arith)
  ]

  pub high_bits : AreBitsOf a (c * 2 ^ k + (2 ^ k - 1))
  high_bits i = elim (cases_lt i k) [
    | inl l ↦ rw (bit_at_cat_low c k (2 ^ k - 1) i l ∙ bit_at_ones k i l) (at_most_one (bit_at a i) (bit_at-lt a i))
    | inr l ↦ rw (bit_at_cat_high c k (2 ^ k - 1) i (below_pow (2 ^ k) (pow_pos k)) l, at_high i l) (omega arith)
  ]
    where
      at_most_one : (n : ℕ) → n < 2 → n ≤ 1
      at_most_one n h = omega (arith, h)

      below_pow : (n : ℕ) → 0 < n → n - 1 < n
      below_pow n h = omega (arith, h)

-- the bits of the lowest and the highest pattern
pub lowest_bits : (t : Ty) (p : Patterns) (a : ℕ) → InType t p → HasPattern p a → AreBitsOf (lowest t p) a
lowest_bits t p a i h =
    let c = in_common t p i in
    subst (λ n. AreBitsOf n a) (sym c.1.lowest_is) (low_bits c.0 (p.least / 2 ^ c.0) a (c.1.each a h))

pub highest_bits : (t : Ty) (p : Patterns) (a : ℕ) → InType t p → HasPattern p a → AreBitsOf a (highest t p)
highest_bits t p a i h =
    let c = in_common t p i in
    subst (λ n. AreBitsOf a n) (sym c.1.highest_is) (high_bits c.0 (p.least / 2 ^ c.0) a (c.1.each a h))

-- ---- the operations

module _ (t : Ty) (p q : Patterns) (a b : ℕ) (i : InType t p) (j : InType t q) (h : HasPattern p a) (k : HasPattern q b) where
  pub and_has : HasPattern (and_patterns t p q) (bit_and a b)
  and_has = record {
    above = bits_le (bit_and (lowest t p) (lowest t q)) (bit_and a b) (and_bits (lowest t p) (lowest t q) a b (lowest_bits t p a i h) (lowest_bits t q b j k));
    below = least_of (bit_and a b) p.greatest q.greatest _ (le_of _ _ _ (and_le_l a b) h.below) (le_of _ _ _ (and_le_r a b) k.below)
        (bits_le (bit_and a b) (bit_and (highest t p) (highest t q)) (and_bits a b (highest t p) (highest t q) (highest_bits t p a i h) (highest_bits t q b j k)));
  }
    where
      le_of : (x y z : ℕ) → x ≤ y → y ≤ z → x ≤ z
      le_of x y z p q = omega (arith, p, q)

      least_of : (n x y z : ℕ) → n ≤ x → n ≤ y → n ≤ z → n ≤ min (min x y) z
      least_of n x y z p q r = omega (arith, p, q, r)

  pub or_has : HasPattern (or_patterns t p q) (bit_or a b)
  or_has = record {
    above = greatest_of (bit_or a b) p.least q.least _ (le_of _ _ _ h.above (le_or_l a b)) (le_of _ _ _ k.above (le_or_r a b))
        (bits_le (bit_or (lowest t p) (lowest t q)) (bit_or a b) (or_bits (lowest t p) (lowest t q) a b (lowest_bits t p a i h) (lowest_bits t q b j k)));
    below = bits_le (bit_or a b) (bit_or (highest t p) (highest t q)) (or_bits a b (highest t p) (highest t q) (highest_bits t p a i h) (highest_bits t q b j k));
  }
    where
      le_of : (x y z : ℕ) → x ≤ y → y ≤ z → x ≤ z
      le_of x y z p q = omega (arith, p, q)

      greatest_of : (n x y z : ℕ) → x ≤ n → y ≤ n → z ≤ n → max (max x y) z ≤ n
      greatest_of n x y z p q r = omega (arith, p, q, r)

-- of two powers of 2 less 1 the greater is that of the greater exponent
pub greater_power : (m n x y : ℕ) → x + 1 ≡ 2 ^ m → y + 1 ≡ 2 ^ n → max x y + 1 ≡ 2 ^ max m n
greater_power m n x y e f = elim (cases_lt m n) [
  | inl l ↦
      let d : max m n ≡ n = omega (arith, l) in
      let w : 2 ^ m ≤ 2 ^ n = pow-le-pow_right {n = 2} (omega arith) (omega (arith, l)) in
      rw d (omega (arith, e, f, w))
  | inr l ↦
      let d : max m n ≡ m = omega (arith, l) in
      let w : 2 ^ n ≤ 2 ^ m = pow-le-pow_right {n = 2} (omega arith) (omega (arith, l)) in
      rw d (omega (arith, e, f, w))
]

-- ---- the operations stay among the bits of the type

-- a block of patterns that begins below a power of 2 ends below it
block_below : (w k a : ℕ) → k ≤ w → a < 2 ^ w → a / 2 ^ k * 2 ^ k + (2 ^ k - 1) < 2 ^ w
block_below w k a l h =
    let j = w - k in
    let e : j + k ≡ w = omega (arith, l) in
    let few : a / 2 ^ k < 2 ^ j = shr_below a j k (subst (λ n. a < 2 ^ n) (sym e) h) in
    let all : 2 ^ w ≡ 2 ^ j * 2 ^ k = ap (λ n. 2 ^ n) (sym e) ∙ pow-add 2 j k in
    rw all (ends (a / 2 ^ k) (2 ^ j) (2 ^ k) few (pow_pos k))
  where
    ends : (x y n : ℕ) → x < y → 0 < n → x * n + (n - 1) < y * n
    ends x y n h p = omega (arith, mul-add-lt x n (n - 1) y h (omega (arith, p)), mul_comm n y)

highest_in_type : (t : Ty) (p : Patterns) → InType t p → highest t p < span t
highest_in_type t p i =
    let bits = span-pow t in
    let c = in_common t p i in
    rw bits (subst (λ n. n < 2 ^ width t) (sym c.1.highest_is) (block_below (width t) c.0 p.least c.1.few (rw bits at i.least)))

lowest_in_type : (t : Ty) (p : Patterns) → InType t p → lowest t p < span t
lowest_in_type t p i = falls (span t) p.least (p.least % (open_bits t p + 1)) i.least
  where
    falls : (n x y : ℕ) → x < n → x - y < n
    falls n x y h = omega (arith, h)

module _ (t : Ty) (p q : Patterns) (i : InType t p) (j : InType t q) where
  pub and_in_type : InType t (and_patterns t p q)
  and_in_type = record {
    least = below (bit_and (lowest t p) (lowest t q)) (lowest t p) (span t) (and_le_l (lowest t p) (lowest t q)) (lowest_in_type t p i);
    greatest = least_below (span t) p.greatest q.greatest _ i.greatest;
  }
    where
      below : (x y n : ℕ) → x ≤ y → y < n → x < n
      below x y n h k = omega (arith, h, k)

      least_below : (n x y z : ℕ) → x < n → min (min x y) z < n
      least_below n x y z h = omega (arith, h)

  or_below : (x y : ℕ) → x < span t → y < span t → bit_or x y < span t
  or_below x y h k = let bits = span-pow t in rw bits (or_lt (width t) x y (rw bits at h) (rw bits at k))

  pub or_in_type : InType t (or_patterns t p q)
  or_in_type = record {
    least = greatest_below (span t) p.least q.least _ i.least j.least (or_below (lowest t p) (lowest t q) (lowest_in_type t p i) (lowest_in_type t q j));
    greatest = or_below (highest t p) (highest t q) (highest_in_type t p i) (highest_in_type t q j);
  }
    where
      greatest_below : (n x y z : ℕ) → x < n → y < n → z < n → max (max x y) z < n
      greatest_below n x y z h k l = omega (arith, h, k, l)

  pub xor_in_type : InType t (xor_patterns t p q)
  xor_in_type =
      let bits = span-pow t in
      let c = in_common t p i in
      let d = in_common t q j in
      let n = max c.0 d.0 in
      let opens = greater_power c.0 d.0 (open_bits t p) (open_bits t q) c.1.opens d.1.opens in
      let common = bit_xor (lowest t p) (lowest t q) in
      let low_is = cleared_is common (max (open_bits t p) (open_bits t q)) n opens in
      let few : n ≤ width t = greater_few c.0 d.0 (width t) c.1.few d.1.few in
      let small : common < 2 ^ width t = xor_lt (width t) (lowest t p) (lowest t q) (rw bits at (lowest_in_type t p i)) (rw bits at (lowest_in_type t q j)) in
      let end : cleared common (max (open_bits t p) (open_bits t q)) + max (open_bits t p) (open_bits t q) < span t =
      rw bits (ends _ _ _ (2 ^ width t) low_is opens (block_below (width t) n common few small)) in
      record { least = before (cleared common (max (open_bits t p) (open_bits t q))) (max (open_bits t p) (open_bits t q)) (span t) end; greatest = end }
    where
      greater_few : (x y n : ℕ) → x ≤ n → y ≤ n → max x y ≤ n
      greater_few x y n h k = omega (arith, h, k)

      ends : (x y n m : ℕ) {z : ℕ} → x ≡ z → y + 1 ≡ n → z + (n - 1) < m → x + y < m
      ends x y n m e f h = omega (arith, e, f, h)

      before : (x y n : ℕ) → x + y < n → x < n
      before x y n h = omega (arith, h)

-- turned over
pub turned_over_has : (t : Ty) (p : Patterns) (a : ℕ) → HasPattern p a → HasPattern (turned_over t p) ((span t - 1) - a)
turned_over_has t p a h = record { above = falls (span t - 1) a p.greatest h.below; below = falls (span t - 1) p.least a h.above }
  where
    falls : (n x y : ℕ) → x ≤ y → n - y ≤ n - x
    falls n x y h = omega (arith, h)

-- exclusive OR: the bits from the greater of both numbers of open bits on are in common
module _ (t : Ty) (p q : Patterns) (a b : ℕ) (i : InType t p) (j : InType t q) (h : HasPattern p a) (k : HasPattern q b) where
  -- a number and the lowest one have the same bits from any place on that isn't below
  same_above : (m n c x y : ℕ) → m ≤ n → x / 2 ^ m ≡ c → y ≡ c * 2 ^ m → x / 2 ^ n ≡ y / 2 ^ n
  same_above m n c x y l e f =
      let d : m + (n - m) ≡ n = omega (arith, l) in
      let z : y / 2 ^ m ≡ c = rw f (shl-shr c m) in
      subst (λ o. x / 2 ^ o ≡ y / 2 ^ o) d (sym (shr-shr x m (n - m)) ∙ ap (λ w. w / 2 ^ (n - m)) (e ∙ sym z) ∙ shr-shr y m (n - m))

  pub xor_has : HasPattern (xor_patterns t p q) (bit_xor a b)
  xor_has =
      let c = in_common t p i in
      let d = in_common t q j in
      let n = max c.0 d.0 in
      let opens = greater_power c.0 d.0 (open_bits t p) (open_bits t q) c.1.opens d.1.opens in
      let left = same_above c.0 n (p.least / 2 ^ c.0) a (lowest t p) (omega arith) (c.1.each a h) c.1.lowest_is in
      let right = same_above d.0 n (q.least / 2 ^ d.0) b (lowest t q) (omega arith) (d.1.each b k) d.1.lowest_is in
      let same : bit_xor a b / 2 ^ n ≡ bit_xor (lowest t p) (lowest t q) / 2 ^ n = xor_shr a b n ∙ both left right ∙ sym (xor_shr (lowest t p) (lowest t q) n) in
      let low_is = cleared_is (bit_xor (lowest t p) (lowest t q)) (max (open_bits t p) (open_bits t q)) n opens in
      placed (bit_xor a b) (bit_xor (lowest t p) (lowest t q)) n _ _ low_is opens same
    where
      both : {w x y z : ℕ} → w ≡ y → x ≡ z → bit_xor w x ≡ bit_xor y z
      both e f = rw (e, f) refl

      placed : (x y n least more : ℕ) → least ≡ y / 2 ^ n * 2 ^ n → more + 1 ≡ 2 ^ n → x / 2 ^ n ≡ y / 2 ^ n → HasPattern (patterns_from least (least + more)) x
      placed x y n least more e f g =
          let s : x / 2 ^ n * 2 ^ n + x % 2 ^ n ≡ x = shr_split x n in
          let r : x % 2 ^ n < 2 ^ n = mod-lt x (pow_pos n) in
          let base : least ≡ x / 2 ^ n * 2 ^ n = e ∙ ap (λ w. w * 2 ^ n) (sym g) in
          record { above = omega (arith, base, s); below = omega (arith, base, s, r, f) }
