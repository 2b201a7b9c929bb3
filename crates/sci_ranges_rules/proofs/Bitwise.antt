-- LOGICAL_OP on bits, SHIFT, BITSET, BITCLEAR, EXTRACTBITS.
use Rattle.std.proofs.Common.{◌≡◌, ◌≢◌, ℕ, zero, suc, ◌-◌, ◌+◌, ◌*◌, ◌/◌, ◌%◌, ◌^◌, ◌<◌, ◌≤◌, ℤ, pos, negsuc, ◌+ℤ◌, ◌-ℤ◌, ◌*ℤ◌, ◌≤ℤ◌, ◌<ℤ◌, length, Bool, true, false, Option, Some, None, refl, sym, ap, ◌∙◌, arith, subst, cond, inl, inr}
use Rattle.std.proofs.lemmas.Int.{ints}
use Rattle.std.proofs.lemmas.Bool.Decides.{nat_tests}
use Rattle.std.proofs.Math.IntN.{*ℤ_comm}
use Rattle.std.proofs.Math.Pow.{mod-mod-pow}
use Rattle.std.proofs.lemmas.Bool.{cases_lt}
use Rattle.std.proofs.Math.Nat.{mod-lt, mod-le, zero-mul, mul-mod_left, mul-le-mul_right}
use Rattle.std.proofs.lemmas.Nat.{pow_pos, pow_below, pow-add, and-not, and_comm, field_of, shr_split, shl-shr, shr-shr, shr_below, mod-pow-add, mod_below, mul-add-lt, mod-mul-add}
use Rattle.std.proofs.lemmas.Nat.Bits.{and_pow, bit_at-lt}
use Rattle.std.specs.Prelude.{unsigned_abs, int_lt, nat_eq, option_map, bit_and}
use Rattle.std.specs.Int.{int_min, int_max, int_rem_euclid, int_div_euclid, bit_at}
use Rattle.sci_base.specs.declared.Ty.{Ty}
use Rattle.sci_base.specs.declared.Ty.TheVariants.{I32, I16, I8, U32, U16, U8}
use Rattle.sci_base.specs.declared.Mode.TheVariants.{Wrap}
use Rattle.sci_base.specs.Fit.{width, span, low, high, wrap, fit, int_eq}
use Rattle.sci_base.specs.Bits.{pattern, set_bit, clear_bit, bits_from_to, turned_left}
use Rattle.sci_base.proofs.FitLemmas.{span-pow, rem_bounds, low+span}
use Rattle.sci_forms.specs.declared.spec.Spec.{Spec}
use Rattle.sci_forms.specs.Words.{param, out_type}
use Rattle.sci_forms.proofs.TestLemmas.{nat_same}
use Rattle.sci_kinds.specs.declared.Cell.TheVariants.{Value}
use Rattle.sci_kinds.specs.Table.{truth, logical, logical_bits, count_to, fitted, logical_cell, shift_cell, shifted, turned, number}
use Rattle.sci_ranges_base.specs.declared.interval.Interval.{Interval}
use Rattle.sci_ranges_base.specs.Intervals.{IsIn, IsInSome, times, at_ends}
use Rattle.sci_ranges_base.specs.Cells.{MayBe, valued}
use Rattle.sci_ranges_base.specs.Fitting.{wrapped_up_to}
use Rattle.sci_ranges_base.proofs.Numbers.{above_max, below_min, times_has, ends_have}
use Rattle.sci_ranges_base.proofs.Fitted.{fit_wrap, floor_rises, wrapped_up_to_has}
use Rattle.sci_ranges_rules.specs.declared.patterns.Patterns.{Patterns}
use Rattle.sci_ranges_rules.specs.Patterns.{InType, HasPattern, patterns_from, patterns_of, numbers_of, or_patterns, and_patterns, turned_patterns, extracted}
use Rattle.sci_ranges_rules.specs.Words.{sums, truth_range, logical_range, all_joined, turned_by, below_zero, from_zero, by_sign, set_bits, kept_bits, shifted_range, turned_range}
use Rattle.sci_ranges_rules.specs.Rules.{logical_cells}
use Rattle.sci_ranges_rules.proofs.Handing.{join_has}
use Rattle.sci_ranges_rules.proofs.Arithmetic.{part_has, div_rises}
use Rattle.sci_ranges_rules.proofs.Deciding.{counts_have, logical_has}
use Rattle.sci_ranges_rules.proofs.Patterned.{pattern_small, patterns_have, patterns_in_type, numbers_have, and_has, or_has}
use Rattle.sci_ranges_rules.proofs.Joining.{join_of, HasSome, joined_to, joined_is, turned_number, logical_is, all_have, turned_has}

-- ---- LOGICAL_OP

-- numbers of patterns that are there
some_numbers : (t : Ty) (op : ℤ) (o : Option Patterns) (q : ℕ) → HasSome t o q → MayBe (valued (option_map (λ p. numbers_of t (turned_by t op p)) o)) (number t (turned_number t op q))
some_numbers t op None q h = absurd h
some_numbers t op (Some p) q h = numbers_have t (turned_by t op p) (turned_number t op q) (turned_has t op p q h.1)

bits_have : (t : Ty) (op : ℤ) (f : ℕ → Option Interval) (g : ℕ → ℤ) (n : ℕ) → ((k : ℕ) → k < n → IsInSome (f k) (g k)) → 1 ≤ n
    → MayBe (valued (option_map (λ p. numbers_of t (turned_by t op p)) (all_joined t op f (n - 1)))) (number t (logical_bits t op n g))
bits_have t op f g zero h some = absurd (omega (arith, some))
bits_have t op f g (suc n) h some =
    let same : logical_bits t op (suc n) g ≡ turned_number t op (joined_to (join_of op) t g n) = logical_is t op (suc n) g _ (joined_is t (join_of op) g n) in
    let less : suc n - 1 ≡ n = omega arith in
    subst (λ q. MayBe (valued (option_map (λ p. numbers_of t (turned_by t op p)) (all_joined t op f (suc n - 1)))) (number t q)) (sym same)
    (subst (λ m. MayBe (valued (option_map (λ p. numbers_of t (turned_by t op p)) (all_joined t op f m))) (number t (turned_number t op (joined_to (join_of op) t g n)))) (sym less)
    (some_numbers t op (all_joined t op f n) (joined_to (join_of op) t g n) (all_have t op f g n h)))

pub logical_cells_have : (s : Spec) (f : ℕ → Option Interval) (g : ℕ → ℤ) → ((k : ℕ) → k < length s.ins → IsInSome (f k) (g k)) → 1 ≤ length s.ins
    → MayBe (logical_cells s f) (logical_cell (out_type s) (param s 0) (param s 1) (length s.ins) g)
logical_cells_have s f g h some = by_code (int_eq (param s 1) (pos 0))
  where
    by_code : (b : Bool)
        → MayBe (cond b (valued (option_map (logical_range (param s 0) (length s.ins)) (sums (λ k. option_map truth_range (f k)) (length s.ins))))
        (valued (option_map (λ p. numbers_of (out_type s) (turned_by (out_type s) (param s 0) p)) (all_joined (out_type s) (param s 0) f (length s.ins - 1)))))
        (cond b (Value (truth (logical (param s 0) (length s.ins) (count_to g (length s.ins))))) (number (out_type s) (logical_bits (out_type s) (param s 0) (length s.ins) g)))
    by_code true = logical_has (param s 0) (length s.ins) (count_to g (length s.ins)) (sums (λ k. option_map truth_range (f k)) (length s.ins)) (counts_have f g (length s.ins) h)
    by_code false = bits_have (out_type s) (param s 0) f g (length s.ins) h some

-- ---- one bit

-- a pattern of the numbers below 0, or of the others
by_sign_has : (t : Ty) (f : Interval → Interval) (i : Interval) (v : ℤ) (q : ℕ) → IsIn i v → ((j : Interval) → IsIn j v → IsIn (f j) (wrap t (pos q))) → MayBe (valued (by_sign f i)) (number t q)
by_sign_has t f i (negsuc n) q h g =
    let hi : negsuc n ≤ℤ int_min i.greatest (negsuc 0) = below_min i.greatest (negsuc 0) (negsuc n) h.below (omega (arith, ints)) in
    rw (fit_wrap t (pos q)) (join_has (option_map f (below_zero i)) (option_map f (from_zero i)) (wrap t (pos q)) (inl (part_has i.least (int_min i.greatest (negsuc 0)) (negsuc n) f (wrap t (pos q)) h.above hi (λ p. g _ p))))
by_sign_has t f i (pos n) q h g =
    let lo : int_max i.least (pos 0) ≤ℤ pos n = above_max i.least (pos 0) (pos n) h.above (omega (arith, ints)) in
    rw (fit_wrap t (pos q)) (join_has (option_map f (below_zero i)) (option_map f (from_zero i)) (wrap t (pos q)) (inr (part_has (int_max i.least (pos 0)) i.greatest (pos n) f (wrap t (pos q)) lo h.below (λ p. g _ p))))

-- the number of a pattern
number_in : (t : Ty) (p : Patterns) (q : ℕ) → HasPattern p q → IsIn (numbers_of t p) (wrap t (pos q))
number_in t p q h = subst (λ c. MayBe (valued (Some (numbers_of t p))) c) (ap fitted (fit_wrap t (pos q))) (numbers_have t p q h)

-- one pattern alone
alone : (q : ℕ) → HasPattern (patterns_from q q) q
alone q = record { above = omega arith; below = omega arith }

alone_in_type : (t : Ty) (q : ℕ) → q < span t → InType t (patterns_from q q)
alone_in_type t q h = record { least = h; greatest = h }

bit_in_type : (t : Ty) (k : ℕ) → k < width t → 2 ^ k < span t
bit_in_type t k h = rw span-pow (pow_below k (width t) h)

pub set_bit_has : (t : Ty) (k : ℕ) (i : Interval) (v : ℤ) → IsIn i v → k < width t → MayBe (valued (by_sign (set_bits t (2 ^ k)) i)) (number t (set_bit (pattern t v) k))
set_bit_has t k i v h few =
    by_sign_has t (set_bits t (2 ^ k)) i v (set_bit (pattern t v) k) h
    (λ j l. number_in t (or_patterns t (patterns_of t j) (patterns_from (2 ^ k) (2 ^ k))) (set_bit (pattern t v) k)
    (or_has t (patterns_of t j) (patterns_from (2 ^ k) (2 ^ k)) (pattern t v) (2 ^ k) (patterns_in_type t j) (alone_in_type t (2 ^ k) (bit_in_type t k few)) (patterns_have t j v l) (alone (2 ^ k))))

-- to clear a bit is to keep all others
clear_is_and : (t : Ty) (p k : ℕ) → p < span t → k < width t → clear_bit p k ≡ bit_and p ((span t - 1) - 2 ^ k)
clear_is_and t p k h few =
    let bits = span-pow t in
    let parts : bit_and (2 ^ width t - 1 - 2 ^ k) p + bit_and (2 ^ k) p ≡ p = and-not (width t) (2 ^ k) p (pow_below k (width t) few) (rw bits at h) in
    let one : bit_and (2 ^ k) p ≡ bit_at p k * 2 ^ k = and_comm (2 ^ k) p ∙ and_pow p k in
    let mask : bit_and p ((span t - 1) - 2 ^ k) ≡ bit_and (2 ^ width t - 1 - 2 ^ k) p = rw bits (and_comm p (2 ^ width t - 1 - 2 ^ k)) in
    by_bit (nat_eq (bit_at p k) 1) refl (bit_and (2 ^ width t - 1 - 2 ^ k) p) parts one ∙ sym mask
  where
    by_bit : (b : Bool) → nat_eq (bit_at p k) 1 ≡ b → (x : ℕ) {y : ℕ} → x + y ≡ p → y ≡ bit_at p k * 2 ^ k → cond b (p - 2 ^ k) p ≡ x
    by_bit true e x s o = let d : bit_at p k ≡ 1 = nat_same (bit_at p k) 1 e in taken (bit_at p k) (2 ^ k) d s o
      where
        taken : (d n : ℕ) {y : ℕ} → d ≡ 1 → x + y ≡ p → y ≡ d * n → p - n ≡ x
        taken d n e s o = omega (arith, s, rw e at o)
    by_bit false e x s o = let d : bit_at p k ≢ 1 = grind (arith, nat_tests) in none (bit_at p k) (2 ^ k) d (bit_at-lt p k) s o
      where
        none : (d n : ℕ) {y : ℕ} → d ≢ 1 → d < 2 → x + y ≡ p → y ≡ d * n → p ≡ x
        none d n e l s o = let z : d ≡ 0 = omega (arith, e, l) in omega (arith, s, rw z at o)

pub clear_bit_has : (t : Ty) (k : ℕ) (i : Interval) (v : ℤ) → IsIn i v → k < width t
    → MayBe (valued (by_sign (kept_bits t ((span t - 1) - 2 ^ k)) i)) (number t (clear_bit (pattern t v) k))
clear_bit_has t k i v h few =
    let mask = (span t - 1) - 2 ^ k in
    let small : mask < span t = below (span t) (2 ^ k) (bit_in_type t k few) in
    subst (λ q. MayBe (valued (by_sign (kept_bits t mask) i)) (number t q)) (sym (clear_is_and t (pattern t v) k (pattern_small t v) few))
    (by_sign_has t (kept_bits t mask) i v (bit_and (pattern t v) mask) h
    (λ j l. number_in t (and_patterns t (patterns_of t j) (patterns_from mask mask)) (bit_and (pattern t v) mask)
    (and_has t (patterns_of t j) (patterns_from mask mask) (pattern t v) mask (patterns_in_type t j) (alone_in_type t mask small) (patterns_have t j v l) (alone mask))))
  where
    below : (n x : ℕ) → x < n → (n - 1) - x < n
    below n x h = omega (arith, h)

-- ---- bits from a place on

-- where the bits from place m on are in common, the rest below rises with the pattern
rest_rises : (m x y : ℕ) → x ≤ y → x / 2 ^ m ≡ y / 2 ^ m → x % 2 ^ m ≤ y % 2 ^ m
rest_rises m x y h e = rises (x / 2 ^ m * 2 ^ m) (x % 2 ^ m) (y % 2 ^ m) (shr_split x m) (rw (← e) at (shr_split y m))
  where
    rises : (c r s : ℕ) → c + r ≡ x → c + s ≡ y → r ≤ s
    rises c r s p q = omega (arith, h, p, q)

-- the quotients of the ends are those of all between
between_same : (n a b q : ℕ) → 0 < n → a ≤ q → q ≤ b → a / n ≡ b / n → (a / n ≡ q / n) × (q / n ≡ b / n)
between_same n a b q p h k e = squeezed (a / n) (q / n) (b / n) (div_rises a q n p h) (div_rises q b n p k) e
  where
    squeezed : (x y z : ℕ) → x ≤ y → y ≤ z → x ≡ z → (x ≡ y) × (y ≡ z)
    squeezed x y z h k e = (omega (arith, h, k, e), omega (arith, h, k, e))

-- n bits from place a on rise with the pattern where those above them are in common
field_rises : (a n x y : ℕ) → x ≤ y → x / 2 ^ (a + n) ≡ y / 2 ^ (a + n) → x / 2 ^ a % 2 ^ n ≤ y / 2 ^ a % 2 ^ n
field_rises a n x y h e =
    let turn : a + n ≡ n + a = omega arith in
    let same : x / 2 ^ (n + a) ≡ y / 2 ^ (n + a) = subst (λ m. x / 2 ^ m ≡ y / 2 ^ m) turn e in
    rw (← field_of x n a, ← field_of y n a) (div_rises (x % 2 ^ (n + a)) (y % 2 ^ (n + a)) (2 ^ a) (pow_pos a) (rest_rises (n + a) x y h same))

extracted_has : (a n : ℕ) (p : Patterns) (q : ℕ) → HasPattern p q → HasPattern (extracted a n p) (q / 2 ^ a % 2 ^ n)
extracted_has a n p q h = by_common (nat_eq (p.least / 2 ^ (a + n)) (p.greatest / 2 ^ (a + n))) refl
  where
    by_common : (b : Bool) → nat_eq (p.least / 2 ^ (a + n)) (p.greatest / 2 ^ (a + n)) ≡ b
        → HasPattern (cond b (patterns_from (p.least / 2 ^ a % 2 ^ n) (p.greatest / 2 ^ a % 2 ^ n)) (patterns_from 0 (2 ^ n - 1))) (q / 2 ^ a % 2 ^ n)
    by_common true e =
        let s = between_same (2 ^ (a + n)) p.least p.greatest q (pow_pos (a + n)) h.above h.below (nat_same _ _ e) in
        record { above = field_rises a n p.least q h.above s.0; below = field_rises a n q p.greatest h.below s.1 }
    by_common false e = record { above = omega arith; below = below (q / 2 ^ a % 2 ^ n) (2 ^ n) (mod-lt (q / 2 ^ a) (pow_pos n)) }
      where
        below : (x m : ℕ) → x < m → x ≤ m - 1
        below x m h = omega (arith, h)

pub extract_has : (t : Ty) (a b : ℕ) (i : Interval) (v : ℤ) → IsIn i v
    → MayBe (valued (Some (numbers_of t (extracted a ((b - a) + 1) (patterns_of t i))))) (number t (bits_from_to (pattern t v) a b))
extract_has t a b i v h =
    numbers_have t (extracted a ((b - a) + 1) (patterns_of t i)) (bits_from_to (pattern t v) a b)
    (extracted_has a ((b - a) + 1) (patterns_of t i) (pattern t v) (patterns_have t i v h))

-- ---- turned

-- a pattern turned left by k places: its w - k bits below go up, the others come in from below
turned_is : (w k p : ℕ) → p < 2 ^ w → k < w → (p * 2 ^ k % 2 ^ w ≡ (p % 2 ^ (w - k)) * 2 ^ k) × (p * 2 ^ k / 2 ^ w ≡ p / 2 ^ (w - k))
turned_is w k p b h =
    let j = w - k in
    let e : w ≡ j + k = omega (arith, h) in
    let f : w ≡ k + j = omega (arith, h) in
    let down : p * 2 ^ k / 2 ^ w ≡ p / 2 ^ j = ap (λ n. p * 2 ^ k / 2 ^ n) f ∙ (sym (shr-shr (p * 2 ^ k) k j) ∙ ap (λ n. n / 2 ^ j) (shl-shr p k)) in
    let zero_low : p * 2 ^ k % 2 ^ k ≡ 0 = mul-mod_left p (2 ^ k) in
    (ap (λ n. p * 2 ^ k % 2 ^ n) e ∙ (mod-pow-add (p * 2 ^ k) j k ∙ rw (shl-shr p k, zero_low) (omega arith)), down)

-- turned patterns rise with the patterns where the bits that go round are in common
turned_rises : (w k x y : ℕ) → x < 2 ^ w → y < 2 ^ w → k < w → x ≤ y → x / 2 ^ (w - k) ≡ y / 2 ^ (w - k)
    → x * 2 ^ k % 2 ^ w + x * 2 ^ k / 2 ^ w ≤ y * 2 ^ k % 2 ^ w + y * 2 ^ k / 2 ^ w
turned_rises w k x y b c h l e =
    let p = turned_is w k x b h in
    let q = turned_is w k y c h in
    let r = mul-le-mul_right (2 ^ k) (rest_rises (w - k) x y l e) in
    rw (p.0, p.1, q.0, q.1, e) (omega (arith, r))

turned_small : (w k p : ℕ) → p < 2 ^ w → k < w → p * 2 ^ k % 2 ^ w + p * 2 ^ k / 2 ^ w < 2 ^ w
turned_small w k p b h =
    let j = w - k in
    let f : w ≡ k + j = omega (arith, h) in
    let t = turned_is w k p b h in
    let part : p % 2 ^ j < 2 ^ j = mod_below p (2 ^ j) (pow_pos j) in
    let all = mul-add-lt (p % 2 ^ j) (2 ^ k) (p / 2 ^ j) (2 ^ j) part (shr_below p k j (subst (λ n. p < 2 ^ n) f b)) in
    let whole : 2 ^ w ≡ 2 ^ k * 2 ^ j = ap (λ n. 2 ^ n) f ∙ pow-add 2 k j in
    rw (t.0, t.1, whole) all

turned_patterns_have : (t : Ty) (k : ℕ) (p : Patterns) (q : ℕ) → InType t p → q < span t → k < width t → HasPattern p q → HasPattern (turned_patterns t k (λ n. turned_left t n k) p) (turned_left t q k)
turned_patterns_have t k p q i small few h = by_common (nat_eq (p.least / 2 ^ (width t - k)) (p.greatest / 2 ^ (width t - k))) refl
  where
    rises : (x y : ℕ) → x < span t → y < span t → x ≤ y → x / 2 ^ (width t - k) ≡ y / 2 ^ (width t - k) → turned_left t x k ≤ turned_left t y k
    rises x y a b l e =
        let bits = span-pow t in
        rw bits (turned_rises (width t) k x y (rw bits at a) (rw bits at b) few l e)

    by_common : (b : Bool) → nat_eq (p.least / 2 ^ (width t - k)) (p.greatest / 2 ^ (width t - k)) ≡ b
        → HasPattern (cond b (patterns_from (turned_left t p.least k) (turned_left t p.greatest k)) (patterns_from 0 (span t - 1))) (turned_left t q k)
    by_common true e =
        let s = between_same (2 ^ (width t - k)) p.least p.greatest q (pow_pos (width t - k)) h.above h.below (nat_same _ _ e) in
        record { above = rises p.least q i.least small h.above s.0; below = rises q p.greatest small i.greatest h.below s.1 }
    by_common false e = let bits = span-pow t in record { above = omega arith; below = rw bits (below _ _ (turned_small (width t) k q (rw bits at small) few)) }
      where
        below : (x m : ℕ) → x < m → x ≤ m - 1
        below x m h = omega (arith, h)

-- the places of a turn
places : (t : Ty) (n : ℤ) → unsigned_abs (int_rem_euclid n (pos (width t))) < width t
places t n =
    let some : 0 < width t = width_pos t in
    let r = rem_bounds n (width t) some in
    abs_below (int_rem_euclid n (pos (width t))) (width t) r.0 r.1
  where
    width_pos : (t : Ty) → 0 < width t
    width_pos I32 = omega arith
    width_pos I16 = omega arith
    width_pos I8 = omega arith
    width_pos U32 = omega arith
    width_pos U16 = omega arith
    width_pos U8 = omega arith

    abs_below : (z : ℤ) (n : ℕ) → pos 0 ≤ℤ z → z <ℤ pos n → unsigned_abs z < n
    abs_below (pos z) n h k = omega (arith, ints, k)
    abs_below (negsuc z) n h k = absurd (omega (arith, ints, h))

turned_have : (t : Ty) (n : ℤ) (i : Interval) (v : ℤ) → IsIn i v → MayBe (valued (Some (turned_range t n i))) (turned t n v)
turned_have t n i v h =
    let k = unsigned_abs (int_rem_euclid n (pos (width t))) in
    numbers_have t (turned_patterns t k (λ p. turned_left t p k) (patterns_of t i)) (turned_left t (pattern t v) k)
    (turned_patterns_have t k (patterns_of t i) (pattern t v) (patterns_in_type t i) (pattern_small t v) (places t n) (patterns_have t i v h))

-- ---- shifted

-- so many times f, or so many times f below 0
data IsMultiple (f : ℕ) (z : ℤ) : Type 0 where
  times_above : (c : ℕ) → z ≡ pos (c * f) → IsMultiple f z
  times_below : (c : ℕ) → z +ℤ pos (c * f) ≡ pos 0 → IsMultiple f z

-- the rest by a greater power and then by a lesser one
mod_again : (w k a : ℕ) → k ≤ w → a % 2 ^ w % 2 ^ k ≡ a % 2 ^ k
mod_again w k a h = let d : (w - k) + k ≡ w = omega (arith, h) in subst (λ n. a % 2 ^ n % 2 ^ k ≡ a % 2 ^ k) d (mod-mod-pow a (w - k) k)

-- of a number below 2 to the w the rest by 2 to the k is 0: it is at most 2 to the w less 2 to the k
at_most : (w k x : ℕ) → k ≤ w → x < 2 ^ w → x % 2 ^ k ≡ 0 → x + 2 ^ k ≤ 2 ^ w
at_most w k x l h e =
    let j = w - k in
    let d : j + k ≡ w = omega (arith, l) in
    let few : x / 2 ^ k < 2 ^ j = shr_below x j k (subst (λ n. x < 2 ^ n) (sym d) h) in
    let whole : 2 ^ w ≡ 2 ^ j * 2 ^ k = ap (λ n. 2 ^ n) (sym d) ∙ pow-add 2 j k in
    let m : (x / 2 ^ k + 1) * 2 ^ k ≤ 2 ^ j * 2 ^ k = mul-le-mul_right (2 ^ k) (up (x / 2 ^ k) (2 ^ j) few) in
    rw whole (ends (x / 2 ^ k) (2 ^ k) (2 ^ j * 2 ^ k) m (shr_split x k))
  where
    up : (x y : ℕ) → x < y → x + 1 ≤ y
    up x y h = omega (arith, h)

    ends : (q n m : ℕ) → (q + 1) * n ≤ m → q * n + x % 2 ^ k ≡ x → x + n ≤ m
    ends q n m h s = let d : (q + 1) * n ≡ q * n + n = grind arith in omega (arith, h, s, d, e)

-- a multiple of 2 to the k has such a remainder by 2 to the w
rest_above : (w k a : ℕ) → k ≤ w → a % 2 ^ k ≡ 0 → int_rem_euclid (pos a) (pos (2 ^ w)) ≤ℤ (pos (2 ^ w) -ℤ pos (2 ^ k))
rest_above w k a l h =
    let m = at_most w k (a % 2 ^ w) l (mod_below a (2 ^ w) (pow_pos w)) (mod_again w k a l ∙ h) in
    as_signed (a % 2 ^ w) (2 ^ k) (2 ^ w) m
  where
    as_signed : (x n m : ℕ) → x + n ≤ m → pos x ≤ℤ (pos m -ℤ pos n)
    as_signed x n m h = omega (arith, ints, h)

multiple_rest : (w k : ℕ) (z : ℤ) → k ≤ w → IsMultiple (2 ^ k) z → int_rem_euclid z (pos (2 ^ w)) ≤ℤ (pos (2 ^ w) -ℤ pos (2 ^ k))
multiple_rest w k z l (times_above c e) = rw e (rest_above w k (c * 2 ^ k) l (mul-mod_left c (2 ^ k)))
multiple_rest w k (pos a) l (times_below c e) =
    let none : a ≡ 0 * 2 ^ k = sum_zero a (c * 2 ^ k) e ∙ sym (zero-mul (2 ^ k)) in
    rest_above w k a l (subst (λ x. x % 2 ^ k ≡ 0) (sym none) (mul-mod_left 0 (2 ^ k)))
  where
    sum_zero : (a x : ℕ) → pos a +ℤ pos x ≡ pos 0 → a ≡ 0
    sum_zero a x e = omega (arith, ints, e)
multiple_rest w k (negsuc a) l (times_below zero e) = absurd (none (2 ^ k) e)
  where
    none : (n : ℕ) → negsuc a +ℤ pos (0 * n) ≡ pos 0 → ⊥
    none n e = let z : pos (0 * n) ≡ pos 0 = ap pos (zero-mul n) in omega (arith, ints, e, z)
multiple_rest w k (negsuc a) l (times_below (suc c) e) =
    let last : a % 2 ^ k + 1 ≡ 2 ^ k = rest_of (2 ^ k) (pow_pos k) e in
    let again = mod_again w k a l in
    let least : a % 2 ^ k ≤ a % 2 ^ w = subst (λ x. x ≤ a % 2 ^ w) again (mod-le (a % 2 ^ w) (2 ^ k)) in
    as_signed (a % 2 ^ w) (a % 2 ^ k) (2 ^ k) (2 ^ w) least last (mod_below a (2 ^ w) (pow_pos w))
  where
    rest_of : (n : ℕ) → 0 < n → negsuc a +ℤ pos (suc c * n) ≡ pos 0 → a % n + 1 ≡ n
    rest_of n p e =
        let d : suc c * n ≡ c * n + n = grind arith in
        let is : a ≡ c * n + (n - 1) = omega (arith, ints, rw d at e, p) in
        let r : (c * n + (n - 1)) % n ≡ n - 1 = mod-mul-add c n (n - 1) (omega (arith, p)) in
        let q : a % n ≡ n - 1 = ap (λ x. x % n) is ∙ r in
        omega (arith, q, p)

    as_signed : (x y n m : ℕ) → y ≤ x → y + 1 ≡ n → x < m → pos ((m - 1) - x) ≤ℤ (pos m -ℤ pos n)
    as_signed x y n m h e l = omega (arith, ints, h, e, l)

-- a product by f, and a multiple of f more
multiple_and : (f : ℕ) (v : ℤ) (l : ℕ) → IsMultiple f ((v *ℤ pos f) +ℤ pos (l * f))
multiple_and f (pos n) l = times_above (n + l) (let d : (n + l) * f ≡ n * f + l * f = grind arith in omega (arith, ints, d))
multiple_and f (negsuc n) l = elim (cases_lt l (suc n)) [
  | inl p ↦
      let d : (suc n - l) * f + l * f ≡ suc n * f = parts (suc n - l) l (suc n) (omega (arith, p)) in
      times_below (suc n - l) (omega (arith, ints, d))
  | inr p ↦
      let d : (l - suc n) * f + suc n * f ≡ l * f = parts (l - suc n) (suc n) l (omega (arith, p)) in
      times_above (l - suc n) (omega (arith, ints, d))
]
  where
    parts : (x y z : ℕ) → x + y ≡ z → x * f + y * f ≡ z * f
    parts x y z e = rw (← e) (grind arith)

-- a power of 2 as so many times a lesser one
whole_below : (m : ℕ) → 0 < m → negsuc (m - 1) +ℤ pos m ≡ pos 0
whole_below m h = omega (arith, ints, h)

signed : (w k m : ℕ) → k ≤ w → 2 ^ w ≡ m → negsuc (m - 1) +ℤ pos (2 ^ (w - k) * 2 ^ k) ≡ pos 0
signed w k m h e =
    let d : (w - k) + k ≡ w = omega (arith, h) in
    let whole : 2 ^ (w - k) * 2 ^ k ≡ m = sym (pow-add 2 (w - k) k) ∙ (ap (λ n. 2 ^ n) d ∙ e) in
    subst (λ (x : ℕ). negsuc (m - 1) +ℤ pos x ≡ pos 0) (sym whole) (whole_below m (subst (λ n. 0 < n) e (pow_pos w)))

none : (n : ℕ) → pos 0 +ℤ pos (0 * n) ≡ pos 0
none n = let z : pos (0 * n) ≡ pos 0 = ap pos (zero-mul n) in omega (arith, ints, z)

-- the least number of a type is so many times 2 to the k below 0
lows : (t : Ty) (k : ℕ) → k < width t → (l : ℕ) × (low t +ℤ pos (l * 2 ^ k) ≡ pos 0)
lows I32 k h = (2 ^ (31 - k), signed 31 k 2147483648 (omega (arith, h)) refl)
lows I16 k h = (2 ^ (15 - k), signed 15 k 32768 (omega (arith, h)) refl)
lows I8 k h = (2 ^ (7 - k), signed 7 k 128 (omega (arith, h)) refl)
lows U32 k h = (0, none (2 ^ k))
lows U16 k h = (0, none (2 ^ k))
lows U8 k h = (0, none (2 ^ k))

pub shifted_small : (t : Ty) (k : ℕ) (v : ℤ) → k < width t → wrap t (v *ℤ pos (2 ^ k)) ≤ℤ ((high t +ℤ pos 1) -ℤ pos (2 ^ k))
shifted_small t k v h =
    let l = lows t k h in
    let m = multiple_and (2 ^ k) v l.0 in
    let same : (v *ℤ pos (2 ^ k)) -ℤ low t ≡ (v *ℤ pos (2 ^ k)) +ℤ pos (l.0 * 2 ^ k) = turned_sign (v *ℤ pos (2 ^ k)) (low t) (pos (l.0 * 2 ^ k)) l.1 in
    let r = multiple_rest (width t) k ((v *ℤ pos (2 ^ k)) -ℤ low t) (omega (arith, h)) (subst (IsMultiple (2 ^ k)) (sym same) m) in
    ends (low t) (high t) _ (pos (span t)) (pos (2 ^ k)) (subst (λ n. int_rem_euclid ((v *ℤ pos (2 ^ k)) -ℤ low t) (pos n) ≤ℤ (pos n -ℤ pos (2 ^ k))) (sym (span-pow t)) r) (low+span t)
  where
    turned_sign : (z a b : ℤ) → a +ℤ b ≡ pos 0 → z -ℤ a ≡ z +ℤ b
    turned_sign z a b e = omega (arith, ints, e)

    ends : (a b r s f : ℤ) → r ≤ℤ (s -ℤ f) → a +ℤ s ≡ b +ℤ pos 1 → (a +ℤ r) ≤ℤ ((b +ℤ pos 1) -ℤ f)
    ends a b r s f h e = omega (arith, ints, h, e)

shifted_have : (t : Ty) (n : ℤ) (i : Interval) (v : ℤ) → IsIn i v → unsigned_abs n < width t → MayBe (valued (Some (shifted_range t n i))) (shifted t n v)
shifted_have t n i v h few = by_sign (int_lt n (pos 0))
  where
    by_sign : (b : Bool)
        → MayBe (valued (Some (cond b (at_ends (λ z. int_div_euclid z (pos (2 ^ unsigned_abs n))) i) (wrapped_up_to t ((high t +ℤ pos 1) -ℤ pos (2 ^ unsigned_abs n)) (times (pos (2 ^ unsigned_abs n)) i)))))
        (cond b (Value (int_div_euclid v (pos (2 ^ unsigned_abs n)))) (fitted (fit t Wrap (v *ℤ pos (2 ^ unsigned_abs n)))))
    by_sign true = ends_have (λ z. int_div_euclid z (pos (2 ^ unsigned_abs n))) i v (floor_rises (2 ^ unsigned_abs n) (pow_pos (unsigned_abs n))) h
    by_sign false =
        let f = pos (2 ^ unsigned_abs n) in
        let product : IsIn (times f i) (v *ℤ f) = subst (IsIn (times f i)) (*ℤ_comm f v) (times_has f i v h) in
        rw (fit_wrap t (v *ℤ f)) (wrapped_up_to_has t ((high t +ℤ pos 1) -ℤ f) (times f i) (v *ℤ f) (shifted_small t (unsigned_abs n) v few) product)

pub shift_has : (t : Ty) (n r : ℤ) (i : Interval) (v : ℤ) → IsIn i v → unsigned_abs n < width t
    → MayBe (valued (Some (cond (int_eq r (pos 0)) (shifted_range t n i) (turned_range t n i)))) (shift_cell t n r v)
shift_has t n r i v h few = by_code (int_eq r (pos 0))
  where
    by_code : (b : Bool) → MayBe (valued (Some (cond b (shifted_range t n i) (turned_range t n i)))) (cond b (shifted t n v) (turned t n v))
    by_code true = shifted_have t n i v h few
    by_code false = turned_have t n i v h
