-- LOGICAL_OP bit by bit: the patterns of all inputs joined.
use Rattle.std.proofs.Common.{◌≡◌, ℕ, zero, suc, ◌+◌, ◌-◌, ◌/◌, ◌%◌, ◌^◌, ◌<◌, ◌≤◌, ℤ, pos, min, max, Bool, true, false, Option, Some, None, refl, ap, sym, ◌∙◌, arith, cond, subst}
use Rattle.std.specs.Prelude.{nat_eq, nat_lt, not, bit_and, bit_or, bit_xor, option_map}
use Rattle.std.specs.Int.{bit_at, w8, w16, w32}
use Rattle.std.proofs.lemmas.Bool.Decides.{nat_tests}
use Rattle.std.proofs.lemmas.Nat.{shr_split, and_le_l, or_lt, xor_lt, mod_below, pow_pos, shr_below}
use Rattle.std.proofs.lemmas.Nat.Bits.{bit_at_and, bit_at_or, bit_at_xor, bit_at-lt, bit_at_cat_low, bit_at_not}
use Rattle.std.proofs.Math.Nat.{mod-eq_of_lt}
use Rattle.sci_base.specs.declared.Ty.{Ty}
use Rattle.sci_base.specs.declared.Ty.TheVariants.{I32, I16, I8, U32, U16, U8}
use Rattle.sci_base.specs.Fit.{int_eq, width, span}
use Rattle.sci_base.specs.Bits.{pattern, of_bits}
use Rattle.sci_base.proofs.FitLemmas.{span-pow}
use Rattle.sci_forms.proofs.TestLemmas.{int_same}
use Rattle.sci_kinds.specs.Table.{count_to, logical, logical_bits}
use Rattle.sci_ranges_base.specs.declared.interval.Interval.{Interval}
use Rattle.sci_ranges_base.specs.Intervals.{IsInSome}
use Rattle.sci_ranges_rules.specs.declared.patterns.Patterns.{Patterns}
use Rattle.sci_ranges_rules.specs.Patterns.{InType, HasPattern, patterns_of, and_patterns, or_patterns, xor_patterns, turned_over}
use Rattle.sci_ranges_rules.specs.Words.{joined_by, on_patterns, all_joined, turned_by}
use Rattle.sci_ranges_rules.proofs.Patterned.{pattern_small, patterns_have, patterns_in_type, and_has, or_has, xor_has, and_in_type, or_in_type, xor_in_type, turned_over_has}

-- ---- how an operation joins bits

pub data Join : Type 0 where
  And : Join
  Or : Join
  Xor : Join

abbrev pub join_of : ℤ → Join
join_of op = cond (int_eq op (pos 0)) And (cond (int_eq op (pos 2)) And (cond (int_eq op (pos 4)) Xor Or))

-- whether it turns over what it has joined
abbrev pub is_turned : ℤ → Bool
is_turned op = cond (int_eq op (pos 0)) false (cond (int_eq op (pos 1)) false (cond (int_eq op (pos 4)) false true))

abbrev pub joined : Join → ℕ → ℕ → ℕ
joined And p q = bit_and p q
joined Or p q = bit_or p q
joined Xor p q = bit_xor p q

-- the bit that n bits give, c of them 1
abbrev pub joined_bit : Join → ℕ → ℕ → ℕ
joined_bit And n c = cond (nat_eq c n) 1 0
joined_bit Or n c = cond (nat_lt 0 c) 1 0
joined_bit Xor n c = c % 2

-- how many of the patterns of f 0 to f (n - 1) have bit b
abbrev pub bit_count : Ty → (ℕ → ℤ) → ℕ → ℕ → ℕ
bit_count t f b n = count_to (λ k. pos (bit_at (pattern t (f k)) b)) n

-- p is the pattern of n numbers joined
pub record IsJoined (t : Ty) (j : Join) (f : ℕ → ℤ) (n p : ℕ) : Type 0 where
  pub below : p < 2 ^ width t
  pub bits : (b : ℕ) → b < width t → bit_at p b ≡ joined_bit j n (bit_count t f b n)

-- ---- one number more

count_most : (f : ℕ → ℤ) (n : ℕ) → count_to f n ≤ n
count_most f zero = omega arith
count_most f (suc n) = by_bit (int_eq (f n) (pos 0)) (count_most f n)
  where
    by_bit : (b : Bool) → count_to f n ≤ n → count_to f n + cond b 0 1 ≤ suc n
    by_bit true h = omega (arith, h)
    by_bit false h = omega (arith, h)

-- a bit as a digit
digit_of : (x : ℕ) → x < 2 → cond (int_eq (pos x) (pos 0)) 0 1 ≡ x
digit_of zero h = refl
digit_of (suc zero) h = refl
digit_of (suc (suc x)) h = absurd (omega (arith, h))

abbrev two_bits : Join → ℕ → ℕ → ℕ
two_bits And a b = min a b
two_bits Or a b = max a b
two_bits Xor a b = (a + b) % 2

one_bit : (j : Join) (n c x : ℕ) → c ≤ n → x < 2 → two_bits j (joined_bit j n c) x ≡ joined_bit j (suc n) (c + x)
one_bit And n c x h k = grind (arith, nat_tests)
one_bit Or n c x h k = grind (arith, nat_tests)
one_bit Xor n c x h k = omega arith

bit_of_joined : (j : Join) (p q b : ℕ) → bit_at (joined j p q) b ≡ two_bits j (bit_at p b) (bit_at q b)
bit_of_joined And p q b = bit_at_and p q b
bit_of_joined Or p q b = bit_at_or p q b
bit_of_joined Xor p q b = bit_at_xor p q b

joined_below : (j : Join) (w p q : ℕ) → p < 2 ^ w → q < 2 ^ w → joined j p q < 2 ^ w
joined_below And w p q h k = omega (arith, and_le_l p q, h)
joined_below Or w p q h k = or_lt w p q h k
joined_below Xor w p q h k = xor_lt w p q h k

joined_more : (t : Ty) (j : Join) (f : ℕ → ℤ) (n p : ℕ) → IsJoined t j f n p → IsJoined t j f (suc n) (joined j p (pattern t (f n)))
joined_more t j f n p i =
    let q = pattern t (f n) in
    record {
      below = joined_below j (width t) p q i.below (subst (λ m. pattern t (f n) < m) (span-pow t) (pattern_small t (f n)));
      bits = λ k h.
          bit_of_joined j p q k
          ∙ (ap (λ x. two_bits j x (bit_at q k)) (i.bits k h)
          ∙ (one_bit j n (bit_count t f k n) (bit_at q k) (count_most (λ x. pos (bit_at (pattern t (f x)) k)) n) (bit_at-lt q k)
          ∙ ap (λ x. joined_bit j (suc n) (bit_count t f k n + x)) (sym (digit_of (bit_at q k) (bit_at-lt q k)))));
    }

-- of one number alone
one_joined : (t : Ty) (j : Join) (f : ℕ → ℤ) → IsJoined t j f 1 (pattern t (f 0))
one_joined t j f = record {
  below = subst (λ m. pattern t (f 0) < m) (span-pow t) (pattern_small t (f 0));
  bits = λ k h. own j (bit_at (pattern t (f 0)) k) (bit_at-lt (pattern t (f 0)) k);
}
  where
    first : (j : Join) (x : ℕ) → x < 2 → x ≡ joined_bit j 1 x
    first And zero h = refl
    first And (suc zero) h = refl
    first And (suc (suc x)) h = absurd (omega (arith, h))
    first Or zero h = refl
    first Or (suc zero) h = refl
    first Or (suc (suc x)) h = absurd (omega (arith, h))
    first Xor x h = omega (arith, h)

    own : (j : Join) (x : ℕ) → x < 2 → x ≡ joined_bit j 1 (0 + cond (int_eq (pos x) (pos 0)) 0 1)
    own j x h =
        let e : 0 + cond (int_eq (pos x) (pos 0)) 0 1 ≡ x = plus_none (digit_of x h) in
        first j x h ∙ ap (joined_bit j 1) (sym e)
      where
        plus_none : {y z : ℕ} → y ≡ z → 0 + y ≡ z
        plus_none e = omega (arith, e)

-- the patterns of f 0 to f n joined
abbrev pub joined_to : Join → Ty → (ℕ → ℤ) → ℕ → ℕ
joined_to j t f zero = pattern t (f 0)
joined_to j t f (suc n) = joined j (joined_to j t f n) (pattern t (f (suc n)))

pub joined_is : (t : Ty) (j : Join) (f : ℕ → ℤ) (n : ℕ) → IsJoined t j f (suc n) (joined_to j t f n)
joined_is t j f zero = one_joined t j f
joined_is t j f (suc n) = joined_more t j f (suc n) (joined_to j t f n) (joined_is t j f n)

-- ---- all bits

-- a number of w bits is that of its bits
pub of_bits_is : (f : ℕ → ℕ) (w p : ℕ) → p < 2 ^ w → ((b : ℕ) → b < w → f b ≡ bit_at p b) → of_bits f w ≡ p
of_bits_is f zero p h k = omega (arith, h)
of_bits_is f (suc w) p h k =
    let rest = of_bits_is f w (p % 2 ^ w) (mod_below p (2 ^ w) (pow_pos w)) (λ b l. k b (omega (arith, l)) ∙ sym (low_bit b l)) in
    let top : f w ≡ p / 2 ^ w = k w (omega arith) ∙ mod-eq_of_lt (shr_below p 1 w (subst (λ n. p < 2 ^ n) (omega arith) h)) in
    rw (rest, top) (omega (arith, shr_split p w))
  where
    low_bit : (b : ℕ) → b < w → bit_at (p % 2 ^ w) b ≡ bit_at p b
    low_bit b l = sym (bit_at_cat_low (p / 2 ^ w) w (p % 2 ^ w) b l) ∙ ap (λ n. bit_at n b) (shr_split p w)

abbrev SameBit : ℕ → ℕ → ℤ → Type 0
SameBit n c z = cond (logical z n c) 1 0 ≡ cond (is_turned z) (1 - joined_bit (join_of z) n c) (joined_bit (join_of z) n c)

-- the bit of an operation, of n bits of which c are 1
operation_bit : (op : ℤ) (n c : ℕ) → SameBit n c op
operation_bit op n c = at_0 (int_eq op (pos 0)) refl
  where
    none : cond (nat_eq c 0) 1 0 ≡ 1 - cond (nat_lt 0 c) 1 0
    none = grind (arith, nat_tests)

    not_all : cond (not (nat_eq c n)) 1 0 ≡ 1 - cond (nat_eq c n) 1 0
    not_all = grind (arith, nat_tests)

    odd : cond (nat_eq (c % 2) 1) 1 0 ≡ c % 2
    odd = grind (arith, nat_tests)

    is : (k : ℤ) → int_eq op k ≡ true → SameBit n c k → SameBit n c op
    is k e h = subst (SameBit n c) (sym (int_same op k e)) h

    at_4 : (b : Bool) → int_eq op (pos 4) ≡ b → int_eq op (pos 0) ≡ false → int_eq op (pos 1) ≡ false → int_eq op (pos 2) ≡ false → int_eq op (pos 3) ≡ false → SameBit n c op
    at_4 true e p0 p1 p2 p3 = is (pos 4) e odd
    at_4 false e p0 p1 p2 p3 = rw (p0, p1, p2, p3, e) none

    at_3 : (b : Bool) → int_eq op (pos 3) ≡ b → int_eq op (pos 0) ≡ false → int_eq op (pos 1) ≡ false → int_eq op (pos 2) ≡ false → SameBit n c op
    at_3 true e p0 p1 p2 = is (pos 3) e none
    at_3 false e p0 p1 p2 = at_4 (int_eq op (pos 4)) refl p0 p1 p2 e

    at_2 : (b : Bool) → int_eq op (pos 2) ≡ b → int_eq op (pos 0) ≡ false → int_eq op (pos 1) ≡ false → SameBit n c op
    at_2 true e p0 p1 = is (pos 2) e not_all
    at_2 false e p0 p1 = at_3 (int_eq op (pos 3)) refl p0 p1 e

    at_1 : (b : Bool) → int_eq op (pos 1) ≡ b → int_eq op (pos 0) ≡ false → SameBit n c op
    at_1 true e p0 = is (pos 1) e refl
    at_1 false e p0 = at_2 (int_eq op (pos 2)) refl p0 e

    at_0 : (b : Bool) → int_eq op (pos 0) ≡ b → SameBit n c op
    at_0 true e = is (pos 0) e refl
    at_0 false e = at_1 (int_eq op (pos 1)) refl e

-- the bits of a pattern turned over
turned_bit : (t : Ty) (p b : ℕ) → p < 2 ^ width t → b < width t → bit_at (2 ^ width t - 1 - p) b ≡ 1 - bit_at p b
turned_bit I32 p b h l = bit_at_not w32 p b h l
turned_bit I16 p b h l = bit_at_not w16 p b h l
turned_bit I8 p b h l = bit_at_not w8 p b h l
turned_bit U32 p b h l = bit_at_not w32 p b h l
turned_bit U16 p b h l = bit_at_not w16 p b h l
turned_bit U8 p b h l = bit_at_not w8 p b h l

-- what becomes of the joined pattern
abbrev pub turned_number : Ty → ℤ → ℕ → ℕ
turned_number t op p = cond (is_turned op) ((span t - 1) - p) p

pub logical_is : (t : Ty) (op : ℤ) (n : ℕ) (f : ℕ → ℤ) (p : ℕ) → IsJoined t (join_of op) f n p → logical_bits t op n f ≡ turned_number t op p
logical_is t op n f p i = by_turn (is_turned op) refl
  where
    by_turn : (b : Bool) → is_turned op ≡ b → logical_bits t op n f ≡ cond b ((span t - 1) - p) p
    by_turn false e = of_bits_is _ (width t) p i.below (λ b l. operation_bit op n (bit_count t f b n) ∙ rw e (sym (i.bits b l)))
    by_turn true e =
        of_bits_is _ (width t) (2 ^ width t - 1 - p) (omega (arith, pow_pos (width t)))
        (λ b l. operation_bit op n (bit_count t f b n) ∙ rw e (ap (λ x. 1 - x) (sym (i.bits b l)) ∙ sym (turned_bit t p b i.below l)))
        ∙ ap (λ m. (m - 1) - p) (sym (span-pow t))

-- ---- patterns joined

-- of a join, the patterns and the pattern
abbrev patterns_by : Join → Ty → Patterns → Patterns → Patterns
patterns_by And t p q = and_patterns t p q
patterns_by Or t p q = or_patterns t p q
patterns_by Xor t p q = xor_patterns t p q

joined_by_is : (t : Ty) (op : ℤ) (p q : Patterns) → joined_by t op p q ≡ patterns_by (join_of op) t p q
joined_by_is t op p q = by_code (int_eq op (pos 0)) (int_eq op (pos 2)) (int_eq op (pos 4))
  where
    by_code : (a b c : Bool) → cond a (and_patterns t p q) (cond b (and_patterns t p q) (cond c (xor_patterns t p q) (or_patterns t p q)))
        ≡ patterns_by (cond a And (cond b And (cond c Xor Or))) t p q
    by_code true b c = refl
    by_code false true c = refl
    by_code false false true = refl
    by_code false false false = refl

both_have : (j : Join) (t : Ty) (p q : Patterns) (a b : ℕ) → InType t p → InType t q → HasPattern p a → HasPattern q b
    → InType t (patterns_by j t p q) × HasPattern (patterns_by j t p q) (joined j a b)
both_have And t p q a b i k h l = (and_in_type t p q i k, and_has t p q a b i k h l)
both_have Or t p q a b i k h l = (or_in_type t p q i k, or_has t p q a b i k h l)
both_have Xor t p q a b i k h l = (xor_in_type t p q i k, xor_has t p q a b i k h l)

-- there are patterns, and this is one of them
abbrev pub HasSome : Ty → Option Patterns → ℕ → Type 0
HasSome t None q = ⊥
HasSome t (Some p) q = InType t p × HasPattern p q

one_has_some : (t : Ty) (o : Option Interval) (v : ℤ) → IsInSome o v → HasSome t (option_map (patterns_of t) o) (pattern t v)
one_has_some t None v h = absurd h
one_has_some t (Some i) v h = (patterns_in_type t i, patterns_have t i v h)

more_has_some : (t : Ty) (op : ℤ) (o r : Option Patterns) (a b : ℕ) → HasSome t o a → HasSome t r b → HasSome t (on_patterns (joined_by t op) o r) (joined (join_of op) a b)
more_has_some t op None r a b h k = absurd h
more_has_some t op (Some p) None a b h k = absurd k
more_has_some t op (Some p) (Some q) a b h k =
    subst (λ r. InType t r × HasPattern r (joined (join_of op) a b)) (sym (joined_by_is t op p q)) (both_have (join_of op) t p q a b h.0 k.0 h.1 k.1)

pub all_have : (t : Ty) (op : ℤ) (f : ℕ → Option Interval) (g : ℕ → ℤ) (n : ℕ) → ((k : ℕ) → k < suc n → IsInSome (f k) (g k))
    → HasSome t (all_joined t op f n) (joined_to (join_of op) t g n)
all_have t op f g zero h = one_has_some t (f 0) (g 0) (h 0 (omega arith))
all_have t op f g (suc n) h =
    more_has_some t op (all_joined t op f n) (option_map (patterns_of t) (f (suc n))) (joined_to (join_of op) t g n) (pattern t (g (suc n)))
    (all_have t op f g n (λ k p. h k (omega (arith, p)))) (one_has_some t (f (suc n)) (g (suc n)) (h (suc n) (omega arith)))

-- turned over, where the operation does so
pub turned_has : (t : Ty) (op : ℤ) (p : Patterns) (q : ℕ) → HasPattern p q → HasPattern (turned_by t op p) (turned_number t op q)
turned_has t op p q h = by_code (int_eq op (pos 0)) (int_eq op (pos 1)) (int_eq op (pos 4))
  where
    by_code : (a b c : Bool) → HasPattern (cond a p (cond b p (cond c p (turned_over t p)))) (cond (cond a false (cond b false (cond c false true))) ((span t - 1) - q) q)
    by_code true b c = h
    by_code false true c = h
    by_code false false true = h
    by_code false false false = turned_over_has t p q h
