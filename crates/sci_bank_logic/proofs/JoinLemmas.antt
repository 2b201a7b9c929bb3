-- Patterns joined bit by bit.
use Rattle.std.proofs.Common.{◌≡◌, ℕ, zero, suc, ◌+◌, ◌-◌, ◌/◌, ◌%◌, ◌^◌, ◌<◌, ◌≤◌, ℤ, pos, min, max, Bool, true, false, refl, ap, sym, ◌∙◌, arith, cond, subst, add-one}
use Rattle.std.specs.Prelude.{nat_eq, nat_lt, not}
use Rattle.std.specs.Int.{bit_at, w8, w16, w32}
use Rattle.std.proofs.lemmas.Bool.Decides.{nat_tests}
use Rattle.std.proofs.lemmas.Nat.{shr_split, and_le_l, or_lt, xor_lt, mod_below, pow_pos, shr_below}
use Rattle.std.proofs.lemmas.Nat.Bits.{bit_at_and, bit_at_or, bit_at_xor, bit_at-lt, bit_at_ones, bit_at-zero, bit_at_cat_low, bit_at_not}
use Rattle.std.proofs.Math.Nat.{mod-eq_of_lt}
use Rattle.sci_base.specs.declared.Ty.{Ty}
use Rattle.sci_base.specs.declared.Ty.TheVariants.{I32, I16, I8, U32, U16, U8}
use Rattle.sci_base.specs.Fit.{int_eq, width, span}
use Rattle.sci_base.specs.Bits.{pattern, of_bits}
use Rattle.sci_base.proofs.FitLemmas.{span-pow}
use Rattle.sci_forms.proofs.TestLemmas.{int_same}
use Rattle.sci_kinds.specs.Table.{count_to, truth, logical, logical_bits, logical_cell, number}
use Rattle.sci_kinds.specs.declared.Cell.{Cell}
use Rattle.sci_kinds.specs.declared.Cell.TheVariants.{Value}
use Rattle.sci_bank_logic.specs.declared.logical_op.Join.{Join}
use Rattle.sci_bank_logic.specs.declared.logical_op.Join.TheVariants.{And, Or, Xor}
use Rattle.sci_bank_logic.specs.Joins.{join_of, is_turned, joined, joined_bit, bit_count, IsJoined}

pub count_most : (f : ℕ → ℤ) (n : ℕ) → count_to f n ≤ n
count_most f zero = omega arith
count_most f (suc n) = by_bit (int_eq (f n) (pos 0)) (count_most f n)
  where
    by_bit : (b : Bool) → count_to f n ≤ n → count_to f n + cond b 0 1 ≤ suc n
    by_bit true h = omega (arith, h)
    by_bit false h = omega (arith, h)

-- ---- one bit more

-- a bit as a digit
digit_of : (x : ℕ) → x < 2 → cond (int_eq (pos x) (pos 0)) 0 1 ≡ x
digit_of zero h = refl
digit_of (suc zero) h = refl
digit_of (suc (suc x)) h = absurd (omega (arith, h))

abbrev two_bits : Join → ℕ → ℕ → ℕ
two_bits And a b = min a b
two_bits Or a b = max a b
two_bits Xor a b = (a + b) % 2

one_bit : (j : Join) (n c x : ℕ) → c ≤ n → x < 2 → two_bits j (joined_bit j n c) x ≡ joined_bit j (suc n) (c + x)
one_bit And n c x h k = grind (arith, nat_tests)
one_bit Or n c x h k = grind (arith, nat_tests)
one_bit Xor n c x h k = omega arith

bit_of_joined : (j : Join) (p q b : ℕ) → bit_at (joined j p q) b ≡ two_bits j (bit_at p b) (bit_at q b)
bit_of_joined And p q b = bit_at_and p q b
bit_of_joined Or p q b = bit_at_or p q b
bit_of_joined Xor p q b = bit_at_xor p q b

joined_below : (j : Join) (w p q : ℕ) → p < 2 ^ w → q < 2 ^ w → joined j p q < 2 ^ w
joined_below And w p q h k = omega (arith, and_le_l p q, h)
joined_below Or w p q h k = or_lt w p q h k
joined_below Xor w p q h k = xor_lt w p q h k

pub joined_more : (t : Ty) (j : Join) (f : ℕ → ℤ) (n p q : ℕ) → IsJoined t j f n p → q ≡ pattern t (f n) → q < span t → IsJoined t j f (n + 1) (joined j p q)
joined_more t j f n p q i e b = rw add-one (record {
  below = joined_below j (width t) p q i.below (rw (← span-pow t) b);
  bits = λ k h.
      bit_of_joined j p q k
      ∙ (ap (λ x. two_bits j x (bit_at q k)) (i.bits k h)
      ∙ (one_bit j n (bit_count t f k n) (bit_at q k) (count_most (λ x. pos (bit_at (pattern t (f x)) k)) n) (bit_at-lt q k)
      ∙ ap (λ x. joined_bit j (suc n) (bit_count t f k n + x)) (sym (digit_of (bit_at q k) (bit_at-lt q k)) ∙ ap (λ x. cond (int_eq (pos (bit_at x k)) (pos 0)) 0 1) e)));
})

-- before the first pattern
pub none_joined : (t : Ty) (f : ℕ → ℤ) → IsJoined t Or f 0 0 × IsJoined t Xor f 0 0
none_joined t f =
    (record { below = pow_pos (width t); bits = λ k l. bit_at-zero k }, record { below = pow_pos (width t); bits = λ k l. bit_at-zero k })

pub ones_joined : (t : Ty) (f : ℕ → ℤ) → IsJoined t And f 0 (2 ^ width t - 1)
ones_joined t f = record { below = omega (arith, pow_pos (width t)); bits = λ k l. bit_at_ones (width t) k l }

-- ---- all bits

-- a number of w bits is that of its bits
pub of_bits_is : (f : ℕ → ℕ) (w p : ℕ) → p < 2 ^ w → ((b : ℕ) → b < w → f b ≡ bit_at p b) → of_bits f w ≡ p
of_bits_is f zero p h k = omega (arith, h)
of_bits_is f (suc w) p h k =
    let rest = of_bits_is f w (p % 2 ^ w) (mod_below p (2 ^ w) (pow_pos w)) (λ b l. k b (omega (arith, l)) ∙ sym (low_bit b l)) in
    let top : f w ≡ p / 2 ^ w = k w (omega arith) ∙ mod-eq_of_lt (shr_below p 1 w (subst (λ n. p < 2 ^ n) (omega arith) h)) in
    rw (rest, top) (omega (arith, shr_split p w))
  where
    low_bit : (b : ℕ) → b < w → bit_at (p % 2 ^ w) b ≡ bit_at p b
    low_bit b l = sym (bit_at_cat_low (p / 2 ^ w) w (p % 2 ^ w) b l) ∙ ap (λ n. bit_at n b) (shr_split p w)

abbrev SameBit : ℕ → ℕ → ℤ → Type 0
SameBit n c z = cond (logical z n c) 1 0 ≡ cond (is_turned z) (1 - joined_bit (join_of z) n c) (joined_bit (join_of z) n c)

-- the bit of an operation, of n bits of which c are 1
pub operation_bit : (op : ℤ) (n c : ℕ) → cond (logical op n c) 1 0 ≡ cond (is_turned op) (1 - joined_bit (join_of op) n c) (joined_bit (join_of op) n c)
operation_bit op n c = at_0 (int_eq op (pos 0)) refl
  where
    none : cond (nat_eq c 0) 1 0 ≡ 1 - cond (nat_lt 0 c) 1 0
    none = grind (arith, nat_tests)

    not_all : cond (not (nat_eq c n)) 1 0 ≡ 1 - cond (nat_eq c n) 1 0
    not_all = grind (arith, nat_tests)

    odd : cond (nat_eq (c % 2) 1) 1 0 ≡ c % 2
    odd = grind (arith, nat_tests)

    is : (k : ℤ) → int_eq op k ≡ true → SameBit n c k → SameBit n c op
    is k e h = subst (SameBit n c) (sym (int_same op k e)) h

    at_4 : (b : Bool) → int_eq op (pos 4) ≡ b → int_eq op (pos 0) ≡ false → int_eq op (pos 1) ≡ false → int_eq op (pos 2) ≡ false → int_eq op (pos 3) ≡ false → SameBit n c op
    at_4 true e p0 p1 p2 p3 = is (pos 4) e odd
    at_4 false e p0 p1 p2 p3 = rw (p0, p1, p2, p3, e) none

    at_3 : (b : Bool) → int_eq op (pos 3) ≡ b → int_eq op (pos 0) ≡ false → int_eq op (pos 1) ≡ false → int_eq op (pos 2) ≡ false → SameBit n c op
    at_3 true e p0 p1 p2 = is (pos 3) e none
    at_3 false e p0 p1 p2 = at_4 (int_eq op (pos 4)) refl p0 p1 p2 e

    at_2 : (b : Bool) → int_eq op (pos 2) ≡ b → int_eq op (pos 0) ≡ false → int_eq op (pos 1) ≡ false → SameBit n c op
    at_2 true e p0 p1 = is (pos 2) e not_all
    at_2 false e p0 p1 = at_3 (int_eq op (pos 3)) refl p0 p1 e

    at_1 : (b : Bool) → int_eq op (pos 1) ≡ b → int_eq op (pos 0) ≡ false → SameBit n c op
    at_1 true e p0 = is (pos 1) e refl
    at_1 false e p0 = at_2 (int_eq op (pos 2)) refl p0 e

    at_0 : (b : Bool) → int_eq op (pos 0) ≡ b → SameBit n c op
    at_0 true e = is (pos 0) e refl
    at_0 false e = at_1 (int_eq op (pos 1)) refl e

-- the bits of a pattern turned over
turned_bit : (t : Ty) (p b : ℕ) → p < 2 ^ width t → b < width t → bit_at (2 ^ width t - 1 - p) b ≡ 1 - bit_at p b
turned_bit I32 p b h l = bit_at_not w32 p b h l
turned_bit I16 p b h l = bit_at_not w16 p b h l
turned_bit I8 p b h l = bit_at_not w8 p b h l
turned_bit U32 p b h l = bit_at_not w32 p b h l
turned_bit U16 p b h l = bit_at_not w16 p b h l
turned_bit U8 p b h l = bit_at_not w8 p b h l

pub straight_bits : (t : Ty) (op : ℤ) (n : ℕ) (f : ℕ → ℤ) (p : ℕ) → IsJoined t (join_of op) f n p → is_turned op ≡ false → logical_bits t op n f ≡ p
straight_bits t op n f p i h = of_bits_is _ (width t) p i.below (λ b l. operation_bit op n (bit_count t f b n) ∙ rw h (sym (i.bits b l)))

pub turned_bits : (t : Ty) (op : ℤ) (n : ℕ) (f : ℕ → ℤ) (p : ℕ) → IsJoined t (join_of op) f n p → is_turned op ≡ true → logical_bits t op n f ≡ 2 ^ width t - 1 - p
turned_bits t op n f p i h =
    of_bits_is _ (width t) (2 ^ width t - 1 - p) (omega (arith, pow_pos (width t)))
    (λ b l. operation_bit op n (bit_count t f b n) ∙ rw h (ap (λ x. 1 - x) (sym (i.bits b l)) ∙ sym (turned_bit t p b i.below l)))

-- ---- the cell

pub truth_cell : (t : Ty) (op b : ℤ) (n : ℕ) (f : ℕ → ℤ) (r : ℤ) → int_eq b (pos 0) ≡ true → r ≡ truth (logical op n (count_to f n)) → Value r ≡ logical_cell t op b n f
truth_cell t op b n f r h e = rw h (ap Value e)

pub bits_cell : (t : Ty) (op b : ℤ) (n : ℕ) (f : ℕ → ℤ) (r : Cell) → int_eq b (pos 0) ≡ false → r ≡ number t (logical_bits t op n f) → r ≡ logical_cell t op b n f
bits_cell t op b n f r h e = rw h e
