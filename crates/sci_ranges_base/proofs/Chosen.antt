-- What masks between two others may choose.
use Rattle.std.proofs.Common.{◌≡◌, ◌≢◌, ℕ, zero, suc, ◌+◌, ◌/◌, ◌%◌, ◌^◌, ◌<◌, Bool, true, false, refl, ◌∙◌, arith, subst, cond, not, List}
use Rattle.std.proofs.Math.Nat.{pow-suc}
use Rattle.std.proofs.lemmas.Nat.{mod-pow-add}
use Rattle.std.proofs.lemmas.Nat.Bits.{bit_at-lt, bit_at_lowest, bit_at-suc}
use Rattle.std.proofs.lemmas.Bool.Decides.{nat_tests}
use Rattle.std.proofs.lemmas.List.Folds.{list_any-from_Any}
use Rattle.std.specs.Prelude.{nat_eq}
use Rattle.std.specs.List.{list_any}
use Rattle.std.specs.Int.{bit_at}
use Rattle.sci_kinds.specs.Table.{least_set}
use Rattle.sci_ranges_base.specs.declared.masks.Masks.{Masks}
use Rattle.sci_ranges_base.specs.Masks.{IsBetween, AreMasks, may_choose, some_choose, lets_both, may_be_both, lets_one_lack, may_lack_one}

same_yes : (a b : ℕ) → a ≡ b → nat_eq a b ≡ true
same_yes a b h = grind (arith, nat_tests)

-- no bit below k is 1
low_zero : (n k : ℕ) → ((p : ℕ) → p < k → bit_at n p ≢ 1) → n % 2 ^ k ≡ 0
low_zero n zero h = omega arith
low_zero n (suc k) h =
    let rest : n % 2 ^ k ≡ 0 = low_zero n k (λ p l. h p (omega (arith, l))) in
    let last : bit_at n k ≢ 1 = h k (omega arith) in
    let bit : n / 2 ^ k % 2 ≡ 0 = omega (arith, bit_at-lt n k, last) in
    let e : 1 + k ≡ suc k = omega arith in
    subst (λ j. n % 2 ^ j ≡ 0) e (mod-pow-add n 1 k ∙ rw (bit, rest) (omega arith))

-- the least bit that is 1
pub least_bit : (n m : ℕ) → m < 2 ^ n → m ≢ 0 → bit_at m (least_set m n) ≡ 1
least_bit zero m h k = absurd (k (omega arith))
least_bit (suc n) m h k = by_bit (nat_eq (m % 2) 1) refl (least_bit n (m / 2))
  where
    by_bit : (b : Bool) → nat_eq (m % 2) 1 ≡ b → (m / 2 < 2 ^ n → m / 2 ≢ 0 → bit_at (m / 2) (least_set (m / 2) n) ≡ 1) → bit_at m (cond b 0 (suc (least_set (m / 2) n))) ≡ 1
    by_bit true p rest = let odd : m % 2 ≡ 1 = grind (arith, nat_tests) in bit_at_lowest m ∙ odd
    by_bit false p rest =
        let even : m % 2 ≢ 1 = grind (arith, nat_tests) in
        bit_at-suc m (least_set (m / 2) n) ∙ rest (omega (arith, h, pow-suc 2 n)) (λ z. k (omega (arith, even, z)))

-- no bit before it is
pub below_least : (n m p : ℕ) → p < least_set m n → bit_at m p ≢ 1
below_least zero m p h = absurd (omega (arith, h))
below_least (suc n) m p h = by_bit (nat_eq (m % 2) 1) refl p h (below_least n (m / 2))
  where
    by_bit : (b : Bool) → nat_eq (m % 2) 1 ≡ b → (p : ℕ) → p < cond b 0 (suc (least_set (m / 2) n)) → ((q : ℕ) → q < least_set (m / 2) n → bit_at (m / 2) q ≢ 1) → bit_at m p ≢ 1
    by_bit true e p l rest = absurd (omega (arith, l))
    by_bit false e zero l rest = let even : m % 2 ≢ 1 = grind (arith, nat_tests) in λ q. even (rw bit_at_lowest at q)
    by_bit false e (suc p) l rest = λ q. rest p (omega (arith, l)) (rw bit_at-suc at q)

-- the least activated port is one that may be
may_choose_least : (b : Masks) (m n : ℕ) → IsBetween b m → m < 2 ^ n → m ≢ 0 → may_choose (least_set m n) b ≡ true
may_choose_least b m n h few some =
    let k = least_set m n in
    let may : nat_eq (bit_at b.may k) 1 ≡ true = same_yes (bit_at b.may k) 1 ((h k).1 (least_bit n m few some)) in
    let none : nat_eq (b.certain % 2 ^ k) 0 ≡ true = same_yes (b.certain % 2 ^ k) 0 (low_zero b.certain k (λ p l e. below_least n m p l ((h p).0 e))) in
    rw (may, none) refl

-- of some masks
among : (test : Masks → Bool) (ms : List Masks) (m : ℕ) → ((b : Masks) → IsBetween b m → test b ≡ true) → AreMasks ms m → list_any test ms ≡ true
among test ms m f (k, b, l, e, p) = list_any-from_Any test ms (k, b, l, e, f b p)

pub some_choose_least : (ms : List Masks) (m n : ℕ) → AreMasks ms m → m < 2 ^ n → m ≢ 0 → some_choose ms (least_set m n) ≡ true
some_choose_least ms m n h few some = among (may_choose (least_set m n)) ms m (λ b k. may_choose_least b m n k few some) h

pub both_may_be : (ms : List Masks) → AreMasks ms 3 → may_be_both ms ≡ true
both_may_be ms h = among lets_both ms 3 (λ b k. same_yes (b.may % 4) 3 (two_bits b.may ((k 0).1 refl) ((k 1).1 refl))) h
  where
    two_bits : (n : ℕ) → bit_at n 0 ≡ 1 → bit_at n 1 ≡ 1 → n % 4 ≡ 3
    two_bits n p q = omega (arith, p, q)

pub one_may_lack : (ms : List Masks) (m : ℕ) → AreMasks ms m → m < 4 → m ≢ 3 → may_lack_one ms ≡ true
one_may_lack ms m h few other = among lets_one_lack ms m (λ b k. by_test b k (nat_eq (b.certain % 4) 3) refl) h
  where
    first_bit : (n : ℕ) → n % 4 ≡ 3 → bit_at n 0 ≡ 1
    first_bit n p = omega (arith, p)

    second_bit : (n : ℕ) → n % 4 ≡ 3 → bit_at n 1 ≡ 1
    second_bit n p = omega (arith, p)

    two_bits : (n : ℕ) → n < 4 → bit_at n 0 ≡ 1 → bit_at n 1 ≡ 1 → n ≡ 3
    two_bits n l p q = omega (arith, l, p, q)

    by_test : (b : Masks) → IsBetween b m → (r : Bool) → nat_eq (b.certain % 4) 3 ≡ r → not r ≡ true
    by_test b k true e =
        let three : b.certain % 4 ≡ 3 = grind (arith, nat_tests) in
        absurd (other (two_bits m few ((k 0).0 (first_bit b.certain three)) ((k 1).0 (second_bit b.certain three))))
    by_test b k false e = refl
