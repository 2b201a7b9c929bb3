-- The bits in which patterns differ, bit by bit.
use Rattle.std.proofs.Common.{◌≡◌, ◌≢◌, ℕ, zero, suc, ◌+◌, ◌-◌, ◌*◌, ◌/◌, ◌^◌, ◌<◌, ◌≤◌, true, false, refl, sym, ap, ◌∙◌, arith, add-one}
use Rattle.std.proofs.Math.Nat.{pow-suc, pow-le-pow_right}
use Rattle.std.proofs.lemmas.Bool.Decides.{nat_tests}
use Rattle.std.specs.Prelude.{nat_eq}
use Rattle.sci_ranges_rules.specs.declared.patterns.Patterns.{Patterns}
use Rattle.sci_ranges_rules.specs.Patterns.{open_to}

-- of i bits out of n: what is open of the patterns is open of what is left of them, and the bits that are behind
pub record IsOpenSoFar (p : Patterns) (n i least greatest behind : ℕ) : Type 0 where
  pub is : open_to p.least p.greatest n ≡ (behind + 1) * open_to least greatest (n - i) + behind
  pub few : behind < 2 ^ i

same_open : (p q n : ℕ) → p ≡ q → open_to p q n ≡ 0
same_open p q zero e = refl
same_open p q (suc n) e = let t : nat_eq p q ≡ true = grind (arith, nat_tests) in rw t refl

differ_open : (p q n : ℕ) → p ≢ q → open_to p q (suc n) ≡ 2 * open_to (p / 2) (q / 2) n + 1
differ_open p q n h = let t : nat_eq p q ≡ false = grind (arith, nat_tests) in rw t refl

pub open_first : (p : Patterns) (n : ℕ) → IsOpenSoFar p n 0 p.least p.greatest 0
open_first p n =
    let all : n ≡ n - 0 = omega arith in
    record { is = alone (open_to p.least p.greatest n) ∙ ap (λ m. (0 + 1) * open_to p.least p.greatest m + 0) all; few = omega arith }
  where
    alone : (o : ℕ) → o ≡ (0 + 1) * o + 0
    alone o = omega arith

last : (b c : ℕ) → b * 0 + c ≡ c
last b c = omega arith

-- where no more differ
pub open_same : (p : Patterns) (n i least greatest behind : ℕ) → least ≡ greatest → IsOpenSoFar p n i least greatest behind
    → behind ≡ open_to p.least p.greatest n
open_same p n i least greatest behind e h = sym (h.is ∙ (ap (λ o. (behind + 1) * o + behind) (same_open least greatest (n - i) e) ∙ last (behind + 1) behind))

-- one more place
pub open_differ : (p : Patterns) (n i least greatest behind : ℕ) → i < n → least ≢ greatest → IsOpenSoFar p n i least greatest behind
    → IsOpenSoFar p n (i + 1) (least / 2) (greatest / 2) (2 * behind + 1)
open_differ p n i least greatest behind l ne h =
    let left : n - i ≡ suc (n - (i + 1)) = omega (arith, l) in
    record {
      is = h.is ∙ (ap (λ m. (behind + 1) * open_to least greatest m + behind) left
          ∙ (ap (λ o. (behind + 1) * o + behind) (differ_open least greatest (n - (i + 1)) ne)
          ∙ spread behind (open_to (least / 2) (greatest / 2) (n - (i + 1)))));
      few = let d : 2 ^ (i + 1) ≡ 2 ^ i * 2 = rw add-one (pow-suc 2 i) in omega (arith, h.few, d);
    }
  where
    spread : (b o : ℕ) → (b + 1) * (2 * o + 1) + b ≡ ((2 * b + 1) + 1) * o + (2 * b + 1)
    spread b o = grind arith

-- of all of them
pub open_all : (p : Patterns) (n least greatest behind : ℕ) → IsOpenSoFar p n n least greatest behind → behind ≡ open_to p.least p.greatest n
open_all p n least greatest behind h =
    let none : n - n ≡ 0 = omega arith in
    sym (h.is ∙ (ap (λ m. (behind + 1) * open_to least greatest m + behind) none ∙ last (behind + 1) behind))

pub open_small : (n i behind : ℕ) → i ≤ n → behind < 2 ^ i → behind < 2 ^ n
open_small n i behind l h = let most : 2 ^ i ≤ 2 ^ n = pow-le-pow_right {n = 2} (omega arith) l in omega (arith, h, most)
