-- The order of activation outputs, and where one stands among sorted ones.
use Rattle.std.proofs.Common.{◌≡◌, ◌<◌, ◌∙◌, ℕ, Bool, true, false, ◌&&◌, ◌||◌, List, ◌⊎◌, inl, inr, ⊎_elim, refl, sym, subst, arith, length, get_or, true≢false}
use Rattle.std.specs.Prelude.{Contains, nat_lt, nat_eq}
use Rattle.std.specs.List.Sorted.{IsPartitionedBy, IsPartitionPoint}
use Rattle.std.proofs.lemmas.Bool.{cases_eq, cases_lt}
use Rattle.std.proofs.lemmas.Bool.Decides.{nat_tests}
use Rattle.sci_forms.proofs.TestLemmas.{both_true, either_true, nat_same, nat_lt_told}
use Rattle.sci_net.specs.declared.Feed.{Feed}
use Rattle.sci_net.specs.Parts.{AreRising, precedes}

pub told : (p q r s : ℕ) → (nat_lt p r || (nat_eq p r && nat_lt q s)) ≡ true → (p < r) ⊎ ((p ≡ r) × (q < s))
told p q r s h = ⊎_elim
    (λ l. inl (nat_lt_told p r l))
    (λ m. let both = both_true (nat_eq p r) (nat_lt q s) m in inr (nat_same p r both.0, nat_lt_told q s both.1))
    (either_true (nat_lt p r) (nat_eq p r && nat_lt q s) h)

pub lt_yes : (a b : ℕ) → a < b → nat_lt a b ≡ true
lt_yes a b h = grind (arith, nat_tests)

pub eq_yes : (a b : ℕ) → a ≡ b → nat_eq a b ≡ true
eq_yes a b h = grind (arith, nat_tests)

pub or_left : (a b : Bool) → a ≡ true → (a || b) ≡ true
or_left a b h = rw h refl

pub or_right : (a b : Bool) → b ≡ true → (a || b) ≡ true
or_right true b h = refl
or_right false b h = h

-- by block, or by port in one block
pub precedes_yes : (a b : Feed) → (a.block < b.block) ⊎ ((a.block ≡ b.block) × (a.port < b.port)) → precedes a b ≡ true
precedes_yes a b h = ⊎_elim
    (λ l. or_left (nat_lt a.block b.block) _ (lt_yes a.block b.block l))
    (λ e. or_right (nat_lt a.block b.block) _ (rw (eq_yes a.block b.block e.0, lt_yes a.port b.port e.1) refl))
    h

pub precedes_told : (a b : Feed) → precedes a b ≡ true → (a.block < b.block) ⊎ ((a.block ≡ b.block) × (a.port < b.port))
precedes_told a b h = told a.block a.port b.block b.port h

precedes_trans : (a b c : Feed) → precedes a b ≡ true → precedes b c ≡ true → precedes a c ≡ true
precedes_trans a b c h k = precedes_yes a c (⊎_elim
    (λ l. ⊎_elim (λ m. inl (omega (arith, l, m))) (λ m. let e = m.0 in inl (omega (arith, l, e))) (precedes_told b c k))
    (λ l. let d = l.0 in let p = l.1 in ⊎_elim (λ m. inl (omega (arith, d, m))) (λ m. let e = m.0 in let r = m.1 in inr (d ∙ e, omega (arith, p, r))) (precedes_told b c k))
    (precedes_told a b h))

pub precedes_not_itself : (a : Feed) → precedes a a ≡ true → ⊥
precedes_not_itself a h = ⊎_elim (λ l. absurd (omega (arith, l))) (λ l. let m = l.1 in absurd (omega (arith, m))) (precedes_told a a h)

pub parted : (fs : List Feed) (q : Feed) → AreRising fs → IsPartitionedBy (λ f. precedes f q) fs
parted fs q rise i j d low within holds = ⊎_elim
    (λ e. subst (λ (k : ℕ). precedes (get_or fs k d) q ≡ true) (sym e) holds)
    (λ e. precedes_trans (get_or fs i d) (get_or fs j d) q (rise i j d (omega (arith, low, e)) within) holds)
    (cases_eq i j)

-- where it stands, if it is among them
pub stands : (fs : List Feed) (q : Feed) (at : ℕ) → AreRising fs → IsPartitionPoint (λ f. precedes f q ≡ true) (λ f. precedes f q ≡ false) fs at → Contains fs q
    → (at < length fs) × (get_or fs at q ≡ q)
stands fs q at rise point (k, h, e) = ⊎_elim
    (λ s. (omega (arith, s, h), subst (λ (i : ℕ). get_or fs i q ≡ q) (sym s) e))
    (λ d. ⊎_elim
    (λ l. absurd (true≢false (sym (subst (λ (x : Feed). precedes (get_or fs at q) x ≡ true) e (rise at k q l h)) ∙ point.1 at q (omega arith) (omega (arith, l, h)))))
    (λ l. absurd (precedes_not_itself q (subst (λ (x : Feed). precedes x q ≡ true) e (point.0 k q (omega arith) (omega (arith, l, d))))))
    (cases_lt at k))
    (cases_eq at k)
