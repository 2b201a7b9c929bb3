-- Membership of lists, by tests.
use Rattle.std.proofs.Common.{◌≡◌, ℕ, zero, suc, Bool, true, false, ◌||◌, ◌&&◌, cond, ◌⊎◌, inl, inr, ⊎_elim, List, [], ◌∷◌, ◌++◌, Contains, eqb, refl, sym, ap, ◌∙◌, arith, true≢false}
use Rattle.std.proofs.lemmas.Bool.{cases_Bool, or_cases, eqb-true, eq-eqb}
use Rattle.std.specs.List.{IsDistinct, AllByRecursion, list_any}
use Rattle.sci_reaction.specs.Pass.{put}

abbrev pub Has : List ℕ → ℕ → Type 0
Has xs q = list_any (eqb q) xs ≡ true

pub and_both : (x y : Bool) → (x && y) ≡ true → (x ≡ true) × (y ≡ true)
and_both true y h = (refl, h)
and_both false y h = absurd (true≢false (sym h))

pub and_true : (x y : Bool) → x ≡ true → y ≡ true → (x && y) ≡ true
and_true true y h g = g
and_true false y h g = h

pub or_left : (x y : Bool) → x ≡ true → (x || y) ≡ true
or_left true y h = refl
or_left false y h = absurd (true≢false (sym h))

pub or_right : (x y : Bool) → y ≡ true → (x || y) ≡ true
or_right true y h = refl
or_right false y h = h

pub any_to : {A : Type 0} (test : A → Bool) (xs : List A) → list_any test xs ≡ true → (x : A) × Contains xs x × (test x ≡ true)
any_to test [] h = absurd (true≢false (sym h))
any_to test (x ∷ xs) h =
    ⊎_elim (λ here. (x, (0, omega arith, refl), here))
    (λ there. let r = any_to test xs there in (r.0, (suc r.1.0, omega (arith, r.1.1), r.1.2), r.2)) (or_cases (test x) (list_any test xs) h)

pub any_from : {A : Type 0} (test : A → Bool) (xs : List A) (x : A) → Contains xs x → test x ≡ true → list_any test xs ≡ true
any_from test [] x c h = absurd (omega (arith, c.1))
any_from test (y ∷ ys) x (zero, l, e) h = or_left (test y) (list_any test ys) (ap test e ∙ h)
any_from test (y ∷ ys) x (suc k, l, e) h = or_right (test y) (list_any test ys) (any_from test ys x (k, omega (arith, l), e) h)

pub Has-left : (xs ys : List ℕ) (q : ℕ) → Has xs q → Has (xs ++ ys) q
Has-left [] ys q h = absurd (true≢false (sym h))
Has-left (x ∷ xs) ys q h =
    ⊎_elim (λ here. or_left (eqb q x) (list_any (eqb q) (xs ++ ys)) here) (λ there. or_right (eqb q x) (list_any (eqb q) (xs ++ ys)) (Has-left xs ys q there))
    (or_cases (eqb q x) (list_any (eqb q) xs) h)

pub Has-push : (xs : List ℕ) (b : ℕ) → Has (xs ++ b ∷ []) b
Has-push [] b = or_left (eqb b b) false (eq-eqb b b refl)
Has-push (x ∷ xs) b = or_right (eqb b x) (list_any (eqb b) (xs ++ b ∷ [])) (Has-push xs b)

pub Has-pushed : (xs : List ℕ) (b q : ℕ) → Has (xs ++ b ∷ []) q → Has xs q ⊎ (q ≡ b)
Has-pushed [] b q h = ⊎_elim (λ here. inr (eqb-true q b here)) (λ none. absurd (true≢false (sym none))) (or_cases (eqb q b) false h)
Has-pushed (x ∷ xs) b q h =
    ⊎_elim (λ here. inl (or_left (eqb q x) (list_any (eqb q) xs) here))
    (λ there. ⊎_elim (λ old. inl (or_right (eqb q x) (list_any (eqb q) xs) old)) (λ new. inr new) (Has-pushed xs b q there))
    (or_cases (eqb q x) (list_any (eqb q) (xs ++ b ∷ [])) h)

pub Has-split : (xs : List ℕ) (q : ℕ) → Has xs q → (pre : List ℕ) × (post : List ℕ) × (xs ≡ pre ++ q ∷ post)
Has-split [] q h = absurd (true≢false (sym h))
Has-split (x ∷ xs) q h =
    ⊎_elim (λ here. ([], xs, ap (λ v. v ∷ xs) (sym (eqb-true q x here))))
    (λ there. let r = Has-split xs q there in (x ∷ r.0, r.1, ap (λ vs. x ∷ vs) r.2)) (or_cases (eqb q x) (list_any (eqb q) xs) h)

pub Has-cases : (xs : List ℕ) (q : ℕ) → Has xs q ⊎ (Has xs q → ⊥)
Has-cases xs q = ⊎_elim (λ on. inl on) (λ off. inr (λ h. true≢false (sym h ∙ off))) (cases_Bool (list_any (eqb q) xs))

ByRecursion-at : (x b : ℕ) (pre post : List ℕ) → AllByRecursion (λ y. eqb x y ≡ false) (pre ++ b ∷ post) → eqb x b ≡ false
ByRecursion-at x b [] post h = h.0
ByRecursion-at x b (y ∷ ys) post h = ByRecursion-at x b ys post h.1

-- a list without repeats does not have b before b
pub once : (pre post : List ℕ) (b : ℕ) → IsDistinct eqb (pre ++ b ∷ post) → Has pre b → ⊥
unfolding IsDistinct
once [] post b d h = true≢false (sym h)
once (x ∷ pre) post b d h =
    ⊎_elim (λ here. true≢false (sym (eq-eqb x b (sym (eqb-true b x here))) ∙ ByRecursion-at x b pre post d.0)) (once pre post b d.1)
    (or_cases (eqb b x) (list_any (eqb b) pre) h)

cond_true : {A : Type 0} (t : Bool) (x y : A) → t ≡ true → cond t x y ≡ x
cond_true true x y h = refl
cond_true false x y h = absurd (true≢false (sym h))

cond_false : {A : Type 0} (t : Bool) (x y : A) → t ≡ false → cond t x y ≡ y
cond_false true x y h = absurd (true≢false h)
cond_false false x y h = refl

pub put_same : {A : Type 0} (f : ℕ → A) (b : ℕ) (x : A) (c : ℕ) → c ≡ b → put f b x c ≡ x
put_same f b x c same = cond_true (eqb c b) x (f c) (eq-eqb c b same)

pub put_other : {A : Type 0} (f : ℕ → A) (b : ℕ) (x : A) (c : ℕ) → (c ≡ b → ⊥) → put f b x c ≡ f c
put_other f b x c other =
    cond_false (eqb c b) x (f c) (⊎_elim (λ on. absurd (other (eqb-true c b on))) (λ off. off) (cases_Bool (eqb c b)))

pub Contains-cons : {A : Type 0} (x : A) (xs : List A) (q : A) → Contains (x ∷ xs) q → (x ≡ q) ⊎ Contains xs q
Contains-cons x xs q (zero, l, e) = inl e
Contains-cons x xs q (suc k, l, e) = inr (k, omega (arith, l), e)

pub cons-Contains : {A : Type 0} (x : A) (xs : List A) (q : A) → Contains xs q → Contains (x ∷ xs) q
cons-Contains x xs q h = (suc h.0, omega (arith, h.1), h.2)
