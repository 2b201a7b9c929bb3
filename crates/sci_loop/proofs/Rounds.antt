-- Rounds of needs, by places, and the loops that they are.
use Rattle.std.proofs.Common.{ℕ, ◌≡◌, ◌+◌, ◌-◌, ◌<◌, suc, true, false, List, [], ◌∷◌, ◌++◌, length, get_or, eqb, reverse, ⊎_elim, subst, subst₂, sym, ap, ◌∙◌, arith, true≢false}
use Rattle.std.specs.List.{AllByRecursion, IsDistinct}
use Rattle.std.proofs.lemmas.Bool.{cases_Bool, eqb-true}
use Rattle.std.proofs.lemmas.List.{append-nil, length-reverse, get_or-reverse}
use Rattle.std.proofs.lemmas.List.Sorted.{IsPermutation-append_comm}
use Rattle.std.proofs.lemmas.Map.Keys.{IsDistinct-cons, IsDistinct-IsPermutation}
use Rattle.std.proofs.Common.{append_assoc}
use Rattle.sci_loop.specs.Loops.{Chained, IsLoop}
use Rattle.sci_loop.specs.Rounds.{IsRound}
use Rattle.sci_loop.proofs.Grounded.{IsDistinct-nil}

other_than : (x : ℕ) (xs : List ℕ) → ((k : ℕ) → k < length xs → x ≡ get_or xs k 0 → ⊥) → AllByRecursion (λ y. eqb x y ≡ false) xs
other_than x [] h = tt
other_than x (y ∷ xs) h = (
  ⊎_elim (λ on. absurd (h 0 (omega arith) (eqb-true x y on))) (λ off. off) (cases_Bool (eqb x y)),
  other_than x xs (λ k l e. h (suc k) (omega (arith, l)) e),
)

pub distinct_by_places : (xs : List ℕ) → ((i j : ℕ) → i < length xs → j < length xs → get_or xs i 0 ≡ get_or xs j 0 → i ≡ j) → IsDistinct eqb xs
distinct_by_places [] h = IsDistinct-nil
distinct_by_places (x ∷ xs) h =
    IsDistinct-cons eqb x xs
    (other_than x xs (λ k l e. let same : 0 ≡ suc k = h 0 (suc k) (omega arith) (omega (arith, l)) e in omega (arith, same)))
    (distinct_by_places xs (λ i j hi hj e. let same : suc i ≡ suc j = h (suc i) (suc j) (omega (arith, hi)) (omega (arith, hj)) e in omega (arith, same)))

chained_by_places : (needs : ℕ → ℕ → Type 0) (before : ℕ) (xs : List ℕ) (first : ℕ) → ((k : ℕ) → k < length xs → needs (get_or xs k 0) (get_or (before ∷ xs) k 0)) →
    needs first (get_or (before ∷ xs) (length xs) 0) → Chained needs before xs first
chained_by_places needs before [] first each last = last
chained_by_places needs before (x ∷ xs) first each last =
    (each 0 (omega arith), chained_by_places needs x xs first (λ k l. each (suc k) (omega (arith, l))) last)

loop_by_places : (needs : ℕ → ℕ → Type 0) (xs : List ℕ) → 0 < length xs → ((i j : ℕ) → i < length xs → j < length xs → get_or xs i 0 ≡ get_or xs j 0 → i ≡ j) →
    ((k : ℕ) → k + 1 < length xs → needs (get_or xs (k + 1) 0) (get_or xs k 0)) → needs (get_or xs 0 0) (get_or xs (length xs - 1) 0) → IsLoop needs xs
loop_by_places needs [] some apart step close = absurd (omega (arith, some))
loop_by_places needs (x ∷ xs) some apart step close = (
  distinct_by_places (x ∷ xs) apart,
  chained_by_places needs x xs x
      (λ k l. let at : k + 1 ≡ suc k = omega arith in subst (λ m. needs (get_or (x ∷ xs) m 0) (get_or (x ∷ xs) k 0)) at (step k (omega (arith, l))))
      (let last : length (x ∷ xs) - 1 ≡ length xs = omega arith in subst (λ m. needs x (get_or (x ∷ xs) m 0)) last close),
)

-- a round, read backwards, is a loop
pub round_loop : (needs : ℕ → ℕ → Type 0) (xs : List ℕ) → IsRound needs xs → IsLoop needs (reverse xs)
round_loop needs xs r =
    let same = length-reverse xs in
    let n = length xs in
    loop_by_places needs (reverse xs) (omega (arith, same, r.some))
    (λ i j hi hj e.
    let li : i < n = omega (arith, same, hi) in let lj : j < n = omega (arith, same, hj) in
    let at : n - 1 - i ≡ n - 1 - j = r.apart (n - 1 - i) (n - 1 - j) (omega (arith, li)) (omega (arith, lj)) (sym (get_or-reverse xs i 0 li) ∙ e ∙ get_or-reverse xs j 0 lj) in
    omega (arith, at, li, lj))
    (λ k h.
    let l : k + 1 < n = omega (arith, same, h) in
    let up : n - 1 - (k + 1) + 1 ≡ n - 1 - k = omega (arith, l) in
    subst₂ needs (sym (get_or-reverse xs (k + 1) 0 l)) (ap (λ m. get_or xs m 0) up ∙ sym (get_or-reverse xs k 0 (omega (arith, l))))
    (r.step (n - 1 - (k + 1)) (omega (arith, l))))
    (let some : 0 < n = r.some in
    let first : get_or (reverse xs) 0 0 ≡ get_or xs (n - 1) 0 = get_or-reverse xs 0 0 some ∙ ap (λ m. get_or xs m 0) (let z : n - 1 - 0 ≡ n - 1 = omega arith in z) in
    let last : get_or (reverse xs) (length (reverse xs) - 1) 0 ≡ get_or xs 0 0 =
    ap (λ m. get_or (reverse xs) (m - 1) 0) same ∙ (get_or-reverse xs (n - 1) 0 (omega (arith, some)) ∙ ap (λ m. get_or xs m 0) (let z : n - 1 - (n - 1) ≡ 0 = omega arith in z)) in
    subst₂ needs (sym first) (sym last) r.close)

-- one more at the end
chained_push : (needs : ℕ → ℕ → Type 0) (before : ℕ) (xs : List ℕ) (x first : ℕ) → Chained needs before xs x → needs first x → Chained needs before (xs ++ x ∷ []) first
chained_push needs before [] x first h n = (h, n)
chained_push needs before (y ∷ ys) x first h n = (h.0, chained_push needs y ys x first h.1 n)

eqb-flip : (x y : ℕ) → eqb x y ≡ eqb y x
eqb-flip x y =
    ⊎_elim (λ a. ⊎_elim (λ b. a ∙ sym b) (λ b. absurd (true≢false (sym (subst (λ z. eqb z x ≡ true) (eqb-true x y a) (subst (λ z. eqb x z ≡ true) (sym (eqb-true x y a)) a)) ∙ b))) (cases_Bool (eqb y x)))
    (λ a. ⊎_elim (λ b. absurd (true≢false (sym (subst (λ z. eqb z y ≡ true) (eqb-true y x b) (subst (λ z. eqb y z ≡ true) (sym (eqb-true y x b)) b)) ∙ a))) (λ b. a ∙ sym b) (cases_Bool (eqb y x)))
    (cases_Bool (eqb x y))

turned_once : (needs : ℕ → ℕ → Type 0) (x : ℕ) (xs : List ℕ) → IsLoop needs (x ∷ xs) → IsLoop needs (xs ++ x ∷ [])
turned_once needs x [] h = h
turned_once needs x (y ∷ ys) h = (
  IsDistinct-IsPermutation eqb eqb-flip (x ∷ y ∷ ys) ((y ∷ ys) ++ x ∷ []) (IsPermutation-append_comm (x ∷ []) (y ∷ ys)) h.0,
  chained_push needs y ys x y h.1.1 h.1.0,
)

-- a loop may be listed from any of its numbers
pub loop_turned : (needs : ℕ → ℕ → Type 0) (xs ys : List ℕ) → IsLoop needs (xs ++ ys) → IsLoop needs (ys ++ xs)
loop_turned needs [] ys h = subst (IsLoop needs) (sym (append-nil ys)) h
loop_turned needs (x ∷ xs) ys h =
    let once : IsLoop needs (xs ++ (ys ++ x ∷ [])) = subst (IsLoop needs) (append_assoc xs ys (x ∷ [])) (turned_once needs x (xs ++ ys) h) in
    subst (IsLoop needs) (append_assoc ys (x ∷ []) xs) (loop_turned needs xs (ys ++ x ∷ []) once)
