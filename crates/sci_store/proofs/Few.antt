-- Calls of different blocks are no more than there are blocks.
use Rattle.std.proofs.Common.{◌≡◌, ◌≢◌, ℕ, zero, suc, ◌+◌, ◌<◌, ◌≤◌, Bool, true, false, cond, eqb, ⊎_elim, List, [], ◌∷◌, length, map, Contains, All, refl, sym, ap, subst, ◌∙◌, arith, true≢false}
use Rattle.std.specs.Prelude.{AllPairs}
use Rattle.std.proofs.lemmas.Bool.{eqb-true, eq-eqb}
use Rattle.std.proofs.lemmas.List.{length-map}
use Rattle.std.proofs.lemmas.List.Elements.{All-contains}
use Rattle.sci_reaction.proofs.Lists.{Contains-cons, cons-Contains}
use Rattle.sci_rounds.proofs.Together.{Apart}
use Rattle.sci_bank.specs.declared.runs.Call.{Call}

map_contains : {A B : Type 0} (g : A → B) (xs : List A) (y : B) → Contains (map g xs) y → (x : A) × Contains xs x × (g x ≡ y)
map_contains g [] y h = absurd (omega (arith, h.1))
map_contains g (x ∷ xs) y (zero, l, e) = (x, (0, omega arith, refl), e)
map_contains g (x ∷ xs) y (suc k, l, e) =
    let r = map_contains g xs y (k, omega (arith, l), e) in (r.0, (suc r.1.0, omega (arith, r.1.1), r.1.2), r.2)

-- ---- so many different numbers below a limit are no more than the limit

abbrev others_than : ℕ → List ℕ → List ℕ
others_than n [] = []
others_than n (x ∷ xs) = cond (eqb x n) (others_than n xs) (x ∷ others_than n xs)

others_from : (n : ℕ) (xs : List ℕ) (c : ℕ) → Contains (others_than n xs) c → Contains xs c × (c ≢ n)
others_from n [] c h = absurd (omega (arith, h.1))
others_from n (x ∷ xs) c h = by_test (λ k. others_from n xs c k) (eqb x n) refl h
  where
    by_test : (Contains (others_than n xs) c → Contains xs c × (c ≢ n)) → (t : Bool) → eqb x n ≡ t → Contains (cond t (others_than n xs) (x ∷ others_than n xs)) c
        → Contains (x ∷ xs) c × (c ≢ n)
    by_test rest true e k = let r = rest k in (cons-Contains x xs c r.0, r.1)
    by_test rest false e k = ⊎_elim
        (λ same. ((0, omega arith, same), λ is. true≢false (sym (eq-eqb x n (same ∙ is)) ∙ e)))
        (λ later. let r = rest later in (cons-Contains x xs c r.0, r.1)) (Contains-cons x (others_than n xs) c k)

others_apart : (n : ℕ) (xs : List ℕ) → Apart xs → Apart (others_than n xs)
others_apart n [] h = tt
others_apart n (x ∷ xs) h = by_test (others_apart n xs h.1) (eqb x n)
  where
    by_test : Apart (others_than n xs) → (t : Bool) → Apart (cond t (others_than n xs) (x ∷ others_than n xs))
    by_test rest true = rest
    by_test rest false = ((λ c. h.0 (others_from n xs x c).0), rest)

none_lost : (n : ℕ) (xs : List ℕ) → (Contains xs n → ⊥) → length (others_than n xs) ≡ length xs
none_lost n [] out = refl
none_lost n (x ∷ xs) out = by_test (none_lost n xs (λ h. out (cons-Contains x xs n h))) (eqb x n) refl
  where
    by_test : length (others_than n xs) ≡ length xs → (t : Bool) → eqb x n ≡ t → length (cond t (others_than n xs) (x ∷ others_than n xs)) ≡ suc (length xs)
    by_test rest true e = absurd (out (0, omega arith, eqb-true x n e))
    by_test rest false e = omega (arith, rest)

one_lost : (n : ℕ) (xs : List ℕ) → Apart xs → length xs ≤ length (others_than n xs) + 1
one_lost n [] h = omega arith
one_lost n (x ∷ xs) h = by_test (one_lost n xs h.1) (eqb x n) refl
  where
    by_test : length xs ≤ length (others_than n xs) + 1 → (t : Bool) → eqb x n ≡ t → suc (length xs) ≤ length (cond t (others_than n xs) (x ∷ others_than n xs)) + 1
    by_test rest true e = let same = none_lost n xs (λ c. h.0 (subst (Contains xs) (sym (eqb-true x n e)) c)) in omega (arith, same)
    by_test rest false e = omega (arith, rest)

few_numbers : (n : ℕ) (xs : List ℕ) → Apart xs → ((x : ℕ) → Contains xs x → x < n) → length xs ≤ n
few_numbers zero [] h below = omega arith
few_numbers zero (x ∷ xs) h below = absurd (let l = below x (0, omega arith, refl) in omega (arith, l))
few_numbers (suc n) xs h below =
    let rest = few_numbers n (others_than n xs) (others_apart n xs h) (λ x c. let r = others_from n xs x c in let l = below x r.0 in let ne = r.1 in omega (arith, l, ne)) in
    let one = one_lost n xs h in
    omega (arith, rest, one)

apart_pairs : (cs : List Call) → AllPairs (λ (c d : Call). c.block ≢ d.block) cs → Apart (map (λ (c : Call). c.block) cs)
apart_pairs [] h = tt
apart_pairs (c ∷ cs) h = (
  (λ there.
      let d = map_contains (λ (x : Call). x.block) cs c.block there in
      h 0 (suc d.1.0) d.0 (omega arith) (let l = d.1.1 in omega (arith, l)) (sym d.2 ∙ ap (λ (x : Call). x.block) (sym d.1.2))),
  apart_pairs cs (λ j k d l less. h (suc j) (suc k) d (omega (arith, l)) (omega (arith, less))),
)

-- calls of different blocks are no more than there are blocks
pub few_calls : (n : ℕ) (cs : List Call) → AllPairs (λ (c d : Call). c.block ≢ d.block) cs → All (λ (c : Call). (1 ≤ c.block) × (c.block ≤ n)) cs → length cs ≤ n
few_calls n cs pairs known =
    let bs = map (λ (c : Call). c.block) cs in
    let bound : (x : ℕ) → Contains bs x → (1 ≤ x) × (x ≤ n) = λ x c.
    let d = map_contains (λ (y : Call). y.block) cs x c in
    subst (λ z. (1 ≤ z) × (z ≤ n)) d.2 (All-contains (λ (y : Call). (1 ≤ y.block) × (y.block ≤ n)) cs d.0 known d.1) in
    let apart : Apart (0 ∷ bs) = ((λ c. let l = (bound 0 c).0 in omega (arith, l)), apart_pairs cs pairs) in
    let all = few_numbers (suc n) (0 ∷ bs) apart (λ x c. ⊎_elim (λ same. omega (arith, same)) (λ later. let l = (bound x later).1 in omega (arith, l)) (Contains-cons 0 bs x c)) in
    let long = length-map cs (λ (y : Call). y.block) in
    omega (arith, all, long)
