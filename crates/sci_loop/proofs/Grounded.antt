-- A relation on finitely many numbers that has no loop is well founded.
use Rattle.std.proofs.Common.{◌≡◌, ℕ, zero, suc, ◌+◌, ◌<◌, ◌≤◌, Bool, true, false, ◌||◌, ⊎_elim, List, [], ◌∷◌, ◌++◌, length, get_or, take, drop, take-append-drop, eqb, refl, sym, ap, subst, arith, true≢false}
use Rattle.std.specs.List.{IsDistinct, AllByRecursion, list_any}
use Rattle.std.proofs.lemmas.Bool.{cases_Bool, or_cases, eqb-true}
use Rattle.std.proofs.lemmas.Map.Steps.{length-le_from_distinct_below}
use Rattle.std.proofs.lemmas.Map.Keys.{IsDistinct-cons}
use Rattle.sci_loop.specs.Grounded.{Grounded, grounded}
use Rattle.sci_loop.specs.Loops.{Chained, HasNoLoop}
use Rattle.sci_loop.specs.Depth.{ChainTo}

-- each of the list needs the one before it, and the first needs c
abbrev pub Path : (ℕ → ℕ → Type 0) → ℕ → List ℕ → Type 0
Path needs c [] = Unit {0}
Path needs c (x ∷ xs) = needs x c × Path needs x xs

abbrev Has : List ℕ → ℕ → Type 0
Has xs q = list_any (eqb q) xs ≡ true

ByRecursion-left : (P : ℕ → Type 0) (xs ys : List ℕ) → AllByRecursion P (xs ++ ys) → AllByRecursion P xs
ByRecursion-left P [] ys h = tt
ByRecursion-left P (x ∷ xs) ys h = (h.0, ByRecursion-left P xs ys h.1)

IsDistinct-left : (xs ys : List ℕ) → IsDistinct eqb (xs ++ ys) → IsDistinct eqb xs
unfolding IsDistinct
IsDistinct-left [] ys h = tt
IsDistinct-left (x ∷ xs) ys h = (ByRecursion-left (λ y. eqb x y ≡ false) xs ys h.0, IsDistinct-left xs ys h.1)

-- the part of a path up to b closes where `last` needs b
Closing : (ℕ → ℕ → Type 0) → ℕ → ℕ → List ℕ → Type 0
Closing needs last c xs = (ys : List ℕ) × (rest : List ℕ) × (xs ≡ ys ++ rest) × Chained needs c ys last

closing : (needs : ℕ → ℕ → Type 0) (last b c : ℕ) (xs : List ℕ) → Path needs c xs → needs last b → Has (c ∷ xs) b → Closing needs last c xs
unfolding Closing
closing needs last b c [] path h has =
    ⊎_elim (λ same. ([], [], refl, subst (needs last) (eqb-true b c same) h)) (λ none. absurd (true≢false (sym none)))
    (or_cases (eqb b c) false has)
closing needs last b c (x ∷ xs) path h has =
    ⊎_elim (λ same. ([], x ∷ xs, refl, subst (needs last) (eqb-true b c same) h))
    (λ other. let r = closing needs last b x xs path.1 h other in (x ∷ r.0, r.1, ap (λ zs. x ∷ zs) r.2, (path.0, r.3)))
    (or_cases (eqb b c) (list_any (eqb b) (x ∷ xs)) has)

or_false : (x y : Bool) → (x || y) ≡ false → (x ≡ false) × (y ≡ false)
or_false true y h = absurd (true≢false h)
or_false false y h = (refl, h)

pub fresh : (b : ℕ) (xs : List ℕ) → list_any (eqb b) xs ≡ false → AllByRecursion (λ y. eqb b y ≡ false) xs
fresh b [] h = tt
fresh b (x ∷ xs) h = let o = or_false (eqb b x) (list_any (eqb b) xs) h in (o.0, fresh b xs o.1)

pub inside_at : (size : ℕ) (xs : List ℕ) → AllByRecursion (λ q. q < size) xs → (q : ℕ) → Has xs q → q < size
inside_at size [] inside q h = absurd (true≢false (sym h))
inside_at size (x ∷ xs) inside q h =
    ⊎_elim (λ same. subst (λ v. v < size) (sym (eqb-true q x same)) inside.0) (inside_at size xs inside.1 q)
    (or_cases (eqb q x) (list_any (eqb q) xs) h)

pub IsDistinct-nil : IsDistinct eqb []
unfolding IsDistinct
IsDistinct-nil = tt

module _ (needs : ℕ → ℕ → Type 0) (size : ℕ) (below : (c b : ℕ) → needs c b → b < size) (free : HasNoLoop needs) where
  unclosed : (b c : ℕ) (xs : List ℕ) → IsDistinct eqb (c ∷ xs) → Path needs c xs → needs c b → Has (c ∷ xs) b → ⊥
  unfolding Closing
  unclosed b c xs distinct path h has =
      let r = closing needs c b c xs path h has in
      free (c ∷ r.0) (IsDistinct-left (c ∷ r.0) r.1 (subst (λ zs. IsDistinct eqb (c ∷ zs)) r.2 distinct), r.3)

  -- a path that has met k members less than there are
  met : (k c : ℕ) (xs : List ℕ) → size ≤ length xs + k → AllByRecursion (λ q. q < size) (c ∷ xs) → IsDistinct eqb (c ∷ xs) → Path needs c xs → Grounded needs c
  met zero c xs left inside distinct path =
      absurd (let full : length (c ∷ xs) ≤ size = length-le_from_distinct_below (c ∷ xs) size distinct (inside_at size (c ∷ xs) inside) in omega arith)
  met (suc k) c xs left inside distinct path =
      grounded c (λ b h. ⊎_elim (λ has. absurd (unclosed b c xs distinct path h has))
      (λ new. met k b (c ∷ xs) (omega arith) (below c b h, inside) (IsDistinct-cons eqb b (c ∷ xs) (fresh b (c ∷ xs) new) distinct) (h, path))
      (cases_Bool (list_any (eqb b) (c ∷ xs))))

  -- without a loop, no chain of needs is longer than there are numbers
  no_long_chain : (k c : ℕ) (xs : List ℕ) → size ≤ length xs + k → AllByRecursion (λ q. q < size) (c ∷ xs) → IsDistinct eqb (c ∷ xs) → Path needs c xs → ChainTo needs k c → ⊥
  no_long_chain zero c xs left inside distinct path ch =
      let full : length (c ∷ xs) ≤ size = length-le_from_distinct_below (c ∷ xs) size distinct (inside_at size (c ∷ xs) inside) in omega arith
  no_long_chain (suc k) c xs left inside distinct path ch =
      ⊎_elim (λ has. unclosed ch.0 c xs distinct path ch.1 has)
      (λ new. no_long_chain k ch.0 (c ∷ xs) (omega arith) (below c ch.0 ch.1, inside) (IsDistinct-cons eqb ch.0 (c ∷ xs) (fresh ch.0 (c ∷ xs) new) distinct) (ch.1, path) ch.2)
      (cases_Bool (list_any (eqb ch.0) (c ∷ xs)))

  pub no_loop_short : (c : ℕ) → c < size → ChainTo needs size c → ⊥
  no_loop_short c h ch = no_long_chain size c [] (omega arith) (h, tt) (IsDistinct-cons eqb c [] tt IsDistinct-nil) tt ch

  pub no_loop_grounded : (c : ℕ) → c < size → Grounded needs c
  no_loop_grounded c h = met size c [] (omega arith) (h, tt) (IsDistinct-cons eqb c [] tt IsDistinct-nil) tt

-- k + 1 needs lead from a to b
abbrev LeadsIn : (ℕ → ℕ → Type 0) → ℕ → ℕ → ℕ → Type 0
LeadsIn needs a b zero = needs a b
LeadsIn needs a b (suc k) = (m : ℕ) × needs a m × LeadsIn needs m b k

LeadsIn-then : (needs : ℕ → ℕ → Type 0) (k a b c : ℕ) → LeadsIn needs a b k → needs b c → LeadsIn needs a c (suc k)
LeadsIn-then needs zero a b c w h = (b, w, h)
LeadsIn-then needs (suc k) a b c w h = (w.0, w.1, LeadsIn-then needs k w.0 b c w.2 h)

LeadsIn-chained : (needs : ℕ → ℕ → Type 0) (before : ℕ) (xs : List ℕ) (first : ℕ) → Chained needs before xs first → LeadsIn needs first before (length xs)
LeadsIn-chained needs before [] first h = h
LeadsIn-chained needs before (x ∷ xs) first h = LeadsIn-then needs (length xs) first x before (LeadsIn-chained needs x xs first h.1) h.0

-- the same round, begun one need later
turned : (needs : ℕ → ℕ → Type 0) (k c : ℕ) → LeadsIn needs c c k → (b : ℕ) × needs c b × LeadsIn needs b b k
turned needs zero c w = (c, w, w)
turned needs (suc k) c w = (w.0, w.1, LeadsIn-then needs k w.0 c w.0 w.2 w.1)

no_round : (needs : ℕ → ℕ → Type 0) (k : ℕ) {c : ℕ} → Grounded needs c → LeadsIn needs c c k → ⊥
no_round needs k (grounded c below) w = let t = turned needs k c w in no_round needs k (below t.0 t.1) t.2

-- where each number that needs another is grounded, there is no loop
pub grounded_no_loop : (needs : ℕ → ℕ → Type 0) → ((c b : ℕ) → needs c b → Grounded needs c) → HasNoLoop needs
grounded_no_loop needs all [] h = h
grounded_no_loop needs all (x ∷ xs) h =
    let w = LeadsIn-chained needs x xs x h.1 in let t = turned needs (length xs) x w in no_round needs (length xs) (all x t.0 t.1) w

-- the part of a path up to its element k closes where `last` needs that element
pub closes_at : (needs : ℕ → ℕ → Type 0) (last c : ℕ) (xs : List ℕ) (k : ℕ) → k ≤ length xs → Path needs c xs → needs last (get_or (c ∷ xs) k 0) → Chained needs c (take k xs) last
closes_at needs last c xs zero h path n = n
closes_at needs last c [] (suc k) h path n = absurd (omega arith)
closes_at needs last c (x ∷ xs) (suc k) h path n = (path.0, closes_at needs last x xs k (omega arith) path.1 n)

pub IsDistinct-take : (k : ℕ) (xs : List ℕ) → IsDistinct eqb xs → IsDistinct eqb (take k xs)
IsDistinct-take k xs h = IsDistinct-left (take k xs) (drop k xs) (subst (λ zs. IsDistinct eqb zs) (sym (take-append-drop k xs)) h)
