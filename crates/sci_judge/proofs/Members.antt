-- Lists of numbers without repeats, and the lists of a table.
use Rattle.std.proofs.Common.{◌≡◌, ℕ, zero, suc, ◌+◌, ◌<◌, Bool, true, false, ◌||◌, cond, ◌⊎◌, ◌↔◌, inl, inr, ⊎_elim, List, [], ◌∷◌, ◌++◌, length, take, drop, get_or, Contains, eqb, refl, sym, ap, subst, ◌∙◌, arith, true≢false, Vec}
use Rattle.std.specs.declared.alloc.Global.{Global}
use Rattle.std.specs.List.{IsDistinct, AllByRecursion, All, filter, list_any}
use Rattle.std.specs.List.Sorted.{IsStrictlyIncreasing}
use Rattle.std.proofs.Math.Seq.{drop-cons}
use Rattle.std.proofs.lemmas.Bool.{cases_Bool, eqb-true, eq-eqb}
use Rattle.std.proofs.lemmas.List.{take_more, take-append-drop}
use Rattle.std.proofs.lemmas.List.Folds.{list_any-append}
use Rattle.std.proofs.lemmas.List.Elements.{Contains-get_or, Contains-append_cases}
use Rattle.std.proofs.lemmas.Map.Keys.{IsDistinct-from_apart, below_from_sorted, sorted_from_strictly_increasing}
use Rattle.std.proofs.lemmas.List.{get_or_default}
use Rattle.std.proofs.lemmas.Option.{slice_get_within, get_or_from_slice_get}
use Rattle.sci_loop.specs.declared.table.DepTable.{DepTable}
use Rattle.sci_loop.specs.Table.{Needs, IsTable}
use Rattle.sci_loop.proofs.Adding.{list_at-plain}
use Rattle.sci_loop.proofs.Places.{rises_at, closed_at, needs_at as row_needs}
use Rattle.sci_reaction.proofs.Lists.{once, cons-Contains}
use Rattle.sci_reaction.proofs.Rows.{Contains-has, has-Contains}
use Rattle.sci_judge.specs.Rounds.{needs_at}

abbrev pub has : List ℕ → ℕ → Bool
has xs q = list_any (eqb q) xs

-- ---- what a list has

pub hasnt : (xs : List ℕ) (q : ℕ) → (Contains xs q → ⊥) → has xs q ≡ false
hasnt xs q out = ⊎_elim (λ on. absurd (out (has-Contains xs q on))) (λ off. off) (cases_Bool (has xs q))

pub not_same : (a b : ℕ) → (a ≡ b → ⊥) → eqb a b ≡ false
not_same a b other = ⊎_elim (λ on. absurd (other (eqb-true a b on))) (λ off. off) (cases_Bool (eqb a b))

pub or_none : (x : Bool) → (x || false) ≡ x
or_none true = refl
or_none false = refl

pub has_push : (xs : List ℕ) (b q : ℕ) → has (xs ++ b ∷ []) q ≡ (has xs q || eqb q b)
has_push xs b q = list_any-append (eqb q) xs (b ∷ []) ∙ ap (λ t. has xs q || t) (or_none (eqb q b))

pub has_more : (xs : List ℕ) (i q : ℕ) → i < length xs → has (take (i + 1) xs) q ≡ (has (take i xs) q || eqb q (get_or xs i 0))
has_more xs i q l = ap (λ ys. has ys q) (take_more xs i 0 l) ∙ has_push (take i xs) (get_or xs i 0) q

pub split_at : (xs : List ℕ) (i : ℕ) → i < length xs → xs ≡ take i xs ++ get_or xs i 0 ∷ drop (suc i) xs
split_at xs i l = sym (take-append-drop i xs) ∙ ap (λ ys. take i xs ++ ys) (drop-cons xs i 0 l)

-- an element of a list without repeats doesn't stand before its place
pub fresh_at : (xs : List ℕ) (i : ℕ) → IsDistinct eqb xs → i < length xs → Contains (take i xs) (get_or xs i 0) → ⊥
fresh_at xs i distinct l h =
    once (take i xs) (drop (suc i) xs) (get_or xs i 0) (subst (IsDistinct eqb) (split_at xs i l) distinct) (Contains-has (take i xs) (get_or xs i 0) h)

pub distinct_rising : (xs : List ℕ) → IsStrictlyIncreasing xs → IsDistinct eqb xs
distinct_rising xs rising =
    IsDistinct-from_apart eqb xs (λ i j d less within. not_same (get_or xs i d) (get_or xs j d)
    (λ same. let up = below_from_sorted xs i j d (sorted_from_strictly_increasing xs rising) less within in omega (arith, up, same)))

all_from : (x : ℕ) (ys : List ℕ) → ((q : ℕ) → Contains ys q → eqb x q ≡ false) → AllByRecursion (λ y. eqb x y ≡ false) ys
all_from x [] h = tt
all_from x (y ∷ ys) h = (h y (0, omega arith, refl), all_from x ys (λ q c. h q (cons-Contains y ys q c)))

all_to : (x : ℕ) (ys : List ℕ) → AllByRecursion (λ y. eqb x y ≡ false) ys → (q : ℕ) → Contains ys q → eqb x q ≡ false
all_to x [] h q c = absurd (omega (arith, c.1))
all_to x (y ∷ ys) h q (zero, l, e) = ap (eqb x) (sym e) ∙ h.0
all_to x (y ∷ ys) h q (suc k, l, e) = all_to x ys h.1 q (k, omega (arith, l), e)

pub append_distinct : (xs ys : List ℕ) → IsDistinct eqb xs → IsDistinct eqb ys → ((q : ℕ) → Contains xs q → Contains ys q → ⊥) → IsDistinct eqb (xs ++ ys)
unfolding IsDistinct
append_distinct [] ys dx dy apart = dy
append_distinct (x ∷ xs) ys dx dy apart = (
  all_from x (xs ++ ys) (λ q h. ⊎_elim (λ old. all_to x xs dx.0 q old)
      (λ new. not_same x q (λ same. apart q (0, omega arith, same) new)) (Contains-append_cases xs ys q h)),
  append_distinct xs ys dx.1 dy (λ q old new. apart q (cons-Contains x xs q old) new),
)

pub tail_distinct : (x : ℕ) (xs : List ℕ) → IsDistinct eqb (x ∷ xs) → IsDistinct eqb xs
unfolding IsDistinct
tail_distinct x xs d = d.1

pub head_fresh : (x : ℕ) (xs : List ℕ) → IsDistinct eqb (x ∷ xs) → (q : ℕ) → Contains xs q → (x ≡ q) → ⊥
unfolding IsDistinct
head_fresh x xs d q h same = true≢false (sym (eq-eqb x q same) ∙ all_to x xs d.0 q h)

cond_cases : (t : Bool) (x : ℕ) (xs : List ℕ) (q : ℕ) → Contains (cond t (x ∷ xs) xs) q → ((t ≡ true) × (x ≡ q)) ⊎ Contains xs q
cond_cases true x xs q (zero, l, e) = inl (refl, e)
cond_cases true x xs q (suc k, l, e) = inr (k, omega (arith, l), e)
cond_cases false x xs q h = inr h

cond_keeps : (t : Bool) (x : ℕ) (xs : List ℕ) (q : ℕ) → Contains xs q → Contains (cond t (x ∷ xs) xs) q
cond_keeps true x xs q h = cons-Contains x xs q h
cond_keeps false x xs q h = h

cond_first : (t : Bool) (x : ℕ) (xs : List ℕ) → t ≡ true → Contains (cond t (x ∷ xs) xs) x
cond_first true x xs h = (0, omega arith, refl)
cond_first false x xs h = absurd (true≢false (sym h))

pub filter_from : (p : ℕ → Bool) (xs : List ℕ) (q : ℕ) → Contains (filter p xs) q → Contains xs q × (p q ≡ true)
filter_from p [] q h = absurd (omega (arith, h.1))
filter_from p (x ∷ xs) q h =
    ⊎_elim (λ here. ((0, omega arith, here.1), ap p (sym here.1) ∙ here.0))
    (λ more. let r = filter_from p xs q more in (cons-Contains x xs q r.0, r.1)) (cond_cases (p x) x (filter p xs) q h)

pub filter_to : (p : ℕ → Bool) (xs : List ℕ) (q : ℕ) → Contains xs q → p q ≡ true → Contains (filter p xs) q
filter_to p [] q h on = absurd (omega (arith, h.1))
filter_to p (x ∷ xs) q (zero, l, e) on = subst (Contains (filter p (x ∷ xs))) e (cond_first (p x) x (filter p xs) (ap p e ∙ on))
filter_to p (x ∷ xs) q (suc k, l, e) on = cond_keeps (p x) x (filter p xs) q (filter_to p xs q (k, omega (arith, l), e) on)

pub filter_distinct : (p : ℕ → Bool) (xs : List ℕ) → IsDistinct eqb xs → IsDistinct eqb (filter p xs)
unfolding IsDistinct
filter_distinct p [] d = d
filter_distinct p (x ∷ xs) d = by_test (p x) (filter_distinct p xs d.1)
  where
    by_test : (t : Bool) → IsDistinct eqb (filter p xs) → IsDistinct eqb (cond t (x ∷ filter p xs) (filter p xs))
    by_test true rest = (all_from x (filter p xs) (λ q h. all_to x xs d.0 q (filter_from p xs q h).0), rest)
    by_test false rest = rest

-- ---- the lists of a table

pub there : {X : Type 0} (xs : List X) (i : ℕ) → i < length xs → (x : X) × (x ≡ get_or xs i x)
there [] i l = absurd (omega (arith, l))
there (x ∷ xs) zero l = (x, refl)
there (x ∷ xs) (suc i) l = there xs i (omega (arith, l))

module _ (t : DepTable) (ok : IsTable t) (i : ℕ) (within : i < length t.members.items) where
  row : (v : Vec ℕ Global) × (v ≡ get_or t.needs.items i v)
  row = there t.needs.items i (let long = ok.rows in omega (arith, long, within))

  same_row : needs_at t i ≡ row.0.items
  same_row = list_at-plain t.needs.items i row.0 (let long = ok.rows in omega (arith, long, within)) row.1

  pub needs_rise : IsStrictlyIncreasing (needs_at t i)
  needs_rise = rises_at t i row.0 t.members.items (needs_at t i) ok within row.1 refl same_row

  pub needs_distinct : IsDistinct eqb (needs_at t i)
  needs_distinct = distinct_rising (needs_at t i) needs_rise

  pub needs_members : All (Contains t.members.items) (needs_at t i)
  needs_members = closed_at t i row.0 t.members.items (needs_at t i) ok within row.1 refl same_row

  -- the member at a place needs these blocks
  pub needs_of_place : (c b : ℕ) → get_or t.members.items i 0 ≡ c → Contains (needs_at t i) b ↔ Needs t c b
  needs_of_place c b same = let h = row_needs t i c row.0 t.members.items (needs_at t i) ok within same row.1 refl same_row b in (h.0, h.1)

-- a member stands at a place
pub place : (xs : List ℕ) (c : ℕ) → Contains xs c → (i : ℕ) × (i < length xs) × (get_or xs i 0 ≡ c)
place xs c h = (h.0, h.1, get_or_default xs h.0 0 c h.1 ∙ h.2)

pub needs_member : (t : DepTable) (c b : ℕ) → Needs t c b → Contains t.members.items c
needs_member t c b h =
    let within = slice_get_within t.members.items h.0 c h.2 in
    subst (Contains t.members.items) (get_or_from_slice_get t.members.items h.0 c 0 h.2) (Contains-get_or t.members.items h.0 0 within)
