-- Nets without branches, whose values depend on those of earlier blocks alone: no loops, and short schedules.
use Rattle.std.proofs.Common.{◌≡◌, ◌≤◌, ◌<◌, ◌+◌, ◌*◌, inl, inr, ℕ, suc, List, [], ◌∷◌, length, slice_index_or, Contains, Bool, true, false, eqb, refl, sym, ap, arith}
use Rattle.std.specs.List.{sum_by, list_any, IsDistinct}
use Rattle.std.proofs.Math.Nat.{mul-suc}
use Rattle.std.proofs.lemmas.List.Sums.{sum_by-cons}
use Rattle.std.proofs.lemmas.List.Elements.{All-contains}
use Rattle.std.proofs.lemmas.Map.Keys.{IsDistinct-cons}
use Rattle.std.proofs.lemmas.Map.Steps.{length-le_from_distinct_below}
use Rattle.sci_loop.specs.Loops.{Chained}
use Rattle.sci_loop.proofs.Grounded.{fresh, IsDistinct-nil}
use Rattle.sci_net.specs.declared.Source.{Source}
use Rattle.sci_net.specs.Parts.{Parts}
use Rattle.sci_net.specs.Sources.{sources_of, source_of}
use Rattle.sci_reaction.specs.Depends.{Depends, IsLoopFree}
use Rattle.sci_reaction.specs.Schedule.{Guard, Entry, blocks_of, IsEntry, IsRow}
use Rattle.sci_reaction.proofs.Lists.{Has}
use Rattle.sci_reaction.proofs.Spreading.{Spread-block}
use Rattle.sci_reaction.proofs.OneResult.{irreflexive}
use Rattle.sci_reaction.proofs.Rows.{Sorted, sorted_row, has-Contains}
use Rattle.sci_sched.specs.Size.{entry_count, guards_in, guard_count}
use Rattle.sci_bulk.specs.Laws.{IsForward, ForwardIsFree, ForwardIsShort}

-- ---- lists

no_elements : {A : Type 0} (xs : List A) → ((x : A) → Contains xs x → ⊥) → xs ≡ []
no_elements [] h = refl
no_elements (x ∷ xs) h = absurd (h x (0, omega arith, refl))

later : {A : Type 0} (x y : A) (xs : List A) → Contains xs y → Contains (x ∷ xs) y
later x y xs h = (suc h.0, omega (arith, h.1), h.2)

sum_by-nil : (f : List Entry → ℕ) → sum_by f [] ≡ 0
sum_by-nil f = refl

bounded_sum : (f : List Entry → ℕ) (rows : List (List Entry)) (bound : ℕ) → ((k : ℕ) → k < length rows → f (slice_index_or rows k []) ≤ bound) → sum_by f rows ≤ bound * length rows
bounded_sum f [] bound h = omega (arith, sum_by-nil f)
bounded_sum f (row ∷ rows) bound h =
    let first : f row ≤ bound = h 0 (omega arith) in
    let rest : sum_by f rows ≤ bound * length rows = bounded_sum f rows bound (λ k l. h (suc k) (omega (arith, l))) in
    let all : sum_by f (row ∷ rows) ≡ f row + sum_by f rows = sum_by-cons f row rows in
    let more : bound * length (row ∷ rows) ≡ bound * length rows + bound = mul-suc bound (length rows) in
    omega (arith, all, first, rest, more)

not_has : (bs : List ℕ) (b : ℕ) (h : Bool) → h ≡ list_any (eqb b) bs → (Has bs b → ⊥) → list_any (eqb b) bs ≡ false
not_has bs b true is never = absurd (never (sym is))
not_has bs b false is never = sym is

module _ (n : Parts) (s : Source) (forward : IsForward n) where
  -- ---- no loops

  earlier : (c b : ℕ) → Depends n s c b → b < c
  earlier c b d = elim d.waits [ inl h ↦ forward.earlier b c h | inr h ↦ absurd (forward.no_branch b h.sync) ]

  rising : (x : ℕ) (xs : List ℕ) (first : ℕ) → Chained (Depends n s) x xs first → x < first
  rising x [] first h = earlier first x h
  rising x (y ∷ ys) first h =
      let here : x < y = earlier y x h.0 in
      let rest : y < first = rising y ys first h.1 in
      omega (arith, here, rest)

  no_loop : IsLoopFree n s
  no_loop [] h = h
  no_loop (x ∷ xs) h = let l : x < x = rising x xs x h.1 in omega (arith, l)

  -- ---- short rows

  no_guard : (e : Entry) → IsEntry n s e → e.guards ≡ []
  no_guard e entry = no_elements e.guards (λ g has. forward.no_branch g.block ((entry.guards_are g).0 has).sync)

  no_guards : (row : List Entry) → ((e : Entry) → Contains row e → IsEntry n s e) → guards_in row ≡ 0
  no_guards [] h = refl
  no_guards (e ∷ es) h =
      let first = ap (λ (gs : List Guard). length gs) (no_guard e (h e (0, omega arith, refl))) in
      let rest = no_guards es (λ d has. h d (later e d es has)) in
      let all : guards_in (e ∷ es) ≡ length e.guards + guards_in es = sum_by-cons (λ (d : Entry). length d.guards) e es in
      omega (arith, all, first, rest)

  row_guards : (row : List Entry) → IsRow n s row → guards_in row ≡ 0
  row_guards row is = no_guards row (λ e has. All-contains (IsEntry n s) row e is.entries has)

  distinct : (bs : List ℕ) → Sorted n s bs → IsDistinct eqb bs
  distinct [] h = IsDistinct-nil
  distinct (b ∷ bs) h = IsDistinct-cons eqb b bs (fresh b bs (not_has bs b (list_any (eqb b) bs) refl (λ has. irreflexive n s no_loop b (h.0 b has)))) (distinct bs h.1)

  row_length : (row : List Entry) → IsRow n s row → length row ≤ length n.specs + 1
  row_length row is =
      let blocks = length-le_from_distinct_below (blocks_of row) (length n.specs + 1) (distinct (blocks_of row) (sorted_row n s row is.ordered))
      (λ q has. let here = Spread-block n s _ ((is.exactly q).0 (has-Contains (blocks_of row) q has)) in omega (arith, here.most)) in
      omega (arith, same_length row, blocks)
    where
      same_length : (es : List Entry) → length (blocks_of es) ≡ length es
      same_length [] = refl
      same_length (e ∷ es) = let r = same_length es in omega (arith, r)

pub forward_is_free : ForwardIsFree
forward_is_free n s forward = no_loop n s forward

pub forward_is_short : ForwardIsShort
forward_is_short n rows forward is =
    let entries : entry_count rows ≤ (length n.specs + 1) * length rows = bounded_sum (λ row. length row) rows (length n.specs + 1) (λ k l. row_length n (source_of n k) forward (slice_index_or rows k []) (is.each k l)) in
    let guards : guard_count rows ≤ 0 * length rows = bounded_sum guards_in rows 0 (λ k l. omega (arith, row_guards n (source_of n k) forward (slice_index_or rows k []) (is.each k l))) in
    let same : (length n.specs + 1) * length rows ≡ (length n.specs + 1) * length (sources_of n) = ap (λ (k : ℕ). (length n.specs + 1) * k) is.enough in
    omega (arith, entries, guards, same)
