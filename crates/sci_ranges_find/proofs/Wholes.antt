-- The widest table, as code writes it.
use Rattle.std.proofs.Common.{◌≡◌, ℕ, zero, suc, ◌+◌, ◌-◌, ◌<◌, ◌≤◌, Bool, true, false, cond, List, [], ◌∷◌, ◌++◌, length, take, get_or, replicate, Option, Some, None, Vec, refl, sym, ap, subst, ◌∙◌, arith, inl, inr, append_assoc, append-nil, take_all}
use Rattle.std.proofs.lemmas.Bool.{cases_lt}
use Rattle.std.proofs.lemmas.Bool.Decides.{nat_tests}
use Rattle.std.proofs.lemmas.List.{get_or_append_left, get_or-append_right, get_or-replicate, length-replicate, get_or_push, length_push, take_more, map-append}
use Rattle.std.specs.Prelude.{nat_lt}
use Rattle.std.specs.declared.alloc.Global.{Global}
use Rattle.sci_base.specs.Lists.{truth_at}
use Rattle.sci_forms.specs.declared.ports.Port.{Port}
use Rattle.sci_forms.specs.Ports.{no_port, port_at, elements, type_of, type_at, total}
use Rattle.sci_forms.specs.Words.{out_type}
use Rattle.sci_net.specs.Parts.{Parts, IsBlock, rows_of, spec_of}
use Rattle.sci_ranges_base.specs.declared.interval.Interval.{Interval}
use Rattle.sci_ranges_base.specs.Intervals.{whole, range_at}
use Rattle.sci_ranges_rules.specs.Rules.{state_range}
use Rattle.sci_ranges_pass.specs.Laws.{IsWidest}
use Rattle.sci_ranges_pass.specs.Ranges.{Ranges}
use Rattle.sci_ranges_find.specs.Widest.{whole_ports, AreWholeShowsTo, AreWholeShows, AreWholeStatesTo, AreWholeStates}

abbrev whole_port : Port → List (Option Interval)
whole_port p = replicate (elements p) (Some (whole (type_of p)))

-- ---- pushing

pub pushed_more : (old items : List (Option Interval)) (o : Option Interval) (k : ℕ) → items ≡ old ++ replicate k o → items ++ o ∷ [] ≡ old ++ replicate (k + 1) o
pushed_more old items o k e =
    let one : suc k ≡ k + 1 = omega arith in
    ap (λ (xs : List (Option Interval)). xs ++ o ∷ []) e
    ∙ (append_assoc old (replicate k o) (o ∷ []) ∙ ap (λ (xs : List (Option Interval)). old ++ xs) (replicate_more k o ∙ ap (λ (j : ℕ). replicate j o) one))
  where
    replicate_more : {A : Type 0} (j : ℕ) (a : A) → replicate j a ++ a ∷ [] ≡ replicate (suc j) a
    replicate_more zero a = refl
    replicate_more (suc j) a = ap (λ xs. a ∷ xs) (replicate_more j a)

ports_push : (ps : List Port) (p : Port) → whole_ports (ps ++ p ∷ []) ≡ whole_ports ps ++ whole_port p
ports_push [] p = append-nil (whole_port p)
ports_push (q ∷ ps) p = ap (λ (xs : List (Option Interval)). whole_port q ++ xs) (ports_push ps p) ∙ sym (append_assoc (whole_port q) (whole_ports ps) (whole_port p))

pub ports_more : (ps : List Port) (k : ℕ) (p : Port) (items new : List (Option Interval)) → k < length ps → p ≡ port_at ps k → items ≡ whole_ports (take k ps) → new ≡ items ++ whole_port p →
    new ≡ whole_ports (take (k + 1) ps)
ports_more ps k p items new h s so_far is =
    is
    ∙ (ap (λ (xs : List (Option Interval)). xs ++ whole_port p) so_far
    ∙ (ap (λ (q : Port). whole_ports (take k ps) ++ whole_port q) s
    ∙ (sym (ports_push (take k ps) (port_at ps k)) ∙ ap whole_ports (sym (take_more ps k no_port h)))))

pub ports_done : (ps : List Port) (k : ℕ) (items : List (Option Interval)) → length ps ≤ k → items ≡ whole_ports (take k ps) → items ≡ whole_ports ps
ports_done ps k items h e = e ∙ ap whole_ports (take_all k ps h)

-- ---- block by block

-- one list more behind those of the blocks so far
listed_more : {A : Type 0} (f : ℕ → List A) (rows : List (List A)) (k : ℕ) (v : List A) → (length rows ≡ k + 1) × ((b : ℕ) → b < k → get_or rows (b + 1) [] ≡ f b) → v ≡ f k →
    (length (rows ++ v ∷ []) ≡ (k + 1) + 1) × ((b : ℕ) → b < k + 1 → get_or (rows ++ v ∷ []) (b + 1) [] ≡ f b)
listed_more f rows k v h is = (
  length_push rows v ∙ ap (λ m. m + 1) h.0,
  λ b l. elim (cases_lt b k) [
    | inl p ↦ get_or_append_left rows (v ∷ []) [] (b + 1) (omega (arith, p, h.0)) ∙ h.1 b p
    | inr p ↦ let same : k ≡ b = omega (arith, p, l) in get_or_push rows v [] (b + 1) (omega (arith, h.0, same)) ∙ (is ∙ ap f same)
  ],
)

rows_push : {A : Type 0} (rows : List (Vec A Global)) (v : Vec A Global) → rows_of (rows ++ v ∷ []) ≡ rows_of rows ++ v.items ∷ []
rows_push {A} rows v = map-append (λ (w : Vec A Global). w.items) rows (v ∷ [])

pub shows_more : (n : Parts) (k : ℕ) (rows : List (Vec (Option Interval) Global)) (v : Vec (Option Interval) Global) → AreWholeShowsTo n k (rows_of rows) → v.items ≡ whole_ports (spec_of n (k + 1)).outs →
    AreWholeShowsTo n (k + 1) (rows_of (rows ++ v ∷ []))
shows_more n k rows v so_far is =
    subst (AreWholeShowsTo n (k + 1)) (sym (rows_push rows v)) (listed_more (λ b. whole_ports (spec_of n (b + 1)).outs) (rows_of rows) k v.items so_far is)

pub states_more : (n : Parts) (k : ℕ) (rows : List (Vec Interval Global)) (v : Vec Interval Global) → AreWholeStatesTo n k (rows_of rows) → v.items ≡ whole (out_type (spec_of n (k + 1))) ∷ [] →
    AreWholeStatesTo n (k + 1) (rows_of (rows ++ v ∷ []))
states_more n k rows v so_far is =
    subst (AreWholeStatesTo n (k + 1)) (sym (rows_push rows v)) (listed_more (λ b. whole (out_type (spec_of n (b + 1))) ∷ []) (rows_of rows) k v.items so_far is)

-- before the first block there is one list, of no block
pub shows_begin : (n : Parts) (old rows : List (Vec (Option Interval) Global)) (v : Vec (Option Interval) Global) → old ≡ [] → rows ≡ old ++ v ∷ [] → AreWholeShowsTo n 0 (rows_of rows)
shows_begin n old rows v e f =
    (ap (λ (r : List (Vec (Option Interval) Global)). length (rows_of r)) (f ∙ ap (λ (o : List (Vec (Option Interval) Global)). o ++ v ∷ []) e), λ b l. absurd (omega (arith, l)))

pub states_begin : (n : Parts) (old rows : List (Vec Interval Global)) (v : Vec Interval Global) → old ≡ [] → rows ≡ old ++ v ∷ [] → AreWholeStatesTo n 0 (rows_of rows)
states_begin n old rows v e f =
    (ap (λ (r : List (Vec Interval Global)). length (rows_of r)) (f ∙ ap (λ (o : List (Vec Interval Global)). o ++ v ∷ []) e), λ b l. absurd (omega (arith, l)))

-- ---- the table

whole_at : (ps : List Port) (e : ℕ) → e < total ps → range_at (whole_ports ps) e ≡ Some (whole (type_at ps e))
whole_at [] e h = absurd (omega (arith, h))
whole_at (p ∷ ps) e h = by_test (λ (l : elements p ≤ e). whole_at ps (e - elements p) (omega (arith, l, h))) (nat_lt e (elements p)) refl
  where
    len : length (whole_port p) ≡ elements p
    len = length-replicate (elements p) (Some (whole (type_of p)))

    by_test : (elements p ≤ e → range_at (whole_ports ps) (e - elements p) ≡ Some (whole (type_at ps (e - elements p)))) → (b : Bool) → nat_lt e (elements p) ≡ b
        → range_at (whole_port p ++ whole_ports ps) e ≡ Some (whole (cond b (type_of p) (type_at ps (e - elements p))))
    by_test rest true q =
        let l : e < elements p = grind (arith, nat_tests, q) in
        get_or_append_left (whole_port p) (whole_ports ps) None e (omega (arith, l, len)) ∙ get_or-replicate (elements p) e (Some (whole (type_of p))) None l
    by_test rest false q =
        let l : elements p ≤ e = grind (arith, nat_tests, q) in get_or-append_right (whole_port p) (whole_ports ps) (elements p) e None len l ∙ rest l

-- a block is one more than a place among all blocks
block_place : (n : Parts) (P : ℕ → Type 0) → ((b : ℕ) → b < length n.specs → P (b + 1)) → (b : ℕ) → IsBlock n b → P b
block_place n P h zero block = absurd (omega (arith, block.least))
block_place n P h (suc b) block = let one : b + 1 ≡ suc b = omega arith in subst P one (h b (omega (arith, block.most)))

one_range : (i : Interval) (k : ℕ) → state_range (i ∷ []) k ≡ i
one_range i k = refl

pub are_widest : (n : Parts) (r : Ranges) → AreWholeShows n r.shows → AreWholeStates n r.states → r.overflows ≡ replicate (length n.specs + 1) true → r.zeros ≡ replicate (length n.specs + 1) true → IsWidest n r
are_widest n r shows states overflows zeros = record {
  shows = λ b e block l.
      (block_place n (λ c. (d : ℕ) → d < total (spec_of n c).outs → range_at (get_or r.shows c []) d ≡ Some (whole (type_at (spec_of n c).outs d)))
      (λ c h d m. ap (λ (us : List (Option Interval)). range_at us d) (shows.1 c h) ∙ whole_at (spec_of n (c + 1)).outs d m) b block) e l;
  states = λ b k block.
      (block_place n (λ c. (j : ℕ) → state_range (get_or r.states c []) j ≡ whole (out_type (spec_of n c)))
      (λ c h j. ap (λ (xs : List Interval). state_range xs j) (states.1 c h) ∙ one_range (whole (out_type (spec_of n (c + 1)))) j) b block) k;
  overflows = λ b block. ap (λ (bs : List Bool). truth_at bs b) overflows ∙ get_or-replicate (length n.specs + 1) b true false (omega (arith, block.most));
  zeros = λ b block. ap (λ (bs : List Bool). truth_at bs b) zeros ∙ get_or-replicate (length n.specs + 1) b true false (omega (arith, block.most));
}
