-- The entries of a row as levels of one depth each.
use Rattle.std.proofs.Common.{◌≡◌, ◌≢◌, ℕ, suc, ◌+◌, ◌-◌, ◌<◌, ◌≤◌, Bool, true, false, ◌||◌, cond, eqb, ◌↔◌, ◌⊎◌, inl, inr, ⊎_elim, List, [], ◌∷◌, ◌++◌, length, map, get_or, take, drop, Contains, All, Some, refl, sym, ap, subst, ◌∙◌, arith, true≢false}
use Rattle.std.specs.Prelude.{nat_eq, not}
use Rattle.std.specs.List.{IsDistinct, filter}
use Rattle.std.specs.List.Sorted.{IsPermutation}
use Rattle.std.proofs.lemmas.Bool.{cases_Bool, cases_eq, eqb-true, eq-eqb}
use Rattle.std.proofs.lemmas.List.{get_or-map, length-map, take-map, drop-map, get_or-take, get_or-drop, length-take-le, length-drop, take-append-drop, take-append-le, take_all}
use Rattle.std.proofs.lemmas.List.Elements.{All-contains, All-from_recursion, filter-append}
use Rattle.std.proofs.lemmas.List.Sorted.{IsPermutation-map, IsPermutation-sym, Contains-permutation, All-permutation}
use Rattle.std.proofs.lemmas.Map.Keys.{IsDistinct-IsPermutation}
use Rattle.std.proofs.Math.Seq.{drop-append_seam}
use Rattle.sci_net.specs.declared.Source.{Source}
use Rattle.sci_net.specs.Parts.{IsBlock}
use Rattle.sci_reaction.specs.Depends.{HasDepth}
use Rattle.sci_reaction.specs.Kept.{guard_of, entry_of, entries_of}
use Rattle.sci_reaction.specs.Schedule.{Entry as PlainEntry, blocks_of}
use Rattle.sci_reaction.specs.declared.entry.Entry.{Entry}
use Rattle.sci_reaction.proofs.Spreading.{Spread-block}
use Rattle.sci_rounds.specs.Rounds.{TellsActivation}
use Rattle.sci_rounds.proofs.Together.{Apart}
use Rattle.sci_rounds.proofs.ByDepth.{AreByDepth, IsLevel, part, no_entry, entry_in, block_in_row, depth_in_row, block_at_place}
use Rattle.sci_bank.specs.declared.runs.Call.{Call}
use Rattle.sci_store.specs.declared.marks.Mark.{Mark}
use Rattle.sci_store.specs.declared.row.Run.{Run}
use Rattle.sci_store.specs.Entries.{activation}
use Rattle.sci_store.specs.Frame.{Fixed, seat_of}
use Rattle.sci_store.specs.Rows.{ReadyRow, IsRowOf, IsRun, IsAlone, StandsBefore, is_guarded, call_of, between, depth_at, calls_in, run_calls, chosen_calls, call_on}

-- ---- lists

pub between_at : {A : Type 0} (xs : List A) (start end k : ℕ) (d : A) → k < end - start → get_or (between xs start end) k d ≡ get_or xs (start + k) d
between_at xs start end k d l = get_or-take (end - start) (drop start xs) k d l ∙ get_or-drop start xs k d

pub between_long : {A : Type 0} (xs : List A) (start end : ℕ) → start ≤ end → end ≤ length xs → length (between xs start end) ≡ end - start
between_long xs start end l m = let rest = length-drop start xs in length-take-le (end - start) (drop start xs) (omega (arith, rest, l, m))

pub between-map : {A B : Type 0} (g : A → B) (xs : List A) (start end : ℕ) → between (map g xs) start end ≡ map g (between xs start end)
between-map g xs start end = ap (take (end - start)) (drop-map g start xs) ∙ take-map g (end - start) (drop start xs)

pub all_between : {A : Type 0} (P : A → Type 0) (xs : List A) (start end : ℕ) → All P (between xs start end) → end ≤ length xs → (k : ℕ) (d : A) → start ≤ k → k < end
    → P (get_or xs k d)
all_between P xs start end h m k d l less =
    let long = between_long xs start end (omega (arith, l, less)) m in
    let same : start + (k - start) ≡ k = omega (arith, l) in
    subst P (between_at xs start end (k - start) d (omega (arith, l, less)) ∙ ap (λ j. get_or xs j d) same) (h (k - start) d (omega (arith, long, l, less)))

pub some_of : {A : Type 0} (xs : List A) (k : ℕ) → k < length xs → A
some_of [] k l = absurd (omega (arith, l))
some_of (x ∷ xs) k l = x

eqb_flips : (a b : ℕ) → nat_eq a b ≡ nat_eq b a
eqb_flips a b = ⊎_elim (λ on. on ∙ sym (eq-eqb b a (sym (eqb-true a b on))))
    (λ off. off ∙ sym (⊎_elim (λ back. absurd (true≢false (sym (eq-eqb a b (sym (eqb-true b a back))) ∙ off))) (λ both. both) (cases_Bool (nat_eq b a)))) (cases_Bool (nat_eq a b))

pub apart_of : (xs : List ℕ) → IsDistinct nat_eq xs → Apart xs
unfolding IsDistinct
apart_of [] h = tt
apart_of (x ∷ xs) h = (
  (λ c. true≢false (sym (eq-eqb x x refl) ∙ All-contains (λ y. eqb x y ≡ false) xs x (All-from_recursion (λ y. eqb x y ≡ false) xs h.0) c)),
  apart_of xs h.1,
)

-- all elements pass
pub filter_all : {A : Type 0} (p : A → Bool) (xs : List A) → All (λ x. p x ≡ true) xs → filter p xs ≡ xs
filter_all p [] h = refl
filter_all p (x ∷ xs) h =
    ap (λ t. cond t (x ∷ filter p xs) (filter p xs)) (h 0 x (omega arith)) ∙ ap (λ ys. x ∷ ys) (filter_all p xs (λ k d l. h (suc k) d (omega (arith, l))))

-- of the elements that pass, those of a part all of which pass
pub filter_between : {A : Type 0} (p : A → Bool) (xs : List A) (start end : ℕ) → start ≤ end → end ≤ length xs → All (λ x. p x ≡ true) (between xs start end)
    → between (filter p xs) (length (filter p (take start xs))) (length (filter p (take start xs)) + (end - start)) ≡ between xs start end
filter_between p xs start end l m h =
    let front = filter p (take start xs) in
    let here = between xs start end in
    let rest = filter p (drop (end - start) (drop start xs)) in
    let count : length front + (end - start) - length front ≡ end - start = omega arith in
    let split : filter p xs ≡ front ++ (here ++ rest) =
    ap (filter p) (sym (take-append-drop start xs)) ∙ (filter-append p (take start xs) (drop start xs)
    ∙ ap (λ ys. front ++ ys) (ap (filter p) (sym (take-append-drop (end - start) (drop start xs)))
    ∙ (filter-append p here (drop (end - start) (drop start xs)) ∙ ap (λ ys. ys ++ rest) (filter_all p here h)))) in
    let long = between_long xs start end l m in
    ap (λ n. take n (drop (length front) (filter p xs))) count
    ∙ (ap (λ ys. take (end - start) (drop (length front) ys)) split
    ∙ (ap (take (end - start)) (drop-append_seam front (here ++ rest))
    ∙ (take-append-le (end - start) here rest (omega (arith, long)) ∙ take_all (end - start) here (omega (arith, long)))))

-- ---- the entries of a source

module _ (f : Fixed) (source : Source) (r : ReadyRow) (is : IsRowOf f source r) where
  abbrev pub kept : List Entry
  kept = is.row.values.sorted

  abbrev pub plain : List PlainEntry
  plain = entries_of kept

  entries_moved : IsPermutation (entries_of is.made_of) plain
  entries_moved = IsPermutation-map entry_of is.made_of kept is.row.values.same

  blocks_moved : IsPermutation (blocks_of (entries_of is.made_of)) (blocks_of plain)
  blocks_moved = IsPermutation-map (λ (e : PlainEntry). e.block) (entries_of is.made_of) plain entries_moved

  kept_long : length plain ≡ length kept
  kept_long = length-map kept entry_of

  pub plain_at : (k : ℕ) (d : Entry) → k < length kept → entry_in plain k ≡ entry_of (get_or kept k d)
  plain_at k d l = get_or-map entry_of kept k d no_entry l

  ordered_at : (j k : ℕ) (d : Entry) → j < k → k < length kept → StandsBefore f (λ e. e.depth) (get_or kept j d) (get_or kept k d)
  ordered_at j k d l m = is.row.values.ordered j k d l m

  pub by_depth : AreByDepth f.net source plain
  by_depth = record {
    exactly = λ b. (
      (λ h. (is.entries.exactly b).0 (Contains-permutation (blocks_of plain) (blocks_of (entries_of is.made_of)) b
          (IsPermutation-sym (blocks_of (entries_of is.made_of)) (blocks_of plain) blocks_moved) h)),
      λ may. Contains-permutation (blocks_of (entries_of is.made_of)) (blocks_of plain) b blocks_moved ((is.entries.exactly b).1 may),
    );
    apart = apart_of (blocks_of plain) (IsDistinct-IsPermutation nat_eq eqb_flips (blocks_of (entries_of is.made_of)) (blocks_of plain) blocks_moved is.entries.once);
    depths = All-permutation (λ (e : PlainEntry). HasDepth f.net source e.block e.depth) (entries_of is.made_of) plain entries_moved is.entries.depths;
    tells = All-permutation (TellsActivation f.net source) (entries_of is.made_of) plain entries_moved is.entries.tells;
    rising = λ j k d l m.
        let inside : k < length kept = omega (arith, m, kept_long) in
        let e = some_of kept k inside in
        let one = get_or-map entry_of kept j e d (omega (arith, l, inside)) in
        let two = get_or-map entry_of kept k e d inside in
        let less = (ordered_at j k e l inside).depths in
        let a = ap (λ (x : PlainEntry). x.depth) one in
        let b = ap (λ (x : PlainEntry). x.depth) two in
        omega (arith, less, a, b);
  }

  pub block_there : (k : ℕ) → k < length plain → IsBlock f.net (block_in_row plain k)
  block_there k l = Spread-block f.net source _ ((by_depth.exactly (block_in_row plain k)).0 (block_at_place plain k l))

  -- ---- a run

  module _ (run : Run) (there : Contains r.runs run) where
    pub run_is : IsRun f (λ e. e.depth) kept run
    run_is = All-contains (IsRun f (λ e. e.depth) kept) r.runs run is.row.values.runs_are there

    abbrev here : List Entry
    here = between kept run.start run.end

    order : run.start ≤ run.end
    order = let a = run_is.some in omega (arith, a)

    first : Entry
    first = some_of kept run.start (let a = run_is.some in let b = run_is.within in omega (arith, a, b))

    alone_alike : (d e : Entry) → ((run.together ≡ false) ↔ IsAlone f d.block) → ((run.together ≡ false) ↔ IsAlone f e.block) → IsAlone f d.block ↔ IsAlone f e.block
    alone_alike d e a b = ((λ h. b.0 (a.1 h)), λ h. a.0 (b.1 h))

    depth_read : (k : ℕ) → k < length kept → depth_at (λ (e : Entry). e.depth) kept k ≡ depth_in_row plain k
    depth_read k l =
        let e = some_of kept k l in
        get_or-map (λ (x : Entry). x.depth) kept k e 0 l ∙ ap (λ (x : PlainEntry). x.depth) (sym (plain_at k e l))

    numbers : (j k : ℕ) → run.start ≤ j → j < k → k < run.end → block_in_row plain j ≤ block_in_row plain k
    numbers j k l less m =
        let b = run_is.within in
        let inside : k < length kept = omega (arith, m, b) in
        let x = get_or kept j first in
        let y = get_or kept k first in
        let guard = λ (i : ℕ) (a : run.start ≤ i) (c : i < run.end). all_between (λ e. is_guarded e ≡ run.guarded) kept run.start run.end run_is.guarded_is b i first a c in
        let kind = λ (i : ℕ) (a : run.start ≤ i) (c : i < run.end). all_between (λ e. (seat_of f e.block).kind ≡ run.kind) kept run.start run.end run_is.of_kind b i first a c in
        let alone = λ (i : ℕ) (a : run.start ≤ i) (c : i < run.end). all_between (λ e. (run.together ≡ false) ↔ IsAlone f e.block) kept run.start run.end run_is.alone_is b i first a c in
        let deep = λ (i : ℕ) (a : run.start ≤ i) (c : i < run.end).
        all_between (λ e. e.depth ≡ depth_at (λ (q : Entry). q.depth) kept run.start) kept run.start run.end run_is.one_depth b i first a c in
        let up : x.block ≤ y.block =
        (ordered_at j k first less inside).numbers
        (deep j l (omega (arith, less, m)) ∙ sym (deep k (omega (arith, l, less)) m))
        (guard j l (omega (arith, less, m)) ∙ sym (guard k (omega (arith, l, less)) m))
        (alone_alike x y (alone j l (omega (arith, less, m))) (alone k (omega (arith, l, less)) m))
        (kind j l (omega (arith, less, m)) ∙ sym (kind k (omega (arith, l, less)) m)) in
        let a = ap (λ (q : PlainEntry). q.block) (plain_at j first (omega (arith, less, inside))) in
        let c = ap (λ (q : PlainEntry). q.block) (plain_at k first inside) in
        omega (arith, up, a, c)

    pub level : IsLevel plain run.start run.end
    level = record {
      some = run_is.some;
      within = let b = run_is.within in omega (arith, b, kept_long);
      depth_is = λ k l less.
          let b = run_is.within in
          let inside : k < length kept = omega (arith, less, b) in
          ap (λ (q : PlainEntry). q.depth) (plain_at k first inside)
          ∙ (all_between (λ e. e.depth ≡ depth_at (λ (q : Entry). q.depth) kept run.start) kept run.start run.end run_is.one_depth b k first l less
          ∙ depth_read run.start (let a = run_is.some in omega (arith, a, b)));
      numbers = numbers;
    }

    pub here_plain : entries_of here ≡ part plain run.start run.end
    here_plain = sym (between-map entry_of kept run.start run.end)

    pub calls_here : calls_in r run ≡ map (call_of f) here
    calls_here = ap (λ cs. between cs run.start run.end) is.row.values.calls_are ∙ between-map (call_of f) kept run.start run.end

    pub guarded_here : run.guarded ≡ true → entries_of (between r.guarded run.entries (run.entries + (run.end - run.start))) ≡ entries_of here
    guarded_here on =
        let count = run.entries + (run.end - run.start) in
        let all : All (λ e. is_guarded e ≡ true) here = λ k d l. run_is.guarded_is k d l ∙ on in
        sym (between-map entry_of r.guarded run.entries count)
        ∙ (ap (λ xs. between xs run.entries count) is.row.guarded_are
        ∙ (between-map entry_of (filter is_guarded kept) run.entries count
        ∙ (ap (λ k. entries_of (between (filter is_guarded kept) k (k + (run.end - run.start)))) run_is.entries_are
        ∙ ap entries_of (filter_between is_guarded kept run.start run.end order run_is.within all))))

    pub last_here : (run.last ≡ true) ↔ ((run.end ≡ length plain) ⊎ (depth_in_row plain run.start ≢ depth_in_row plain run.end))
    last_here = (
      (λ on. ⊎_elim (λ all. inl (all ∙ sym kept_long)) (λ other. by_end other) (run_is.last_is.0 on)),
      λ h. run_is.last_is.1 (⊎_elim (λ all. inl (all ∙ kept_long)) (λ other. back other) h),
    )
      where
        start_read : depth_at (λ (e : Entry). e.depth) kept run.start ≡ depth_in_row plain run.start
        start_read = depth_read run.start (let a = run_is.some in let b = run_is.within in omega (arith, a, b))

        by_end : depth_at (λ (e : Entry). e.depth) kept run.start ≢ depth_at (λ (e : Entry). e.depth) kept run.end
            → (run.end ≡ length plain) ⊎ (depth_in_row plain run.start ≢ depth_in_row plain run.end)
        by_end other = ⊎_elim (λ all. inl (all ∙ sym kept_long))
            (λ less. inr (λ same. other (start_read ∙ (same ∙ sym (depth_read run.end (let b = run_is.within in omega (arith, b, less))))))) (cases_eq run.end (length kept))

        back : depth_in_row plain run.start ≢ depth_in_row plain run.end
            → (run.end ≡ length kept) ⊎ (depth_at (λ (e : Entry). e.depth) kept run.start ≢ depth_at (λ (e : Entry). e.depth) kept run.end)
        back other = ⊎_elim (λ all. inl all)
            (λ less. inr (λ same. other (sym start_read ∙ (same ∙ depth_read run.end (let b = run_is.within in omega (arith, b, less)))))) (cases_eq run.end (length kept))

-- ---- the calls of a run by the marks

abbrev pub calls_of : Fixed → List Mark → List Entry → List Call
calls_of f marks [] = []
calls_of f marks (e ∷ es) = call_on (call_of f e) (activation marks (entry_of e)) ++ calls_of f marks es

chosen_is : (f : Fixed) (marks : List Mark) (es : List Entry) → chosen_calls marks (map (call_of f) es) (entries_of es) ≡ calls_of f marks es
chosen_is f marks [] = refl
chosen_is f marks (e ∷ es) = ap (λ cs. call_on (call_of f e) (activation marks (entry_of e)) ++ cs) (chosen_is f marks es)

not_guarded : (always : Bool) (n : ℕ) → (not always || not (nat_eq n 0)) ≡ false → (always ≡ true) × (n ≡ 0)
not_guarded true n h = (refl, ⊎_elim (λ on. eqb-true n 0 on) (λ off. absurd (true≢false (sym (ap not off) ∙ h))) (cases_Bool (nat_eq n 0)))
not_guarded false n h = absurd (true≢false h)

none_of : {A : Type 0} (xs : List A) → length xs ≡ 0 → xs ≡ []
none_of [] h = refl
none_of (x ∷ xs) h = absurd (omega (arith, h))

-- the entry of a block that the source activates whatever the values are, on the same activation inputs
pub whole_entry : (marks : List Mark) (e : Entry) → is_guarded e ≡ false → activation marks (entry_of e) ≡ Some e.mask
whole_entry marks e off =
    let h = not_guarded e.always (length e.guards.items) off in
    let none = none_of e.guards.items h.1 in
    ap (λ gs. activation marks (record { block = e.block; depth = e.depth; always = e.always; mask = e.mask; guards = map guard_of gs })) none
    ∙ ap (λ t. activation marks (record { block = e.block; depth = e.depth; always = t; mask = e.mask; guards = [] })) h.0

whole_is : (f : Fixed) (marks : List Mark) (es : List Entry) → All (λ e. is_guarded e ≡ false) es → calls_of f marks es ≡ map (call_of f) es
whole_is f marks [] h = refl
whole_is f marks (e ∷ es) h =
    ap (λ o. call_on (call_of f e) o ++ calls_of f marks es) (whole_entry marks e (h 0 e (omega arith)))
    ∙ ap (λ cs. call_of f e ∷ cs) (whole_is f marks es (λ k d l. h (suc k) d (omega (arith, l))))

pub run_calls_are : (f : Fixed) (source : Source) (r : ReadyRow) (is : IsRowOf f source r) (run : Run) (there : Contains r.runs run) (marks : List Mark)
    → run_calls r run marks ≡ calls_of f marks (between (kept f source r is) run.start run.end)
run_calls_are f source r is run there marks = by_guarded run.guarded refl
  where
    by_guarded : (t : Bool) → run.guarded ≡ t
        → cond t (chosen_calls marks (calls_in r run) (entries_of (between r.guarded run.entries (run.entries + (run.end - run.start))))) (calls_in r run)
        ≡ calls_of f marks (between (kept f source r is) run.start run.end)
    by_guarded true on =
        ap (λ cs. chosen_calls marks cs (entries_of (between r.guarded run.entries (run.entries + (run.end - run.start))))) (calls_here f source r is run there)
        ∙ (ap (chosen_calls marks (map (call_of f) (between (kept f source r is) run.start run.end))) (guarded_here f source r is run there on)
        ∙ chosen_is f marks (between (kept f source r is) run.start run.end))
    by_guarded false off =
        calls_here f source r is run there
        ∙ sym (whole_is f marks (between (kept f source r is) run.start run.end) (λ k d l. (run_is f source r is run there).guarded_is k d l ∙ off))
