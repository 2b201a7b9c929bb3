-- Marks that are set for some calls.
use Rattle.std.proofs.Common.{◌≡◌, ◌≢◌, ℕ, zero, suc, ◌+◌, ◌-◌, ◌<◌, ◌≤◌, Bool, true, false, cond, ◌||◌, ◌&&◌, eqb, ⊎_elim, List, [], ◌∷◌, ◌++◌, length, map, get_or, set, take, Contains, All, Option, Some, None, refl, sym, ap, ap₂, subst, ◌∙◌, append_assoc, arith, true≢false}
use Rattle.std.specs.Prelude.{AllPairs}
use Rattle.std.specs.List.{list_any, filter}
use Rattle.std.specs.Int.Bits.{bit_or}
use Rattle.std.proofs.lemmas.Bool.{cases_Bool, cases_eq, cases_lt}
use Rattle.std.proofs.lemmas.List.{length-set, length-map, get_or_default, take_more, get_or-map, map_more, length-take-le}
use Rattle.std.proofs.lemmas.List.Elements.{All-contains, All-tail, All-take}
use Rattle.sci_net.specs.declared.Source.{Source}
use Rattle.sci_net.specs.Parts.{IsBlock}
use Rattle.sci_reaction.specs.Kept.{entry_of, entries_of}
use Rattle.sci_reaction.specs.Schedule.{Guard, Entry as PlainEntry, blocks_of}
use Rattle.sci_reaction.specs.declared.entry.Entry.{Entry}
use Rattle.sci_reaction.proofs.Lists.{Contains-cons, cons-Contains, Has-cases}
use Rattle.sci_reaction.proofs.Rows.{Contains-has, has-Contains}
use Rattle.sci_rounds.proofs.ByDepth.{no_entry, block_in_row, place_of_block, apart_at}
use Rattle.sci_bank.specs.declared.runs.Call.{Call}
use Rattle.sci_store.specs.declared.marks.Mark.{Mark}
use Rattle.sci_store.specs.declared.row.Run.{Run}
use Rattle.sci_store.specs.Marks.{mark_at, idle}
use Rattle.sci_store.specs.Entries.{is_taken, with_guards, activation}
use Rattle.sci_store.specs.Frame.{Fixed, IsFrame}
use Rattle.sci_store.specs.Store.{Standing}
use Rattle.sci_store.specs.Rows.{ReadyRow, IsRowOf, IsOfWhole, AreWholeMarked, HasBegun, KeepsBegun, IsMarked, IsRun, Join, mark_by, marked, call_on, call_of, calls_in, chosen_calls, is_guarded, between}
use Rattle.sci_store.proofs.Evaluating.{mark_here, mark_other}
use Rattle.sci_store.proofs.Leveled.{kept, plain, by_depth, block_there, run_is, plain_at, some_of, all_between, between_at, between_long, calls_here}
use Rattle.sci_store.proofs.Calling.{map_contains, contains_map, called_stands, row_pairs}

-- ---- marked

abbrev pub AreKnown : List Mark → List Call → Type 0
AreKnown marks cs = All (λ (c : Call). (1 ≤ c.block) × (c.block ≤ length marks)) cs

pub marked_long : (marks : List Mark) (cs : List Call) → length (marked marks cs) ≡ length marks
marked_long marks [] = refl
marked_long marks (c ∷ cs) = marked_long (set marks (c.block - 1) (mark_by c)) cs ∙ length-set marks (c.block - 1) (mark_by c)

known_then : (marks : List Mark) (c : Call) (cs : List Call) → AreKnown marks (c ∷ cs) → AreKnown (set marks (c.block - 1) (mark_by c)) cs
known_then marks c cs h k d l =
    let long = length-set marks (c.block - 1) (mark_by c) in
    let here = h (suc k) d (omega (arith, l)) in
    (here.0, omega (arith, here.1, long))

pub marked_other : (marks : List Mark) (cs : List Call) (b : ℕ) → AreKnown marks cs → (Contains (map (λ (c : Call). c.block) cs) b → ⊥)
    → mark_at (marked marks cs) b ≡ mark_at marks b
marked_other marks [] b h out = refl
marked_other marks (c ∷ cs) b h out =
    marked_other (set marks (c.block - 1) (mark_by c)) cs b (known_then marks c cs h) (λ there. out (cons-Contains c.block (map (λ (d : Call). d.block) cs) b there))
    ∙ mark_other marks c.block b (mark_by c) (h 0 c (omega arith)).0 (λ same. out (0, omega arith, sym same))

-- a block that is called once has the mark of its call
pub marked_here : (marks : List Mark) (cs : List Call) (c : Call) → AreKnown marks cs → AllPairs (λ (x y : Call). x.block ≢ y.block) cs → Contains cs c
    → mark_at (marked marks cs) c.block ≡ mark_by c
marked_here marks [] c h pairs there = absurd (omega (arith, there.1))
marked_here marks (d ∷ cs) c h pairs there = ⊎_elim
    (λ same. subst (λ (x : Call). mark_at (marked marks (d ∷ cs)) x.block ≡ mark_by x) same
    (marked_other (set marks (d.block - 1) (mark_by d)) cs d.block (known_then marks d cs h)
    (λ again. let x = map_contains (λ (y : Call). y.block) cs d.block again in
    pairs 0 (suc x.1.0) x.0 (omega arith) (let l = x.1.1 in omega (arith, l)) (sym x.2 ∙ ap (λ (y : Call). y.block) (sym x.1.2)))
    ∙ mark_here marks d.block (mark_by d) (h 0 d (omega arith)).0 (h 0 d (omega arith)).1))
    (λ later. marked_here (set marks (d.block - 1) (mark_by d)) cs c (known_then marks d cs h)
    (λ j k x l m. pairs (suc j) (suc k) x (omega (arith, l)) (omega (arith, m))) later)
    (Contains-cons d cs c there)

pub marked_push : (marks : List Mark) (cs : List Call) (c : Call) → marked marks (cs ++ c ∷ []) ≡ set (marked marks cs) (c.block - 1) (mark_by c)
marked_push marks [] c = refl
marked_push marks (d ∷ cs) c = marked_push (set marks (d.block - 1) (mark_by d)) cs c

-- one call more
pub marked_more : (marks : List Mark) (cs : List Call) (k : ℕ) (d : Call) → k < length cs
    → set (marked marks (take k cs)) ((get_or cs k d).block - 1) (mark_by (get_or cs k d)) ≡ marked marks (take (k + 1) cs)
marked_more marks cs k d l = sym (marked_push marks (take k cs) (get_or cs k d)) ∙ ap (marked marks) (sym (take_more cs k d l))

-- ---- runs that join

rising_runs : (runs : List Run) (at end : ℕ) → Join at end runs → All (λ (x : Run). x.start ≤ x.end) runs → (k : ℕ) (d : Run) → k < length runs → at ≤ (get_or runs k d).start
rising_runs [] at end join rise k d l = absurd (omega (arith, l))
rising_runs (r ∷ rs) at end join rise zero d l = let e = join.0 in omega (arith, e)
rising_runs (r ∷ rs) at end join rise (suc k) d l =
    let rest = rising_runs rs r.end end join.1 (λ j x m. rise (suc j) x (omega (arith, m))) k d (omega (arith, l)) in
    let e = join.0 in
    let up : r.start ≤ r.end = rise 0 r (omega arith) in
    omega (arith, rest, e, up)

-- a run ends before a later one begins
pub ends_before : (runs : List Run) (at end : ℕ) → Join at end runs → All (λ (x : Run). x.start ≤ x.end) runs → (j k : ℕ) (c d : Run) → j < k → k < length runs
    → (get_or runs j c).end ≤ (get_or runs k d).start
ends_before [] at end join rise j k c d l m = absurd (omega (arith, m))
ends_before (r ∷ rs) at end join rise zero zero c d l m = absurd (omega (arith, l))
ends_before (r ∷ rs) at end join rise (suc j) zero c d l m = absurd (omega (arith, l))
ends_before (r ∷ rs) at end join rise zero (suc k) c d l m = rising_runs rs r.end end join.1 (λ i x n. rise (suc i) x (omega (arith, n))) k d (omega (arith, m))
ends_before (r ∷ rs) at end join rise (suc j) (suc k) c d l m =
    ends_before rs r.end end join.1 (λ i x n. rise (suc i) x (omega (arith, n))) j k c d (omega (arith, l)) (omega (arith, m))

runs_rise : (f : Fixed) (depth : Entry → ℕ) (es : List Entry) (runs : List Run) → All (IsRun f depth es) runs → All (λ (x : Run). x.start ≤ x.end) runs
runs_rise f depth es runs h k d l = let a = (h k d l).some in omega (arith, a)

-- each place lies in a run
run_over : (at end : ℕ) (runs : List Run) (j : ℕ) → Join at end runs → at ≤ j → j < end → (x : Run) × Contains runs x × (x.start ≤ j) × (j < x.end)
run_over at end [] j h l m = absurd (let e = h in omega (arith, e, l, m))
run_over at end (r ∷ rs) j h l m = ⊎_elim
    (λ less. (r, (0, omega arith, refl), (let e = h.0 in omega (arith, e, l)), less))
    (λ more. let c = run_over r.end end rs j h.1 more m in (c.0, cons-Contains r rs c.0 c.1, c.2, c.3))
    (cases_lt j r.end)

-- ---- a row's whole runs are marked, run by run

-- the whole ones of the first runs are marked, and no other block
pub record HasBegunTo (f : Fixed) (r : ReadyRow) (k : ℕ) (marks : List Mark) : Type 0 where
  pub long : length marks ≡ length f.net.specs
  pub whole_to : (j : ℕ) (d : Run) → j < k → j < length r.runs → (get_or r.runs j d).guarded ≡ false → All (IsMarked marks) (calls_in r (get_or r.runs j d))
  pub others_to : (b : ℕ) → IsBlock f.net b
      → ((j : ℕ) (d : Run) → j < k → j < length r.runs → (get_or r.runs j d).guarded ≡ false → Contains (map (λ (c : Call). c.block) (calls_in r (get_or r.runs j d))) b → ⊥)
      → mark_at marks b ≡ idle

pub begun_skip : (f : Fixed) (r : ReadyRow) (k : ℕ) (marks : List Mark) (run : Run) → HasBegunTo f r k marks → run ≡ get_or r.runs k run → run.guarded ≡ true → k < length r.runs
    → HasBegunTo f r (k + 1) marks
begun_skip f r k marks run h read on less = record {
  long = h.long;
  whole_to = λ j d l m off. ⊎_elim (λ before. h.whole_to j d before m off)
      (λ more.
      let same : j ≡ k = omega (arith, l, more) in
      absurd (true≢false (sym on ∙ (ap (λ (x : Run). x.guarded) (read ∙ (get_or_default r.runs k run d less ∙ ap (λ i. get_or r.runs i d) (sym same))) ∙ off))))
      (cases_lt j k);
  others_to = λ b block out. h.others_to b block (λ j d l m off there. out j d (omega (arith, l)) m off there);
}

module _ (f : Fixed) (frame : IsFrame f) (source : Source) (r : ReadyRow) (is : IsRowOf f source r) (k : ℕ) (marks : List Mark) (run : Run) (h : HasBegunTo f r k marks)
    (read : run ≡ get_or r.runs k run) (off : run.guarded ≡ false) (less : k < length r.runs) where
  there : Contains r.runs run
  there = (k, less, sym read)

  pub known : AreKnown marks (calls_in r run)
  known j d l =
      let c = get_or (calls_in r run) j d in
      let at = called_stands f frame source r is run there c.block (contains_map (λ (x : Call). x.block) (calls_in r run) c (j, l, get_or_default (calls_in r run) j c d l)) in
      let block = subst (IsBlock f.net) at.block_is (block_there f source r is at.place at.within) in
      let long = h.long in
      (block.least, let b = block.most in omega (arith, b, long))

  pairs : AllPairs (λ (c d : Call). c.block ≢ d.block) (calls_in r run)
  pairs = row_pairs f frame source r is run there

  -- a block stands in one run
  one_run : (j : ℕ) (d : Run) (b : ℕ) → j < k → j < length r.runs → Contains (map (λ (c : Call). c.block) (calls_in r (get_or r.runs j d))) b
      → Contains (map (λ (c : Call). c.block) (calls_in r run)) b → ⊥
  one_run j d b l m one two =
      let run' = get_or r.runs j d in
      let there' : Contains r.runs run' = (j, m, get_or_default r.runs j run' d m) in
      let p = called_stands f frame source r is run' there' b one in
      let q = called_stands f frame source r is run there b two in
      let ends = ends_before r.runs 0 _ is.row.values.joined (runs_rise f (λ (x : Entry). x.depth) (kept f source r is) r.runs is.row.values.runs_are) j k d run l less in
      let start = ap (λ (x : Run). x.start) read in
      let most = p.most in
      let least = q.least in
      apart_at (blocks_of (plain f source r is)) (by_depth f source r is).apart p.place q.place (omega (arith, ends, start, most, least))
      (let long = length-map (plain f source r is) (λ (x : PlainEntry). x.block) in let w = q.within in omega (arith, long, w))
      (block_read p.place p.within ∙ (p.block_is ∙ (sym q.block_is ∙ sym (block_read q.place q.within))))
    where
      block_read : (i : ℕ) → i < length (plain f source r is) → get_or (blocks_of (plain f source r is)) i 0 ≡ block_in_row (plain f source r is) i
      block_read i w = get_or-map (λ (x : PlainEntry). x.block) (plain f source r is) i no_entry 0 w

  -- the run is marked too
  pub begun_more : HasBegunTo f r (k + 1) (marked marks (calls_in r run))
  begun_more = record {
    long = marked_long marks (calls_in r run) ∙ h.long;
    whole_to = λ j d l m off'. ⊎_elim
        (λ before. λ i x n.
        let cs = calls_in r (get_or r.runs j d) in
        let c = get_or cs i x in
        let old = h.whole_to j d before m off' i x n in
        let same = marked_other marks (calls_in r run) c.block known
        (λ two. one_run j d c.block before m (contains_map (λ (y : Call). y.block) cs c (i, n, get_or_default cs i c x n)) two) in
        record { active = ap (λ (y : Mark). y.active) same ∙ old.active; mask = ap (λ (y : Mark). y.mask) same ∙ old.mask })
        (λ more.
        let same : j ≡ k = omega (arith, l, more) in
        let is_run : run ≡ get_or r.runs j d = read ∙ (get_or_default r.runs k run d less ∙ ap (λ i. get_or r.runs i d) (sym same)) in
        subst (λ (y : Run). All (IsMarked (marked marks (calls_in r run))) (calls_in r y)) is_run
        (λ i x n.
        let c = get_or (calls_in r run) i x in
        let at = marked_here marks (calls_in r run) c known pairs (i, n, get_or_default (calls_in r run) i c x n) in
        record { active = ap (λ (y : Mark). y.active) at; mask = ap (λ (y : Mark). y.mask) at }))
        (cases_lt j k);
    others_to = λ b block out.
        marked_other marks (calls_in r run) b known
        (λ called. out k run (omega arith) less (subst (λ (y : Run). y.guarded ≡ false) read off)
        (subst (λ (y : Run). Contains (map (λ (c : Call). c.block) (calls_in r y)) b) read called))
        ∙ h.others_to b block (λ j d l m off' called. out j d (omega (arith, l)) m off' called);
  }

-- ---- guarded blocks are taken back

filter_has : {A : Type 0} (p : A → Bool) (xs : List A) (x : A) → Contains xs x → p x ≡ true → Contains (filter p xs) x
filter_has p [] x h on = absurd (omega (arith, h.1))
filter_has p (y ∷ ys) x h on = by_test (λ later. filter_has p ys x later on) (p y) refl
  where
    by_test : (Contains ys x → Contains (filter p ys) x) → (t : Bool) → p y ≡ t → Contains (cond t (y ∷ filter p ys) (filter p ys)) x
    by_test rest true e = ⊎_elim (λ same. (0, omega arith, same)) (λ later. cons-Contains y (filter p ys) x (rest later)) (Contains-cons y ys x h)
    by_test rest false e = ⊎_elim (λ same. absurd (true≢false (sym (ap p same ∙ on) ∙ e))) rest (Contains-cons y ys x h)

filter_from : {A : Type 0} (p : A → Bool) (xs : List A) (x : A) → Contains (filter p xs) x → Contains xs x × (p x ≡ true)
filter_from p [] x h = absurd (omega (arith, h.1))
filter_from p (y ∷ ys) x h = by_test (λ later. filter_from p ys x later) (p y) refl h
  where
    by_test : (Contains (filter p ys) x → Contains ys x × (p x ≡ true)) → (t : Bool) → p y ≡ t → Contains (cond t (y ∷ filter p ys) (filter p ys)) x
        → Contains (y ∷ ys) x × (p x ≡ true)
    by_test rest true e c = ⊎_elim
        (λ same. ((0, omega arith, same), sym (ap p same) ∙ e))
        (λ later. let q = rest later in (cons-Contains y ys x q.0, q.1)) (Contains-cons y (filter p ys) x c)
    by_test rest false e c = let q = rest c in (cons-Contains y ys x q.0, q.1)

-- a guarded entry is one of the row's
module _ (f : Fixed) (frame : IsFrame f) (source : Source) (r : ReadyRow) (is : IsRowOf f source r) where
  pub guarded_from : (e : Entry) → Contains r.guarded e → (x : Entry) × Contains (kept f source r is) x × (is_guarded x ≡ true) × (entry_of x ≡ entry_of e)
  guarded_from e h =
      let p = map_contains entry_of (filter is_guarded (kept f source r is)) (entry_of e)
      (subst (λ ys. Contains ys (entry_of e)) is.row.guarded_are (contains_map entry_of r.guarded e h)) in
      let q = filter_from is_guarded (kept f source r is) p.0 p.1 in
      (p.0, q.0, q.1, p.2)

  pub guarded_block : (e : Entry) → Contains r.guarded e → IsBlock f.net e.block
  guarded_block e h =
      let x = guarded_from e h in
      let k = x.1.0 in
      let l : k < length (kept f source r is) = x.1.1 in
      let long = length-map (kept f source r is) entry_of in
      subst (IsBlock f.net)
      (ap (λ (y : PlainEntry). y.block) (plain_at f source r is k x.0 l) ∙ (ap (λ (y : Entry). y.block) x.1.2 ∙ ap (λ (y : PlainEntry). y.block) x.3))
      (block_there f source r is k (omega (arith, l, long)))

-- behind all guarded entries
module _ (f : Fixed) (frame : IsFrame f) (source : Source) (r : ReadyRow) (is : IsRowOf f source r) (old : Standing) (keeps : KeepsBegun f r old) (marks : List Mark)
    (idle_now : (e : Entry) → Contains r.guarded e → mark_at marks e.block ≡ idle)
    (stays : (b : ℕ) → mark_at old.marks b ≡ idle → mark_at marks b ≡ idle)
    (others : (b : ℕ) → ((e : Entry) → Contains r.guarded e → b ≢ e.block) → mark_at marks b ≡ mark_at old.marks b) where
  abbrev xs : List Entry
  xs = kept f source r is

  abbrev es : List PlainEntry
  es = plain f source r is

  guarded_to : (x : Entry) → Contains xs x → is_guarded x ≡ true → (e : Entry) × Contains r.guarded e × (entry_of e ≡ entry_of x)
  guarded_to x h on =
      let p = map_contains entry_of r.guarded (entry_of x)
      (subst (λ ys. Contains ys (entry_of x)) (sym is.row.guarded_are) (contains_map entry_of (filter is_guarded xs) x (filter_has is_guarded xs x h on))) in
      (p.0, p.1, p.2)

  kept_long : length es ≡ length xs
  kept_long = length-map xs entry_of

  -- a block of a whole run is not of a guarded entry
  whole_unguarded : (run : Run) (there : Contains r.runs run) → run.guarded ≡ false → (b : ℕ) → Contains (map (λ (c : Call). c.block) (calls_in r run)) b
      → (e : Entry) → Contains r.guarded e → b ≢ e.block
  whole_unguarded run there off b called e h same =
      let p = called_stands f frame source r is run there b called in
      let x = guarded_from f frame source r is e h in
      let within = p.within in
      let inside : p.place < length xs = omega (arith, within, kept_long) in
      let q = x.1 in
      let q_within : q.0 < length es = let l = q.1 in omega (arith, l, kept_long) in
      let q_block : block_in_row es q.0 ≡ x.0.block = ap (λ (y : PlainEntry). y.block) (plain_at f source r is q.0 x.0 q.1) ∙ ap (λ (y : Entry). y.block) q.2 in
      let one : block_in_row es p.place ≡ block_in_row es q.0 =
      p.block_is ∙ (same ∙ (sym (ap (λ (y : PlainEntry). y.block) x.3) ∙ sym q_block)) in
      let place : p.place ≡ q.0 = ⊎_elim (λ at_one. at_one)
      (λ other. absurd (⊎_elim (λ less. apart_at_places p.place q.0 less q_within one)
      (λ more. apart_at_places q.0 p.place (omega (arith, more, other)) p.within (sym one)) (cases_lt p.place q.0)))
      (cases_eq p.place q.0) in
      let unguarded : is_guarded (get_or xs p.place x.0) ≡ false =
      all_between (λ (y : Entry). is_guarded y ≡ run.guarded) xs run.start run.end (run_is f source r is run there).guarded_is (run_is f source r is run there).within p.place x.0 p.least p.most
      ∙ off in
      true≢false (sym x.2 ∙ (ap is_guarded (sym q.2 ∙ ap (λ k. get_or xs k x.0) (sym place)) ∙ unguarded))
    where
      apart_at_places : (j k : ℕ) → j < k → k < length es → block_in_row es j ≡ block_in_row es k → ⊥
      apart_at_places j k l m e =
          let long = length-map es (λ (y : PlainEntry). y.block) in
          apart_at (blocks_of es) (by_depth f source r is).apart j k l (omega (arith, long, m))
          (get_or-map (λ (y : PlainEntry). y.block) es j no_entry 0 (omega (arith, l, m)) ∙ (e ∙ sym (get_or-map (λ (y : PlainEntry). y.block) es k no_entry 0 m)))

  whole_again : AreWholeMarked r marks
  whole_again run there off k d l =
      let c = get_or (calls_in r run) k d in
      let here = contains_map (λ (y : Call). y.block) (calls_in r run) c (k, l, get_or_default (calls_in r run) k c d l) in
      let same = others c.block (whole_unguarded run there off c.block here) in
      let before = keeps.whole run there off k d l in
      record { active = ap (λ (y : Mark). y.active) same ∙ before.active; mask = ap (λ (y : Mark). y.mask) same ∙ before.mask }

  -- an unguarded block of the row is of a whole run
  of_whole : (k : ℕ) (x : Entry) → k < length xs → get_or xs k x ≡ x → is_guarded x ≡ false → IsOfWhole r x.block
  of_whole k x l read off =
      let c = run_over 0 (length xs) r.runs k is.row.values.joined (omega arith) l in
      let run = run_is f source r is c.0 c.1 in
      let flag = all_between (λ (y : Entry). is_guarded y ≡ c.0.guarded) xs c.0.start c.0.end run.guarded_is run.within k x c.2 c.3 in
      record {
        run = c.0;
        there = c.1;
        whole = sym flag ∙ (ap is_guarded read ∙ off);
        called = subst (λ cs. Contains (map (λ (y : Call). y.block) cs) x.block) (sym (calls_here f source r is c.0 c.1))
            (contains_map (λ (y : Call). y.block) (map (call_of f) (between xs c.0.start c.0.end)) (call_of f x)
            (contains_map (call_of f) (between xs c.0.start c.0.end) x (between_in c.0.start c.0.end c.2 c.3 run.within)));
      }
    where
      between_in : (start end : ℕ) → start ≤ k → k < end → end ≤ length xs → Contains (between xs start end) x
      between_in start end a b w =
          let long = between_long xs start end (omega (arith, a, b)) w in
          let same : start + (k - start) ≡ k = omega (arith, a) in
          (k - start, omega (arith, long, a, b), between_at xs start end (k - start) x (omega (arith, a, b)) ∙ (ap (λ j. get_or xs j x) same ∙ read))

  others_again : (b : ℕ) → IsBlock f.net b → (IsOfWhole r b → ⊥) → mark_at marks b ≡ idle
  others_again b block out = ⊎_elim
      (λ there.
      let possible = (is.entries.exactly b).0 ((is.row.blocks_are.same b).0 (has-Contains r.blocks b there)) in
      let p = place_of_block es b (((by_depth f source r is).exactly b).1 possible) in
      let l = p.1 in
      let inside : p.0 < length xs = omega (arith, l, kept_long) in
      let x = some_of xs p.0 inside in
      let y = get_or xs p.0 x in
      let block_is : y.block ≡ b = ap (λ (z : PlainEntry). z.block) (sym (plain_at f source r is p.0 x inside)) ∙ p.2 in
      ⊎_elim
      (λ on. let e = guarded_to y (p.0, inside, get_or_default xs p.0 y x inside) on in
      subst (λ c. mark_at marks c ≡ idle) (ap (λ (z : PlainEntry). z.block) e.2 ∙ block_is) (idle_now e.0 e.1))
      (λ off. absurd (out (subst (IsOfWhole r) block_is (of_whole p.0 y inside (get_or_default xs p.0 y x inside) off))))
      (cases_Bool (is_guarded y)))
      (λ outside. stays b (keeps.others b block (λ h. outside (Contains-has r.blocks b h))))
      (Has-cases r.blocks b)

  pub begun_again : (s : Standing) → s.marks ≡ marks → HasBegun f r s
  begun_again s same = record {
    whole = subst (AreWholeMarked r) (sym same) whole_again;
    others = λ b block out. ap (λ ms. mark_at ms b) same ∙ others_again b block out;
  }

-- ---- calls that are chosen

chosen_push : (marks : List Mark) (cs : List Call) (es : List PlainEntry) (c : Call) (e : PlainEntry) → length cs ≡ length es
    → chosen_calls marks (cs ++ c ∷ []) (es ++ e ∷ []) ≡ chosen_calls marks cs es ++ call_on c (activation marks e)
chosen_push marks [] [] c e h = append_nil (call_on c (activation marks e))
  where
    append_nil : (xs : List Call) → xs ++ [] ≡ xs
    append_nil [] = refl
    append_nil (x ∷ xs) = ap (λ ys. x ∷ ys) (append_nil xs)
chosen_push marks [] (x ∷ es) c e h = absurd (omega (arith, h))
chosen_push marks (d ∷ cs) [] c e h = absurd (omega (arith, h))
chosen_push marks (d ∷ cs) (x ∷ es) c e h =
    ap (λ ys. call_on d (activation marks x) ++ ys) (chosen_push marks cs es c e (omega (arith, h)))
    ∙ sym (append_assoc (call_on d (activation marks x)) (chosen_calls marks cs es) (call_on c (activation marks e)))

pub chosen_more : (marks : List Mark) (cs : List Call) (es : List Entry) (k : ℕ) (c : Call) (e : Entry) → length es ≡ length cs → k < length cs
    → chosen_calls marks (take (k + 1) cs) (entries_of (take (k + 1) es)) ≡ chosen_calls marks (take k cs) (entries_of (take k es)) ++ call_on (get_or cs k c) (activation marks (entry_of (get_or es k e)))
chosen_more marks cs es k c e same l =
    let one = length-take-le k cs (omega (arith, l)) in
    let two = length-take-le k es (omega (arith, l, same)) in
    let long = length-map (take k es) entry_of in
    ap₂ (chosen_calls marks) (take_more cs k c l) (map_more entry_of es k e (omega (arith, l, same)))
    ∙ chosen_push marks (take k cs) (entries_of (take k es)) (get_or cs k c) (entry_of (get_or es k e)) (omega (arith, one, two, long))

any_alike : (p q : Guard → Bool) (gs : List Guard) → ((g : Guard) → Contains gs g → p g ≡ q g) → list_any p gs ≡ list_any q gs
any_alike p q [] h = refl
any_alike p q (g ∷ gs) h = ap₂ (λ a b. a || b) (h g (0, omega arith, refl)) (any_alike p q gs (λ x c. h x (cons-Contains g gs x c)))

masks_alike : (marks other : List Mark) (mask : ℕ) (gs : List Guard) → ((g : Guard) → Contains gs g → is_taken marks g ≡ is_taken other g)
    → with_guards marks mask gs ≡ with_guards other mask gs
masks_alike marks other mask [] h = refl
masks_alike marks other mask (g ∷ gs) h =
    ap (λ t. with_guards marks (cond t (bit_or mask g.mask) mask) gs) (h g (0, omega arith, refl))
    ∙ masks_alike marks other (cond (is_taken other g) (bit_or mask g.mask) mask) gs (λ x c. h x (cons-Contains g gs x c))

-- an entry's activation goes by the marks of its guards' blocks
pub activation_alike : (marks other : List Mark) (e : PlainEntry) → ((g : Guard) → Contains e.guards g → mark_at marks g.block ≡ mark_at other g.block)
    → activation marks e ≡ activation other e
activation_alike marks other e h =
    let taken : (g : Guard) → Contains e.guards g → is_taken marks g ≡ is_taken other g = λ g c. ap (λ (m : Mark). m.active && eqb m.branch g.port) (h g c) in
    ap₂ (λ a k. cond a (Some k) None) (ap (λ t. e.always || t) (any_alike (is_taken marks) (is_taken other) e.guards taken)) (masks_alike marks other e.mask e.guards taken)

-- the chosen calls are of blocks of the calls
chosen_block : (marks : List Mark) (cs : List Call) (es : List PlainEntry) (b : ℕ) → Contains (map (λ (c : Call). c.block) (chosen_calls marks cs es)) b
    → Contains (map (λ (c : Call). c.block) cs) b
chosen_block marks [] es b h = absurd (omega (arith, h.1))
chosen_block marks (c ∷ cs) [] b h = absurd (omega (arith, h.1))
chosen_block marks (c ∷ cs) (e ∷ es) b h = by_mask (λ k. chosen_block marks cs es b k) (activation marks e) h
  where
    by_mask : (Contains (map (λ (d : Call). d.block) (chosen_calls marks cs es)) b → Contains (map (λ (d : Call). d.block) cs) b) → (o : Option ℕ)
        → Contains (map (λ (d : Call). d.block) (call_on c o ++ chosen_calls marks cs es)) b → Contains (map (λ (d : Call). d.block) (c ∷ cs)) b
    by_mask rest None k = cons-Contains c.block (map (λ (d : Call). d.block) cs) b (rest k)
    by_mask rest (Some mask) k = ⊎_elim
        (λ same. (0, omega arith, same))
        (λ later. cons-Contains c.block (map (λ (d : Call). d.block) cs) b (rest later))
        (Contains-cons c.block (map (λ (d : Call). d.block) (chosen_calls marks cs es)) b k)

pub chosen_known : (marks all : List Mark) (cs : List Call) (es : List PlainEntry) → AreKnown all cs → AreKnown all (chosen_calls marks cs es)
chosen_known marks all [] es h = λ k d l. absurd (omega (arith, l))
chosen_known marks all (c ∷ cs) [] h = λ k d l. absurd (omega (arith, l))
chosen_known marks all (c ∷ cs) (e ∷ es) h =
    by_mask (chosen_known marks all cs es (All-tail (λ (x : Call). (1 ≤ x.block) × (x.block ≤ length all)) c cs h)) (activation marks e)
  where
    with_first : (mask : ℕ) → AreKnown all (chosen_calls marks cs es) → AreKnown all (record c { mask = mask } ∷ chosen_calls marks cs es)
    with_first mask rest zero d l = h 0 c (omega arith)
    with_first mask rest (suc k) d l = rest k d (omega (arith, l))

    by_mask : AreKnown all (chosen_calls marks cs es) → (o : Option ℕ) → AreKnown all (call_on c o ++ chosen_calls marks cs es)
    by_mask rest None = rest
    by_mask rest (Some mask) = with_first mask rest

-- on the marks with those that were chosen before, an entry of the run applies as before
pub activation_kept : (marks : List Mark) (cs : List Call) (es : List Entry) (k : ℕ) (e : Entry) → AreKnown marks cs
    → All (λ (x : Entry). All (λ (g : Guard). Contains (map (λ (c : Call). c.block) cs) g.block → ⊥) (entry_of x).guards) es → k < length es → e ≡ get_or es k e
    → activation (marked marks (chosen_calls marks (take k cs) (entries_of (take k es)))) (entry_of e) ≡ activation marks (entry_of e)
activation_kept marks cs es k e known apart l read =
    activation_alike (marked marks (chosen_calls marks (take k cs) (entries_of (take k es)))) marks (entry_of e)
    (λ g c. marked_other marks (chosen_calls marks (take k cs) (entries_of (take k es))) g.block
    (chosen_known marks marks (take k cs) (entries_of (take k es)) (All-take (λ (x : Call). (1 ≤ x.block) × (x.block ≤ length marks)) k cs known))
    (λ called.
    let front = chosen_block marks (take k cs) (entries_of (take k es)) g.block called in
    All-contains (λ (y : Guard). Contains (map (λ (d : Call). d.block) cs) y.block → ⊥) (entry_of e).guards g
    (subst (λ (x : Entry). All (λ (y : Guard). Contains (map (λ (d : Call). d.block) cs) y.block → ⊥) (entry_of x).guards) (sym read) (apart k e l))
    c (from_front cs k g.block front)))
  where
    from_front : (ds : List Call) (j b : ℕ) → Contains (map (λ (d : Call). d.block) (take j ds)) b → Contains (map (λ (d : Call). d.block) ds) b
    from_front ds zero b h = absurd (omega (arith, h.1))
    from_front [] (suc j) b h = absurd (omega (arith, h.1))
    from_front (d ∷ ds) (suc j) b h = ⊎_elim (λ same. (0, omega arith, same))
        (λ later. cons-Contains d.block (map (λ (x : Call). x.block) ds) b (from_front ds j b later)) (Contains-cons d.block (map (λ (x : Call). x.block) (take j ds)) b h)
