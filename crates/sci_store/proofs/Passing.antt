-- The pass over the runs of a row.
use Rattle.std.proofs.Common.{◌≡◌, ◌≢◌, ℕ, zero, suc, ◌+◌, ◌<◌, ◌≤◌, Bool, true, false, ◌||◌, ◌&&◌, cond, eqb, ◌⊎◌, inl, inr, ⊎_elim, ℤ, List, [], ◌∷◌, ◌++◌, length, map, get_or, take, Contains, Option, Some, None, Result, Ok, Err, refl, sym, ap, ap₂, subst, ◌∙◌, arith, true≢false}
use Rattle.std.specs.Prelude.{AllPairs, is_some, min, nat_lt}
use Rattle.std.specs.List.{list_any}
use Rattle.std.specs.Int.Bits.{bit_or}
use Rattle.std.proofs.lemmas.Bool.{cases_Bool, cases_eq, cases_lt}
use Rattle.std.proofs.lemmas.Bool.Decides.{nat_tests}
use Rattle.std.proofs.lemmas.List.{length-map, get_or-take, length-take-le, take_all, get_or_default}
use Rattle.std.proofs.lemmas.List.Elements.{All-contains, Contains-append_right}
use Rattle.sci_base.specs.declared.observation.StopWord.{StopWord}
use Rattle.sci_forms.specs.declared.Kind.{Kind}
use Rattle.sci_net.specs.declared.Source.{Source}
use Rattle.sci_net.specs.Parts.{Parts, IsBlock, spec_of}
use Rattle.sci_reaction.specs.Active.{Possible, Reaches}
use Rattle.sci_reaction.specs.Depends.{IsLoopFree}
use Rattle.sci_reaction.specs.Memory.{Memory, Columns, next_value}
use Rattle.sci_reaction.specs.Equations.{Signals, AreInRange, input_in, branch_on, answer, answer_of, IsMaskOf}
use Rattle.sci_reaction.specs.Kept.{entry_of, entries_of}
use Rattle.sci_reaction.specs.Schedule.{Guard, Entry as PlainEntry, blocks_of, branch_of as branch_of_guard}
use Rattle.sci_reaction.specs.Pass.{Progress, at_rest, applies as applies_in, mask_in as mask_of_pass, is_taken as is_taken_in, with_guards as with_guards_in}
use Rattle.sci_reaction.specs.declared.entry.Entry.{Entry}
use Rattle.sci_reaction.proofs.Lists.{Has-cases, cons-Contains, Contains-cons}
use Rattle.sci_reaction.proofs.Rows.{Contains-has, has-Contains, block_in}
use Rattle.sci_reaction.proofs.Spreading.{Spread-block, possible}
use Rattle.sci_reaction.proofs.Steps.{pass_begins}
use Rattle.sci_reaction.specs.Result.{Stopped, IsResult}
use Rattle.sci_forms.specs.Ports.{Fills}
use Rattle.sci_run.specs.Activity.{Activity, IsActivity}
use Rattle.sci_pass.specs.Noted.{IsNoted}
use Rattle.sci_pass.proofs.Stays.{applied_is_done}
use Rattle.sci_rounds.specs.Rounds.{IsReady}
use Rattle.sci_rounds.proofs.Together.{Apart, IsValued, StopsAt, Goes, AreDone, goes, begins}
use Rattle.sci_rounds.proofs.ByDepth.{AreByDepth, IsLevel, IsBetween, IsPending, between_first, whole_behind, pending_behind, first_stop, only_stop, older_stop, newer_stop, stops_there, whole_result, part, no_entry, entry_in, block_in_row, depth_in_row, block_at_place, place_of_block, place_in_part, apart_places, ready_at, next_here, fresh_here, apart_here}
use Rattle.sci_places.specs.Flat.{values_at}
use Rattle.sci_bank.specs.declared.runs.Call.{Call}
use Rattle.sci_bank.specs.Bank.{Meaning}
use Rattle.sci_bank.specs.Library.{bank_of}
use Rattle.sci_store.specs.declared.marks.Mark.{Mark}
use Rattle.sci_store.specs.declared.row.Run.{Run}
use Rattle.sci_store.specs.Marks.{mark_at, idle}
use Rattle.sci_store.specs.Entries.{is_taken, applies, with_guards, mask_in, activation}
use Rattle.sci_store.specs.Frame.{Fixed, IsFrame, AreSeated, seat_of}
use Rattle.sci_store.specs.Store.{Standing, cursor_at, state_of, ShowsMemory, AreCounted, AreCountedWithin}
use Rattle.sci_store.specs.Passed.{given, IsPassed}
use Rattle.sci_store.specs.Rows.{ReadyRow, IsRowOf, IsOfWhole, AreWholeMarked, HasBegun, IsMarked, call_of, between, call_on, calls_in, run_calls, is_guarded}
use Rattle.sci_store.specs.Runs.{HasValues, IsStuckAt, AreValued, IsRunDone, lesser}
use Rattle.sci_store.proofs.Leveled.{kept, plain, by_depth, block_there, plain_at, level, run_is, here_plain, calls_here, last_here, calls_of, run_calls_are, whole_entry, all_between}
use Rattle.sci_store.proofs.Calling.{contains_map, map_contains, call_from, stands, is_block, run_stands, run_apart, run_kind, called_stands}
use Rattle.sci_store.proofs.EntryMasks.{sync_block}
use Rattle.sci_store.proofs.Tallying.{counted_with, counted_from, counted_new, counted_other, counts_run, counts_same}
use Rattle.sci_store.proofs.Counting.{counts_begin, counts_within}

nat_lt_true : (a b : ℕ) → nat_lt a b ≡ true → a < b
nat_lt_true a b h = grind (arith, nat_tests)

nat_lt_false : (a b : ℕ) → nat_lt a b ≡ false → b ≤ a
nat_lt_false a b h = grind (arith, nat_tests)

-- ---- what the marks tell of an entry

and_same : (a b x y : Bool) → a ≡ b → (b ≡ true → x ≡ y) → (a && x) ≡ (b && y)
and_same a true x y e h = ap (λ t. t && x) e ∙ h refl
and_same a false x y e h = ap (λ t. t && x) e

any_same : (p q : Guard → Bool) (gs : List Guard) → ((g : Guard) → Contains gs g → p g ≡ q g) → list_any p gs ≡ list_any q gs
any_same p q [] h = refl
any_same p q (g ∷ gs) h = ap₂ (λ a b. a || b) (h g (0, omega arith, refl)) (any_same p q gs (λ x c. h x (cons-Contains g gs x c)))

guards_same : (n : Parts) (marks : List Mark) (w : Progress) (mask : ℕ) (gs : List Guard) → ((g : Guard) → Contains gs g → is_taken marks g ≡ is_taken_in n w g)
    → with_guards marks mask gs ≡ with_guards_in n w mask gs
guards_same n marks w mask [] h = refl
guards_same n marks w mask (g ∷ gs) h =
    ap (λ t. with_guards marks (cond t (bit_or mask g.mask) mask) gs) (h g (0, omega arith, refl))
    ∙ guards_same n marks w (cond (is_taken_in n w g) (bit_or mask g.mask) mask) gs (λ x c. h x (cons-Contains g gs x c))

-- what is given by the store, of a memory with its states and cursors
pub given_read : (f : Fixed) (i : Columns) (m : Memory) (banks : List Meaning) (t : Standing) (b mask : ℕ) → state_of f banks b ≡ m.state b → cursor_at t b ≡ m.cursor b
    → given f i banks t b mask ≡ answer f.net m i b mask (input_in f.net (values_at f.net t.values) b)
unfolding answer
given_read f i m banks t b mask state cursor =
    ap₂ (λ x k. answer_of (spec_of f.net b) x (next_value i (spec_of f.net b) k) mask (input_in f.net (values_at f.net t.values) b)) state cursor

-- the call of an entry that applies is made
pub call_made : (f : Fixed) (marks : List Mark) (es : List Entry) (e : Entry) → Contains es e → applies marks (entry_of e) ≡ true
    → Contains (map (λ (c : Call). c.block) (calls_of f marks es)) e.block
call_made f marks [] e h on = absurd (omega (arith, h.1))
call_made f marks (x ∷ xs) e h on = ⊎_elim
    (λ same. contains_map (λ (c : Call). c.block) (calls_of f marks (x ∷ xs)) (record (call_of f e) { mask = mask_in marks (entry_of e) })
    (subst (λ (y : Entry). Contains (call_on (call_of f y) (activation marks (entry_of y)) ++ calls_of f marks xs) (record (call_of f e) { mask = mask_in marks (entry_of e) })) (sym same)
    (subst (λ t. Contains (call_on (call_of f e) (cond t (Some (mask_in marks (entry_of e))) None) ++ calls_of f marks xs) (record (call_of f e) { mask = mask_in marks (entry_of e) }))
    (sym on) (0, omega arith, refl))))
    (λ later.
    let r = call_made f marks xs e later on in
    let c = map_contains (λ (d : Call). d.block) (calls_of f marks xs) e.block r in
    subst (Contains (map (λ (d : Call). d.block) (calls_of f marks (x ∷ xs)))) c.2
    (contains_map (λ (d : Call). d.block) (calls_of f marks (x ∷ xs)) c.0
    (Contains-append_right (call_on (call_of f x) (activation marks (entry_of x))) (calls_of f marks xs) c.0 c.1)))
    (Contains-cons x xs e h)

module _ (f : Fixed) (frame : IsFrame f) (i : Columns) (source : Source) (m : Memory) (free : IsLoopFree f.net source) (r : ReadyRow) (is : IsRowOf f source r) where
  abbrev pub es : List PlainEntry
  es = plain f source r is

  abbrev pub by : AreByDepth f.net source es
  by = by_depth f source r is

  -- it stands among the first
  abbrev pub IsTried : ℕ → ℕ → Type 0
  IsTried at c = (k : ℕ) × (k < at) × (block_in_row es k ≡ c)

  -- what is found of a source and a memory where so many entries are tried
  pub record IsPassing (s t : Standing) (old banks : List Meaning) (at : ℕ) (stop : Option (ℕ × StopWord)) : Type 0 where
    pub done : List ℕ
    pub w : Progress
    pub between_is : IsBetween f.net m i source frame.net free es by at stop done w
    pub values : (c : ℕ) → Contains done c → values_at f.net t.values c ≡ w.values c
    pub rests : (c : ℕ) → IsBlock f.net c → (IsTried at c → ⊥) → values_at f.net t.values c ≡ m.held c
    pub applied : (c : ℕ) → Contains done c → (mark_at t.marks c).active ≡ w.applied c
    pub noted : IsNoted f.net source w (λ c. (mark_at t.marks c).branch) (λ c. (mark_at t.marks c).mask)
    pub unmarked : (c : ℕ) → IsBlock f.net c → (IsTried at c → ⊥) → mark_at t.marks c ≡ mark_at s.marks c
    pub counted : Activity
    pub counts : AreCounted f.net counted old banks
    pub counted_tried : (c : ℕ) → counted c ≡ true → IsTried at c
    pub counted_whole : stop ≡ None → (c : ℕ) → counted c ≡ w.applied c
    pub live : (st : ℕ × StopWord) → stop ≡ Some st → at < length es

  possible_of_done : (s t : Standing) (old banks : List Meaning) (at : ℕ) (stop : Option (ℕ × StopWord)) (state : IsPassing s t old banks at stop) (c : ℕ)
      → Contains state.done c → Possible f.net source c
  possible_of_done s t old banks at stop state c h = state.between_is.closed.possible c h

  module _ (s t u : Standing) (old banks after : List Meaning) (run : Run) (there : Contains r.runs run) (stop found : Option (ℕ × StopWord))
      (state : IsPassing s t old banks run.start stop) (begun : HasBegun f r s) (seated : AreSeated f banks)
      (states : (b : ℕ) → IsBlock f.net b → state_of f banks b ≡ m.state b) (cursors : (b : ℕ) → IsBlock f.net b → cursor_at t b ≡ m.cursor b)
      (ran : IsRunDone f i run.kind (run_calls r run t.marks) t u banks after found) where
    abbrev done : List ℕ
    done = state.done

    abbrev w : Progress
    w = state.w

    abbrev here : List Entry
    here = between (kept f source r is) run.start run.end

    abbrev calls : List Call
    calls = run_calls r run t.marks

    abbrev blocks : List ℕ
    blocks = map (λ (c : Call). c.block) calls

    lev : IsLevel es run.start run.end
    lev = level f source r is run there

    calls_are : calls ≡ calls_of f t.marks here
    calls_are = run_calls_are f source r is run there t.marks

    part_is : entries_of here ≡ part es run.start run.end
    part_is = here_plain f source r is run there

    order : run.start ≤ run.end
    order = let a = lev.some in omega (arith, a)

    -- ---- places

    plain_here : (e : PlainEntry) → Contains (part es run.start run.end) e → (k : ℕ) × (run.start ≤ k) × (k < run.end) × (k < length es) × (entry_in es k ≡ e)
    plain_here e h = place_in_part es run.start run.end e order lev.within h

    kept_here : (e : Entry) → Contains here e → (k : ℕ) × (run.start ≤ k) × (k < run.end) × (k < length es) × (entry_in es k ≡ entry_of e)
    kept_here e h = plain_here (entry_of e) (subst (λ xs. Contains xs (entry_of e)) part_is (contains_map entry_of here e h))

    ready_here : (e : Entry) → Contains here e → IsReady f.net source done e.block
    ready_here e h =
        let p = kept_here e h in
        subst (λ (x : PlainEntry). IsReady f.net source done x.block) p.4
        (ready_at f.net m i source frame.net free es by run.start run.end stop done w state.between_is lev p.0 p.1 p.2)

    not_before : (k : ℕ) → run.start ≤ k → k < length es → IsTried run.start (block_in_row es k) → ⊥
    not_before k l within h = apart_places f.net m i source frame.net free es by h.0 k (let a = h.1 in omega (arith, a, l)) within h.2

    fresh_block : (e : Entry) → Contains here e → IsTried run.start e.block → ⊥
    fresh_block e h tried =
        let p = kept_here e h in not_before p.0 p.1 p.3 (subst (IsTried run.start) (sym (ap (λ (x : PlainEntry). x.block) p.4)) tried)

    -- a block of the run is of one entry
    one_entry : (d e : Entry) → Contains here d → Contains here e → d.block ≡ e.block → entry_of d ≡ entry_of e
    one_entry d e dh eh same =
        let p = kept_here d dh in
        let q = kept_here e eh in
        let block : block_in_row es p.0 ≡ block_in_row es q.0 = ap (λ (x : PlainEntry). x.block) p.4 ∙ (same ∙ sym (ap (λ (x : PlainEntry). x.block) q.4)) in
        let place : p.0 ≡ q.0 = ⊎_elim (λ at_one. at_one)
        (λ other. absurd (⊎_elim (λ less. apart_places f.net m i source frame.net free es by p.0 q.0 less q.3 block)
        (λ more. apart_places f.net m i source frame.net free es by q.0 p.0 (omega (arith, more, other)) p.3 (sym block)) (cases_lt p.0 q.0)))
        (cases_eq p.0 q.0) in
        sym p.4 ∙ (ap (entry_in es) place ∙ q.4)

    -- a block that is called is of an entry that applies
    called_entry : (c : ℕ) → Contains blocks c → (e : Entry) × Contains here e × (applies t.marks (entry_of e) ≡ true) × (e.block ≡ c)
    called_entry c h =
        let d = map_contains (λ (x : Call). x.block) calls c h in
        let x = call_from f t.marks here d.0 (subst (λ cs. Contains cs d.0) calls_are d.1) in
        (x.entry, x.there, x.on, sym (ap (λ (y : Call). y.block) x.is) ∙ d.2)

    made_here : (e : Entry) → Contains here e → applies t.marks (entry_of e) ≡ true → Contains blocks e.block
    made_here e h on = subst (λ cs. Contains (map (λ (c : Call). c.block) cs) e.block) (sym calls_are) (call_made f t.marks here e h on)

    called_tried : (c : ℕ) → Contains blocks c → IsTried run.start c → ⊥
    called_tried c h tried = let e = called_entry c h in fresh_block e.0 e.1 (subst (IsTried run.start) (sym e.3) tried)

    done_tried : (c : ℕ) → Contains done c → IsTried run.start c
    done_tried c h = state.between_is.tried c h

    done_block : (c : ℕ) → Contains done c → IsBlock f.net c
    done_block c h = Spread-block f.net source _ (state.between_is.closed.possible c h)

    -- ---- values so far

    pub alike : (a : ℕ) → IsBlock f.net a → (Possible f.net source a → Contains done a) → values_at f.net t.values a ≡ w.values a
    alike a block within = ⊎_elim
        (λ old. state.values a (has-Contains done a old))
        (λ out.
        let rest : Contains done a → ⊥ = λ h. out (Contains-has done a h) in
        state.rests a block (λ tried. rest (within (subst (Possible f.net source) tried.2
        ((by.exactly (block_in_row es tried.0)).0 (block_at_place es tried.0 (let b = tried.1 in let c = lev.within in omega (arith, b, order, c)))))))
        ∙ sym (state.between_is.front.rests a rest).1)
        (Has-cases done a)

    -- ---- what the marks tell

    idle_impossible : (b : ℕ) → IsBlock f.net b → (Possible f.net source b → ⊥) → (mark_at t.marks b).active ≡ false
    idle_impossible b block out =
        let untried : IsTried run.start b → ⊥ = λ tried. out (subst (Possible f.net source) tried.2
        ((by.exactly (block_in_row es tried.0)).0 (block_at_place es tried.0 (let k = tried.1 in let c = lev.within in omega (arith, k, order, c))))) in
        ap (λ (x : Mark). x.active) (state.unmarked b block untried
        ∙ begun.others b block (λ whole. out (whole_possible b whole)))
      where
        whole_possible : (c : ℕ) → IsOfWhole r c → Possible f.net source c
        whole_possible c whole =
            let p = called_stands f frame source r is whole.run whole.there c whole.called in
            subst (Possible f.net source) p.block_is ((by.exactly (block_in_row es p.place)).0 (block_at_place es p.place p.within))

    module _ (e : Entry) (in_run : Contains here e) where
      place : (k : ℕ) × (run.start ≤ k) × (k < run.end) × (k < length es) × (entry_in es k ≡ entry_of e)
      place = kept_here e in_run

      guard_of_entry : (g : Guard) → Contains (entry_of e).guards g → is_taken t.marks g ≡ is_taken_in f.net w g
      guard_of_entry g h =
          let tells = by.tells place.0 no_entry place.3 in
          let branch = tells.branches g (subst (λ (x : PlainEntry). Contains x.guards g) (sym place.4) h) in
          let sync = branch.sync in
          let reaches = subst (λ (x : PlainEntry). Reaches f.net (branch_of_guard g) x.block) place.4 branch.reaches in
          ⊎_elim
          (λ inside.
          let may = (by.exactly g.block).0 (has-Contains (blocks_of es) g.block inside) in
          let ready = ready_here e in_run in
          let known = ready.needs g.block (record {
            possible = ready.possible;
            on_possible = may;
            waits = inr (record { sync = sync; branch = g.port; reaches = reaches });
          }) in
          and_same (mark_at t.marks g.block).active (w.applied g.block) (eqb (mark_at t.marks g.block).branch g.port)
          (eqb (branch_on (spec_of f.net g.block) (input_in f.net w.values g.block)) g.port) (state.applied g.block known)
          (λ on. ap (λ k. eqb k g.port) (sym (state.noted.branches g.block on sync))))
          (λ outside.
          let impossible : Possible f.net source g.block → ⊥ = λ may. outside (Contains-has (blocks_of es) g.block ((by.exactly g.block).1 may)) in
          let none : Contains done g.block → ⊥ = λ h2. impossible (state.between_is.closed.possible g.block h2) in
          let off = (state.between_is.front.rests g.block none).0 in
          and_same (mark_at t.marks g.block).active (w.applied g.block) (eqb (mark_at t.marks g.block).branch g.port)
          (eqb (branch_on (spec_of f.net g.block) (input_in f.net w.values g.block)) g.port)
          (idle_impossible g.block (sync_block f.net g.block sync) impossible ∙ sym off) (λ on. absurd (true≢false (sym on ∙ off))))
          (Has-cases (blocks_of es) g.block)

      pub applies_same : applies t.marks (entry_of e) ≡ applies_in f.net w (entry_of e)
      applies_same = ap (λ a. e.always || a) (any_same (is_taken t.marks) (is_taken_in f.net w) (entry_of e).guards guard_of_entry)

      pub mask_same : mask_in t.marks (entry_of e) ≡ mask_of_pass f.net w (entry_of e)
      mask_same = guards_same f.net t.marks w e.mask (entry_of e).guards guard_of_entry

      block_of : IsBlock f.net e.block
      block_of = is_block f frame source r is run there e in_run

      pub given_same : (mask : ℕ) → given f i banks t e.block mask ≡ answer f.net m i e.block mask (input_in f.net (values_at f.net t.values) e.block)
      given_same mask = given_read f i m banks t e.block mask (states e.block block_of) (cursors e.block block_of)

      -- an entry that doesn't apply has no mark
      pub off_mark : applies t.marks (entry_of e) ≡ false → (mark_at t.marks e.block).active ≡ false
      off_mark off =
          ap (λ (x : Mark). x.active) (state.unmarked e.block block_of (fresh_block e in_run) ∙ begun.others e.block block_of not_whole)
        where
          not_whole : IsOfWhole r e.block → ⊥
          not_whole whole =
              let p = called_stands f frame source r is whole.run whole.there e.block whole.called in
              let other = run_is f source r is whole.run whole.there in
              let xs = kept f source r is in
              let long = length-map xs entry_of in
              let within = p.within in
              let inside : p.place < length xs = omega (arith, within, long) in
              let d = get_or xs p.place e in
              let same : entry_of d ≡ entry_of e =
              sym (plain_at f source r is p.place e inside)
              ∙ (ap (entry_in es) (same_place p.place p.block_is p.within) ∙ place.4) in
              let whole_guarded : is_guarded d ≡ false =
              all_between (λ (x : Entry). is_guarded x ≡ whole.run.guarded) xs whole.run.start whole.run.end other.guarded_is other.within p.place e p.least p.most ∙ whole.whole in
              true≢false (ap (λ o. is_some o) (sym (whole_entry t.marks d whole_guarded) ∙ ap (activation t.marks) same) ∙ ap (λ a. is_some (cond a (Some (mask_in t.marks (entry_of e))) None)) off)
            where
              same_place : (k : ℕ) → block_in_row es k ≡ e.block → k < length es → k ≡ place.0
              same_place k block l =
                  let one : block_in_row es k ≡ block_in_row es place.0 = block ∙ sym (ap (λ (x : PlainEntry). x.block) place.4) in
                  ⊎_elim (λ at_one. at_one)
                  (λ other. absurd (⊎_elim (λ less. apart_places f.net m i source frame.net free es by k place.0 less place.3 one)
                  (λ more. apart_places f.net m i source frame.net free es by place.0 k (omega (arith, more, other)) l (sym one)) (cases_lt k place.0)))
                  (cases_eq k place.0)

    -- ---- the run's entries, one after another

    abbrev read_values : Signals
    read_values = values_at f.net t.values

    abbrev new_values : Signals
    new_values = values_at f.net u.values

    abbrev new_active : ℕ → Bool
    new_active c = (mark_at u.marks c).active

    abbrev new_branch : ℕ → ℕ
    new_branch c = (mark_at u.marks c).branch

    abbrev new_mask : ℕ → ℕ
    new_mask c = (mark_at u.marks c).mask

    abbrev GoesHere : List PlainEntry → Option (ℕ × StopWord) → Type 0
    GoesHere xs o = Goes f.net m i source frame.net free done w state.between_is.closed state.between_is.front read_values alike new_values new_active new_branch new_mask xs o

    abbrev ValuedHere : PlainEntry → Type 0
    ValuedHere e = IsValued f.net m i source frame.net free done w state.between_is.closed state.between_is.front read_values alike new_values new_active new_branch new_mask e

    module _ (e : Entry) (in_run : Contains here e) (on : applies t.marks (entry_of e) ≡ true) where
      abbrev call : Call
      call = record (call_of f e) { mask = mask_in t.marks (entry_of e) }

      answer_is : (o : Result (List ℤ) StopWord) → given f i banks t e.block (mask_in t.marks (entry_of e)) ≡ o
          → answer f.net m i e.block (mask_of_pass f.net w (entry_of e)) (input_in f.net read_values e.block) ≡ o
      answer_is o h =
          ap (λ k. answer f.net m i e.block k (input_in f.net read_values e.block)) (sym (mask_same e in_run))
          ∙ (sym (given_same e in_run (mask_in t.marks (entry_of e))) ∙ h)

      valued_here : HasValues f i banks t u call → ValuedHere (entry_of e)
      valued_here h = record {
        on = sym (applies_same e in_run) ∙ on;
        gives = answer_is (Ok (new_values e.block)) h.values;
        takes = λ sync. sym (h.branch sync ∙ ap (λ x. cond x (branch_on (spec_of f.net e.block) (input_in f.net read_values e.block)) 0) sync);
        mask_is = sym (mask_same e in_run) ∙ sym h.marked.mask;
        active_is = h.marked.active;
      }

      stuck_here : IsStuckAt f i banks t call found
          → StopsAt f.net m i source frame.net free done w state.between_is.closed state.between_is.front read_values alike new_values new_active new_branch new_mask (entry_of e) found
      stuck_here h = record {
        word = h.word;
        stuck = record { on = sym (applies_same e in_run) ∙ on; gives = answer_is (Err h.word) h.gives };
        is = h.is;
      }

    goes_from : (xs : List Entry) → ((e : Entry) → Contains xs e → Contains here e) → AreValued f i banks t u (calls_of f t.marks xs) found → GoesHere (entries_of xs) found
    goes_from [] inside h = h
    goes_from (e ∷ xs) inside h =
        let in_run = inside e (0, omega arith, refl) in
        let rest : (d : Entry) → Contains xs d → Contains here d = λ d c. inside d (cons-Contains e xs d c) in
        by_applies e xs in_run (λ k. goes_from xs rest k) (applies t.marks (entry_of e)) refl h
      where
        by_applies : (e : Entry) (xs : List Entry) (in_run : Contains here e) → (AreValued f i banks t u (calls_of f t.marks xs) found → GoesHere (entries_of xs) found) → (a : Bool) → applies t.marks (entry_of e) ≡ a
            → AreValued f i banks t u (call_on (call_of f e) (cond a (Some (mask_in t.marks (entry_of e))) None) ++ calls_of f t.marks xs) found → GoesHere (entry_of e ∷ entries_of xs) found
        by_applies e xs in_run rest true on h = ⊎_elim
            (λ has. inr (inl (valued_here e in_run on has.0, rest has.1)))
            (λ stuck. inr (inr (stuck_here e in_run on stuck.0))) h
        by_applies e xs in_run rest false off h = inl (sym (applies_same e in_run) ∙ off, rest h)

    goes_here : GoesHere (part es run.start run.end) found
    goes_here = subst (λ xs. GoesHere xs found) part_is (goes_from here (λ e h. h) (subst (λ cs. AreValued f i banks t u cs found) calls_are ran.valued))

    other_marks : (c : ℕ) → IsBlock f.net c → (Contains blocks c → ⊥) → mark_at u.marks c ≡ mark_at t.marks c
    other_marks c block out = (ran.others c block out).1

    other_values : (c : ℕ) → IsBlock f.net c → (Contains blocks c → ⊥) → new_values c ≡ read_values c
    other_values c block out = (ran.others c block out).0

    applied_done : (c : ℕ) → w.applied c ≡ true → Contains done c
    applied_done c on = applied_is_done f.net m i source done w c state.between_is.front on

    old_mark : (c : ℕ) → Contains done c → mark_at u.marks c ≡ mark_at t.marks c
    old_mark c h = other_marks c (done_block c h) (λ called. called_tried c called (done_tried c h))

    noted_then : IsNoted f.net source w new_branch new_mask
    noted_then = record {
      branches = λ c on sync. state.noted.branches c on sync ∙ sym (ap (λ (x : Mark). x.branch) (old_mark c (applied_done c on)));
      masks = λ c on. subst (IsMaskOf f.net source w.values c) (sym (ap (λ (x : Mark). x.mask) (old_mark c (applied_done c on)))) (state.noted.masks c on);
    }

    pub done_then : AreDone f.net m i source frame.net free done w state.between_is.closed state.between_is.front read_values alike new_values new_active new_branch new_mask done w
        (part es run.start run.end) found
    done_then =
        goes f.net m i source frame.net free done w state.between_is.closed state.between_is.front read_values alike new_values new_active new_branch new_mask
        (part es run.start run.end) done w found
        (begins f.net m i source frame.net free done w state.between_is.closed state.between_is.front read_values alike new_values new_active new_branch new_mask noted_then)
        (next_here f.net m i source frame.net free es by run.start run.end stop done w state.between_is lev)
        (fresh_here f.net m i source frame.net free es by run.start run.end stop done w state.between_is lev)
        (apart_here f.net m i source frame.net free es by run.start run.end stop done w state.between_is lev) goes_here

    -- ---- behind the run

    abbrev r_done : AreDone f.net m i source frame.net free done w state.between_is.closed state.between_is.front read_values alike new_values new_active new_branch new_mask done w
        (part es run.start run.end) found
    r_done = done_then

    -- a block of the run, by its entry
    entry_at_block : (c : ℕ) → Contains (blocks_of (part es run.start run.end)) c → (e : Entry) × Contains here e × (e.block ≡ c)
    entry_at_block c h =
        let p = map_contains (λ (x : PlainEntry). x.block) (entries_of here) c (subst (λ xs. Contains (blocks_of xs) c) (sym part_is) h) in
        let e = map_contains entry_of here p.0 p.1 in
        (e.0, e.1, ap (λ (x : PlainEntry). x.block) e.2 ∙ p.2)

    in_part_here : (e : Entry) → Contains here e → Contains (part es run.start run.end) (entry_of e)
    in_part_here e h = subst (λ xs. Contains xs (entry_of e)) part_is (contains_map entry_of here e h)

    block_in_part : (e : Entry) → Contains here e → Contains (blocks_of (part es run.start run.end)) e.block
    block_in_part e h = block_in (part es run.start run.end) (entry_of e) (in_part_here e h)

    old_not_here : (c : ℕ) → Contains done c → Contains (blocks_of (part es run.start run.end)) c → ⊥
    old_not_here c h in_run = let e = entry_at_block c in_run in fresh_block e.0 e.1 (subst (IsTried run.start) (sym e.2) (done_tried c h))

    -- an entry that doesn't apply is not called
    not_called : (e : Entry) → Contains here e → applies t.marks (entry_of e) ≡ false → Contains blocks e.block → ⊥
    not_called e h off called =
        let x = called_entry e.block called in
        true≢false (sym (sym (ap (applies t.marks) (one_entry x.0 e x.1 h x.3)) ∙ x.2) ∙ off)

    found_here : (e : Entry) → Contains here e → Contains r_done.all e.block
        → ((applies t.marks (entry_of e) ≡ false) × (r_done.after.applied e.block ≡ w.applied e.block) × (r_done.after.values e.block ≡ w.values e.block))
        ⊎ ((applies t.marks (entry_of e) ≡ true) × (r_done.after.applied e.block ≡ true) × (r_done.after.values e.block ≡ new_values e.block) × (new_active e.block ≡ true))
    found_here e h all = ⊎_elim
        (λ off. inl (applies_same e h ∙ off.0, off.1, off.2))
        (λ on. inr (applies_same e h ∙ on.0.on, on.1, on.2, on.0.active_is))
        (r_done.found (entry_of e) (in_part_here e h) all)

    rest_held : (e : Entry) → Contains here e → w.values e.block ≡ m.held e.block
    rest_held e h = (state.between_is.front.rests e.block (λ old. fresh_block e h (done_tried e.block old))).1

    rest_off : (e : Entry) → Contains here e → w.applied e.block ≡ false
    rest_off e h = (state.between_is.front.rests e.block (λ old. fresh_block e h (done_tried e.block old))).0

    values_then : (c : ℕ) → Contains r_done.all c → new_values c ≡ r_done.after.values c
    values_then c h = ⊎_elim
        (λ old. other_values c (done_block c old) (λ called. called_tried c called (done_tried c old)) ∙ (state.values c old ∙ sym (r_done.others c (old_not_here c old)).1))
        (λ new. let e = entry_at_block c new in
        subst (λ b. new_values b ≡ r_done.after.values b) e.2
        (⊎_elim
        (λ off. other_values e.0.block (block_of e.0 e.1) (not_called e.0 e.1 off.0)
        ∙ (state.rests e.0.block (block_of e.0 e.1) (fresh_block e.0 e.1) ∙ (sym (rest_held e.0 e.1) ∙ sym off.2)))
        (λ on. sym on.2)
        (found_here e.0 e.1 (subst (Contains r_done.all) (sym e.2) h))))
        (r_done.among c h)

    applied_then : (c : ℕ) → Contains r_done.all c → new_active c ≡ r_done.after.applied c
    applied_then c h = ⊎_elim
        (λ old. ap (λ (x : Mark). x.active) (old_mark c old) ∙ (state.applied c old ∙ sym (r_done.others c (old_not_here c old)).0))
        (λ new. let e = entry_at_block c new in
        subst (λ b. new_active b ≡ r_done.after.applied b) e.2
        (⊎_elim
        (λ off. ap (λ (x : Mark). x.active) (other_marks e.0.block (block_of e.0 e.1) (not_called e.0 e.1 off.0))
        ∙ (off_mark e.0 e.1 off.0 ∙ (sym (rest_off e.0 e.1) ∙ sym off.1)))
        (λ on. on.3 ∙ sym on.1)
        (found_here e.0 e.1 (subst (Contains r_done.all) (sym e.2) h))))
        (r_done.among c h)

    tried_more : (c : ℕ) → IsTried run.start c → IsTried run.end c
    tried_more c h = (h.0, (let a = h.1 in omega (arith, a, order)), h.2)

    called_now : (c : ℕ) → Contains blocks c → IsTried run.end c
    called_now c h =
        let p = run_stands f frame source r is run there t.marks in
        let d = map_contains (λ (x : Call). x.block) calls c h in
        let q = p d.0 d.1 in
        (q.place, q.most, q.block_is ∙ d.2)

    rests_then : (c : ℕ) → IsBlock f.net c → (IsTried run.end c → ⊥) → new_values c ≡ m.held c
    rests_then c block out = other_values c block (λ called. out (called_now c called)) ∙ state.rests c block (λ tried. out (tried_more c tried))

    unmarked_then : (c : ℕ) → IsBlock f.net c → (IsTried run.end c → ⊥) → mark_at u.marks c ≡ mark_at s.marks c
    unmarked_then c block out = other_marks c block (λ called. out (called_now c called)) ∙ state.unmarked c block (λ tried. out (tried_more c tried))

    -- ---- counts

    abbrev made : List ℕ
    made = take ran.called blocks

    made_called : (c : ℕ) → Contains made c → Contains blocks c
    made_called c h =
        let long = length-map calls (λ (x : Call). x.block) in
        let within = ran.within in
        let count = length-take-le ran.called blocks (omega (arith, long, within)) in
        let less : h.0 < ran.called = omega (arith, h.1, count) in
        (h.0, omega (arith, less, long, within), sym (get_or-take ran.called blocks h.0 c less) ∙ h.2)

    abbrev counted_now : Activity
    counted_now = counted_with made state.counted

    apart_of_pairs : (cs : List Call) → AllPairs (λ (c d : Call). c.block ≢ d.block) cs → Apart (map (λ (c : Call). c.block) cs)
    apart_of_pairs [] h = tt
    apart_of_pairs (c ∷ cs) h = (
      (λ there.
          let d = map_contains (λ (x : Call). x.block) cs c.block there in
          h 0 (suc d.1.0) d.0 (omega arith) (let l = d.1.1 in omega (arith, l)) (sym d.2 ∙ ap (λ (x : Call). x.block) (sym d.1.2))),
      apart_of_pairs cs (λ j k d l less. h (suc j) (suc k) d (omega (arith, l)) (omega (arith, less))),
    )

    apart_front : (xs : List ℕ) (k : ℕ) → Apart xs → Apart (take k xs)
    apart_front xs zero h = tt
    apart_front [] (suc k) h = tt
    apart_front (x ∷ xs) (suc k) h = ((λ c. h.0 (front_in xs k x c)), apart_front xs k h.1)
      where
        front_in : (ys : List ℕ) (j c : ℕ) → Contains (take j ys) c → Contains ys c
        front_in ys zero c there' = absurd (omega (arith, there'.1))
        front_in [] (suc j) c there' = absurd (omega (arith, there'.1))
        front_in (y ∷ ys) (suc j) c there' = ⊎_elim (λ same. (0, omega arith, same)) (λ later. cons-Contains y ys c (front_in ys j c later)) (Contains-cons y (take j ys) c there')

    called_block : (c : ℕ) → Contains blocks c → IsBlock f.net c
    called_block c h = let e = called_entry c h in subst (IsBlock f.net) e.3 (block_of e.0 e.1)

    called_kind : (c : ℕ) → Contains blocks c → (spec_of f.net c).kind ≡ run.kind
    called_kind c h =
        let d = map_contains (λ (x : Call). x.block) calls c h in
        sym (frame.seated c (called_block c h)).kind
        ∙ (ap (λ b. (seat_of f b).kind) (sym d.2) ∙ All-contains (λ (x : Call). (seat_of f x.block).kind ≡ run.kind) calls d.0 (run_kind f frame source r is run there t.marks) d.1)

    uncounted : (c : ℕ) → Contains blocks c → state.counted c ≡ false
    uncounted c h = ⊎_elim (λ on. absurd (called_tried c h (state.counted_tried c on))) (λ off. off) (cases_Bool (state.counted c))

    counts_then : AreCounted f.net counted_now old after
    counts_then =
        let long = length-map calls (λ (x : Call). x.block) in
        let within = ran.within in
        let count = length-take-le ran.called blocks (omega (arith, long, within)) in
        counts_run f old banks after run.kind made state.counted frame seated
        (apart_front blocks ran.called (apart_of_pairs calls (run_apart f frame source r is run there t.marks).once))
        (λ c h. called_block c (made_called c h)) (λ c h. called_kind c (made_called c h)) (λ c h. uncounted c (made_called c h)) state.counts
        (λ small. ran.counted small ∙ ap (λ k. min ((bank_of banks run.kind).outs + k) 18446744073709551615) (sym count)) ran.uncounted

    counted_tried_then : (c : ℕ) → counted_now c ≡ true → IsTried run.end c
    counted_tried_then c h = ⊎_elim (λ new. called_now c (made_called c new)) (λ old. tried_more c (state.counted_tried c old)) (counted_from made state.counted c h)

    -- where nothing stops all calls are counted, and these are the blocks that are active
    counted_whole_then : stop ≡ None → found ≡ None → (c : ℕ) → counted_now c ≡ r_done.after.applied c
    counted_whole_then none nothing c = ⊎_elim (λ on. called_case (has-Contains blocks c on)) (λ off. other_case (λ h. off (Contains-has blocks c h))) (Has-cases blocks c)
      where
        all_made : made ≡ blocks
        all_made =
            let long = length-map calls (λ (x : Call). x.block) in
            let whole = ran.whole nothing in
            take_all ran.called blocks (omega (arith, long, whole))

        called_case : Contains blocks c → counted_now c ≡ r_done.after.applied c
        called_case h =
            let e = called_entry c h in
            let all = r_done.whole nothing e.0.block (block_in_part e.0 e.1) in
            counted_new made state.counted c (subst (λ xs. Contains xs c) (sym all_made) h)
            ∙ sym (subst (λ b. r_done.after.applied b ≡ true) e.3
            (⊎_elim (λ off. absurd (true≢false (sym e.2 ∙ off.0))) (λ on. on.1) (found_here e.0 e.1 all)))

        in_run_case : (Contains blocks c → ⊥) → Contains (blocks_of (part es run.start run.end)) c → r_done.after.applied c ≡ w.applied c
        in_run_case out inside =
            let e = entry_at_block c inside in
            let all = r_done.whole nothing e.0.block (block_in_part e.0 e.1) in
            subst (λ b. r_done.after.applied b ≡ w.applied b) e.2
            (⊎_elim (λ off. off.1) (λ on. absurd (out (subst (Contains blocks) e.2 (made_here e.0 e.1 on.0)))) (found_here e.0 e.1 all))

        other_case : (Contains blocks c → ⊥) → counted_now c ≡ r_done.after.applied c
        other_case out =
            counted_other made state.counted c (λ h. out (made_called c h))
            ∙ (state.counted_whole none c
            ∙ sym (⊎_elim (λ inside. in_run_case out (has-Contains (blocks_of (part es run.start run.end)) c inside))
            (λ outside. (r_done.others c (λ h. outside (Contains-has (blocks_of (part es run.start run.end)) c h))).0)
            (Has-cases (blocks_of (part es run.start run.end)) c)))

    -- ---- the state behind the run

    passing_then : (next_stop : Option (ℕ × StopWord)) → IsBetween f.net m i source frame.net free es by run.end next_stop r_done.all r_done.after
        → (next_stop ≡ None → (stop ≡ None) × (found ≡ None)) → ((st : ℕ × StopWord) → next_stop ≡ Some st → run.end < length es) → IsPassing s u old after run.end next_stop
    passing_then next_stop state_then both live_then = record {
      done = r_done.all;
      w = r_done.after;
      between_is = state_then;
      values = values_then;
      rests = rests_then;
      applied = applied_then;
      noted = r_done.way.noted;
      unmarked = unmarked_then;
      counted = counted_now;
      counts = counts_then;
      counted_tried = counted_tried_then;
      counted_whole = λ none. let b = both none in counted_whole_then b.0 b.1;
      live = live_then;
    }

    -- ---- the stop of the depth

    module _ (st : ℕ × StopWord) where
      abbrev PendingThen : Type 0
      PendingThen = IsPending f.net m i source frame.net free es by (depth_in_row es run.start) run.end r_done.all r_done.after st

      pending_both : (x z : ℕ × StopWord) (t' : Bool) → nat_lt x.0 z.0 ≡ t' → stop ≡ Some x → found ≡ Some z → cond t' (Some x) (Some z) ≡ Some st → PendingThen
      pending_both x z true less a b h =
          let same : x ≡ st = cc in
          older_stop f.net m i source frame.net free es by run.start run.end stop done w state.between_is lev read_values new_values alike new_active new_branch new_mask found r_done
          st z (a ∙ ap (λ y. Some y) same) b (subst (λ (y : ℕ × StopWord). y.0 ≤ z.0) same (let l = nat_lt_true x.0 z.0 less in omega (arith, l)))
      pending_both x z false less a b h =
          let same : z ≡ st = cc in
          newer_stop f.net m i source frame.net free es by run.start run.end stop done w state.between_is lev read_values new_values alike new_active new_branch new_mask found r_done
          st x a (b ∙ ap (λ y. Some y) same) (subst (λ (y : ℕ × StopWord). y.0 ≤ x.0) same (nat_lt_false x.0 z.0 less))

      pending_by : (a b : Option (ℕ × StopWord)) → stop ≡ a → found ≡ b → lesser a b ≡ Some st → PendingThen
      pending_by None b a_is b_is h =
          first_stop f.net m i source frame.net free es by run.start run.end stop done w state.between_is lev read_values new_values alike new_active new_branch new_mask found r_done
          st a_is (b_is ∙ h)
      pending_by (Some x) None a_is b_is h =
          only_stop f.net m i source frame.net free es by run.start run.end stop done w state.between_is lev read_values new_values alike new_active new_branch new_mask found r_done
          st (a_is ∙ h) b_is
      pending_by (Some x) (Some z) a_is b_is h = pending_both x z (nat_lt x.0 z.0) refl a_is b_is h

      pub pending_then : lesser stop found ≡ Some st → PendingThen
      pending_then h = pending_by stop found refl refl h

      -- behind the last run of the depth the reaction stops there
      pub stopped_then : lesser stop found ≡ Some st → run.last ≡ true → ((k : Kind) → (bank_of old k).outs ≤ 18446744073709551615)
          → IsResult f.net m i source (Stopped st.0 st.1) × AreCountedWithin f.net source old after
      stopped_then h last small = (
        stops_there f.net m i source frame.net free es by (depth_in_row es run.start) run.end r_done.all r_done.after st r_done.way.front_is r_done.way.closed_is lev.within
            (pending_then h) ((last_here f source r is run there).0 last),
        counts_within f source old after counted_now small
            (λ b block on. let p = counted_tried_then b on in
            subst (Possible f.net source) p.2 ((by.exactly (block_in_row es p.0)).0 (block_at_place es p.0 (let k = p.1 in let c = lev.within in omega (arith, k, c)))))
            counts_then,
      )

    none_both : (a b : Option (ℕ × StopWord)) → lesser a b ≡ None → (a ≡ None) × (b ≡ None)
    none_both None b h = (refl, h)
    none_both (Some x) None h = cc
    none_both (Some x) (Some z) h = by_test (nat_lt x.0 z.0) h
      where
        by_test : (t' : Bool) → cond t' (Some x) (Some z) ≡ None → (Some x ≡ None) × (Some z ≡ None)
        by_test true e = cc
        by_test false e = cc

    not_last : run.last ≡ false → (run.end < length es) × (depth_in_row es run.end ≡ depth_in_row es run.start)
    not_last off =
        let never : (run.end ≡ length es) ⊎ (depth_in_row es run.start ≢ depth_in_row es run.end) → ⊥ =
        λ h. true≢false (sym ((last_here f source r is run there).1 h) ∙ off) in
        let within = lev.within in (
          ⊎_elim (λ all. absurd (never (inl all))) (λ other. omega (arith, within, other)) (cases_eq run.end (length es)),
          ⊎_elim (λ same. same) (λ other. absurd (never (inr (λ e. other (sym e))))) (cases_eq (depth_in_row es run.end) (depth_in_row es run.start)),
        )

    -- no stop so far, or this run was not the last of its depth
    pub passing_on : ((st : ℕ × StopWord) → lesser stop found ≡ Some st → run.last ≡ false) → IsPassing s u old after run.end (lesser stop found)
    passing_on goes_on = by_next (lesser stop found) refl
      where
        by_next : (o : Option (ℕ × StopWord)) → lesser stop found ≡ o → IsPassing s u old after run.end o
        by_next None is' =
            let both = none_both stop found is' in
            passing_then None
            (whole_behind f.net m i source frame.net free es by run.start run.end stop done w state.between_is lev read_values new_values alike new_active new_branch new_mask found r_done
            both.0 both.1)
            (λ h. both) (λ st h. cc)
        by_next (Some st) is' =
            let off = not_last (goes_on st is') in
            passing_then (Some st)
            (pending_behind f.net m i source frame.net free es by run.start run.end stop done w state.between_is lev read_values new_values alike new_active new_branch new_mask found r_done
            st (pending_then st is') (λ less. off.1))
            (λ h. cc) (λ st' h. off.0)

    -- ---- marks

    valued_marks : (cs : List Call) → AreValued f i banks t u cs found → (c : Call) → Contains cs c → IsMarked t.marks c → IsMarked u.marks c
    valued_marks [] h c c_in old = absurd (omega (arith, c_in.1))
    valued_marks (d ∷ cs) h c c_in old = ⊎_elim
        (λ has. ⊎_elim (λ same. subst (IsMarked u.marks) same has.0.marked) (λ later. valued_marks cs has.1 c later old) (Contains-cons d cs c c_in))
        (λ stuck. All-contains (λ (x : Call). IsMarked t.marks x → IsMarked u.marks x) (d ∷ cs) c stuck.1 c_in old) h

    -- a call of a whole run, where its block is called here
    same_call : (run' : Run) (there' : Contains r.runs run') → run'.guarded ≡ false → (c : Call) → Contains (calls_in r run') c → Contains blocks c.block → Contains calls c
    same_call run' there' unguarded c c_in called =
        let xs = kept f source r is in
        let x = map_contains (call_of f) (between xs run'.start run'.end) c (subst (λ cs. Contains cs c) (calls_here f source r is run' there') c_in) in
        let d = map_contains (λ (y : Call). y.block) calls c.block called in
        let e = call_from f t.marks here d.0 (subst (λ cs. Contains cs d.0) calls_are d.1) in
        let p = stands f frame source r is run' there' x.0 x.1 in
        let q = kept_here e.entry e.there in
        let xp = place_in_part es run'.start run'.end (entry_of x.0) (let a = (level f source r is run' there').some in omega (arith, a)) (level f source r is run' there').within
        (subst (λ ys. Contains ys (entry_of x.0)) (here_plain f source r is run' there') (contains_map entry_of (between xs run'.start run'.end) x.0 x.1)) in
        let block : block_in_row es xp.0 ≡ block_in_row es q.0 =
        ap (λ (y : PlainEntry). y.block) xp.4 ∙ (ap (λ (y : Call). y.block) x.2 ∙ (sym d.2 ∙ (ap (λ (y : Call). y.block) e.is ∙ sym (ap (λ (y : PlainEntry). y.block) q.4)))) in
        let place : xp.0 ≡ q.0 = ⊎_elim (λ at_one. at_one)
        (λ other. absurd (⊎_elim (λ less. apart_places f.net m i source frame.net free es by xp.0 q.0 less q.3 block)
        (λ more. apart_places f.net m i source frame.net free es by q.0 xp.0 (omega (arith, more, other)) xp.3 (sym block)) (cases_lt xp.0 q.0)))
        (cases_eq xp.0 q.0) in
        let entry : entry_of x.0 ≡ entry_of e.entry = sym xp.4 ∙ (ap (entry_in es) place ∙ q.4) in
        let unguarded_here : is_guarded x.0 ≡ false =
        All-contains (λ (y : Entry). is_guarded y ≡ run'.guarded) (between xs run'.start run'.end) x.0 (run_is f source r is run' there').guarded_is x.1 ∙ unguarded in
        let mask_some : Some (mask_in t.marks (entry_of x.0)) ≡ Some x.0.mask =
        sym (ap (λ a. cond a (Some (mask_in t.marks (entry_of x.0))) None) (ap (applies t.marks) entry ∙ e.on)) ∙ whole_entry t.marks x.0 unguarded_here in
        let mask : mask_in t.marks (entry_of e.entry) ≡ x.0.mask = ap (mask_in t.marks) (sym entry) ∙ some_same (mask_in t.marks (entry_of x.0)) x.0.mask mask_some in
        let same : d.0 ≡ c =
        e.is ∙ (ap (λ (y : PlainEntry). let z : Call = record { slot = (seat_of f y.block).slot; block = y.block; mask = mask_in t.marks (entry_of e.entry) } in z) (sym entry)
        ∙ (ap (λ k. let z : Call = record { slot = (seat_of f x.0.block).slot; block = x.0.block; mask = k } in z) mask ∙ x.2)) in
        subst (Contains calls) same d.1
      where
        some_same : (a b : ℕ) → Some a ≡ Some b → a ≡ b
        some_same a b h = cc

    pub whole_then : AreWholeMarked r t.marks → AreWholeMarked r u.marks
    whole_then h run' there' unguarded k d l =
        let c = get_or (calls_in r run') k d in
        let c_in : Contains (calls_in r run') c = (k, l, get_or_default (calls_in r run') k c d l) in
        let old = h run' there' unguarded k d l in
        let p = called_stands f frame source r is run' there' c.block (contains_map (λ (x : Call). x.block) (calls_in r run') c c_in) in
        let block = subst (IsBlock f.net) p.block_is (block_there f source r is p.place p.within) in
        ⊎_elim
        (λ called. valued_marks calls ran.valued c (same_call run' there' unguarded c c_in (has-Contains blocks c.block called)) old)
        (λ out. let same = other_marks c.block block (λ called. out (Contains-has blocks c.block called)) in
        record { active = ap (λ (x : Mark). x.active) same ∙ old.active; mask = ap (λ (x : Mark). x.mask) same ∙ old.mask })
        (Has-cases blocks c.block)

    pub others_then : ((b : ℕ) → IsBlock f.net b → (Contains r.blocks b → ⊥) → mark_at t.marks b ≡ idle) → (b : ℕ) → IsBlock f.net b → (Contains r.blocks b → ⊥)
        → mark_at u.marks b ≡ idle
    others_then h b block out =
        other_marks b block (λ called.
        let p = called_now b called in
        out ((is.row.blocks_are.same b).1 ((is.entries.exactly b).1 (subst (Possible f.net source) p.2
        ((by.exactly (block_in_row es p.0)).0 (block_at_place es p.0 (let k = p.1 in let c = lev.within in omega (arith, k, c)))))))) ∙ h b block out

  -- ---- before the first run and behind the last

  pub passing_first : (s : Standing) (old : List Meaning) → AreSeated f old → ShowsMemory f s old m → ((k : Kind) → (bank_of old k).outs ≤ 18446744073709551615)
      → IsPassing s s old old 0 None
  passing_first s old seated shows small = record {
    done = [];
    w = at_rest m;
    between_is = between_first f.net m i source frame.net free es by (at_rest m) (pass_begins f.net m i source);
    values = λ c h. absurd (omega (arith, h.1));
    rests = λ c block out. shows.held c block;
    applied = λ c h. absurd (omega (arith, h.1));
    noted = record { branches = λ c on sync. absurd (true≢false (sym on)); masks = λ c on. absurd (true≢false (sym on)) };
    unmarked = λ c block out. refl;
    counted = λ b. false;
    counts = counts_begin f frame old old seated small;
    counted_tried = λ c on. absurd (true≢false (sym on));
    counted_whole = λ none c. refl;
    live = λ st h. cc;
  }

  module _ (s t : Standing) (old banks : List Meaning) (stop : Option (ℕ × StopWord)) (state : IsPassing s t old banks (length es) stop) (begun : HasBegun f r s) where
    none_waits : stop ≡ None
    none_waits = by_stop stop refl
      where
        by_stop : (o : Option (ℕ × StopWord)) → stop ≡ o → stop ≡ None
        by_stop None h = h
        by_stop (Some st) h = absurd (let l = state.live st h in omega (arith, l))

    last_between : IsBetween f.net m i source frame.net free es by (length es) None state.done state.w
    last_between = subst (λ o. IsBetween f.net m i source frame.net free es by (length es) o state.done state.w) none_waits state.between_is

    all_possible : (c : ℕ) → Possible f.net source c → Contains state.done c
    all_possible c may =
        let q = place_of_block es c ((by.exactly c).1 may) in subst (Contains state.done) q.2 (last_between.whole refl q.0 q.1)

    tried_possible : (c : ℕ) → IsTried (length es) c → Possible f.net source c
    tried_possible c tried = subst (Possible f.net source) tried.2 ((by.exactly (block_in_row es tried.0)).0 (block_at_place es tried.0 tried.1))

    values_all : (c : ℕ) → IsBlock f.net c → values_at f.net t.values c ≡ state.w.values c
    values_all c block = ⊎_elim
        (λ there. state.values c (has-Contains state.done c there))
        (λ out.
        let rest : Contains state.done c → ⊥ = λ h. out (Contains-has state.done c h) in
        state.rests c block (λ tried. rest (all_possible c (tried_possible c tried))) ∙ sym (state.between_is.front.rests c rest).1)
        (Has-cases state.done c)

    active_all : (c : ℕ) → IsBlock f.net c → (mark_at t.marks c).active ≡ state.w.applied c
    active_all c block = ⊎_elim
        (λ there. state.applied c (has-Contains state.done c there))
        (λ out.
        let rest : Contains state.done c → ⊥ = λ h. out (Contains-has state.done c h) in
        ap (λ (x : Mark). x.active) (state.unmarked c block (λ tried. rest (all_possible c (tried_possible c tried))) ∙ begun.others c block (λ whole. rest (all_possible c (whole_may c whole))))
        ∙ sym (state.between_is.front.rests c rest).0)
        (Has-cases state.done c)
      where
        whole_may : (b : ℕ) → IsOfWhole r b → Possible f.net source b
        whole_may b whole =
            let p = called_stands f frame source r is whole.run whole.there b whole.called in
            subst (Possible f.net source) p.block_is ((by.exactly (block_in_row es p.place)).0 (block_at_place es p.place p.within))

    active_is : IsActivity f.net source state.w.values state.w.applied
    active_is c block = (
      (λ on. (state.between_is.front.tells c (applied_is_done f.net m i source state.done state.w c state.between_is.front on)).0 on),
      λ active. (state.between_is.front.tells c (all_possible c (possible f.net source _ active))).1 active,
    )

    pub passing_last : AreInRange f.net (values_at f.net t.values) → t.cursors ≡ s.cursors → ((b : ℕ) → IsBlock f.net b → state_of f banks b ≡ state_of f old b)
        → IsPassed f i source m s t old banks None
    passing_last in_range cursors states = record {
      y = state.w.values;
      active = state.w.applied;
      result = whole_result f.net m i source frame.net free es by state.done state.w last_between;
      in_range = λ b block. subst (Fills (spec_of f.net b).outs) (values_all b block) (in_range b block);
      active_are = active_is;
      shown = record { values = values_all; active_are = active_all; masks = λ b block on. state.noted.masks b on };
      cursors = cursors;
      states = states;
      counted = counts_same f.net state.counted state.w.applied old banks (state.counted_whole none_waits) state.counts;
    }
