-- The calls of a run: each of a block of the net, on a mask that it may be called on, and none is fed by another.
use Rattle.std.proofs.Common.{◌≡◌, ◌≢◌, ℕ, zero, suc, ◌+◌, ◌-◌, ◌<◌, ◌≤◌, Bool, true, false, cond, inl, inr, ⊎_elim, List, [], ◌∷◌, ◌++◌, length, map, get_or, Contains, All, Some, None, refl, sym, ap, subst, ◌∙◌, arith}
use Rattle.std.specs.Prelude.{AllPairs}
use Rattle.std.proofs.lemmas.List.{get_or-map, length-map, get_or_default}
use Rattle.std.proofs.lemmas.List.Elements.{All-contains, Contains-append_cases}
use Rattle.std.proofs.lemmas.List.Kept.{AllPairs-cons}
use Rattle.sci_loop.proofs.Depth.{depth_falls}
use Rattle.sci_net.specs.declared.Source.{Source}
use Rattle.sci_net.specs.Parts.{IsBlock, spec_of, wire_of, numbered}
use Rattle.sci_forms.specs.Form.{is_sync}
use Rattle.sci_reaction.specs.Active.{Possible}
use Rattle.sci_reaction.specs.Depends.{Depends, HasDepth}
use Rattle.sci_reaction.specs.Memory.{Memory, Columns}
use Rattle.sci_reaction.specs.Equations.{input_in, output_among, answer, answer_of}
use Rattle.sci_reaction.specs.Memory.{next_value}
use Rattle.sci_reaction.specs.Kept.{entry_of, entries_of}
use Rattle.sci_reaction.specs.Schedule.{Guard, Entry as PlainEntry, blocks_of}
use Rattle.sci_reaction.specs.declared.entry.Entry.{Entry}
use Rattle.sci_reaction.proofs.Agreement.{AgreeThrough}
use Rattle.sci_reaction.proofs.Fair.{fair}
use Rattle.sci_reaction.proofs.Rows.{block_in}
use Rattle.sci_rounds.specs.Rounds.{TellsActivation}
use Rattle.sci_rounds.proofs.Together.{Apart}
use Rattle.sci_rounds.proofs.ByDepth.{AreByDepth, IsLevel, part, no_entry, entry_in, block_in_row, depth_in_row, block_at_place, place_in_part, part_apart}
use Rattle.sci_places.specs.Flat.{values_at}
use Rattle.sci_bank.specs.declared.runs.Call.{Call}
use Rattle.sci_bank.specs.Bank.{Meaning}
use Rattle.sci_store.specs.declared.marks.Mark.{Mark}
use Rattle.sci_store.specs.declared.row.Run.{Run}
use Rattle.sci_store.specs.Entries.{HasMark, applies, mask_in, activation}
use Rattle.sci_store.specs.Frame.{Fixed, IsFrame, seat_of}
use Rattle.sci_store.specs.Store.{Standing, IsStore, cursor_at, state_of}
use Rattle.sci_store.specs.Passed.{given, branch_of}
use Rattle.sci_store.specs.Rows.{ReadyRow, IsRowOf, call_of, between, calls_in, call_on, run_calls}
use Rattle.sci_store.specs.Runs.{IsCallIn, AgreesBut, AreApart, AreOfKind}
use Rattle.sci_store.proofs.Leveled.{kept, plain, by_depth, block_there, level, run_is, here_plain, calls_here, guarded_here, calls_of, run_calls_are}
use Rattle.sci_store.proofs.EntryMasks.{sync_block, entry_mask}

pub contains_map : {A B : Type 0} (g : A → B) (xs : List A) (x : A) → Contains xs x → Contains (map g xs) (g x)
contains_map g xs x h =
    let long = length-map xs g in (h.0, omega (arith, long, h.1), get_or-map g xs h.0 x (g x) h.1 ∙ ap g h.2)

pub map_contains : {A B : Type 0} (g : A → B) (xs : List A) (y : B) → Contains (map g xs) y → (x : A) × Contains xs x × (g x ≡ y)
map_contains g [] y h = absurd (omega (arith, h.1))
map_contains g (x ∷ xs) y (zero, l, e) = (x, (0, omega arith, refl), e)
map_contains g (x ∷ xs) y (suc k, l, e) =
    let r = map_contains g xs y (k, omega (arith, l), e) in (r.0, (suc r.1.0, omega (arith, r.1.1), r.1.2), r.2)

-- ---- a call is of an entry that applies

pub record IsCallOf (f : Fixed) (marks : List Mark) (es : List Entry) (c : Call) : Type 0 where
  pub entry : Entry
  pub there : Contains es entry
  pub on : applies marks (entry_of entry) ≡ true
  pub is : c ≡ record (call_of f entry) { mask = mask_in marks (entry_of entry) }

one_call : (f : Fixed) (marks : List Mark) (e : Entry) (c : Call) (t : Bool) → applies marks (entry_of e) ≡ t
    → Contains (call_on (call_of f e) (cond t (Some (mask_in marks (entry_of e))) None)) c
    → (applies marks (entry_of e) ≡ true) × (c ≡ record (call_of f e) { mask = mask_in marks (entry_of e) })
one_call f marks e c true on (zero, l, same) = (on, sym same)
one_call f marks e c true on (suc k, l, same) = absurd (omega (arith, l))
one_call f marks e c false off h = absurd (omega (arith, h.1))

pub call_from : (f : Fixed) (marks : List Mark) (es : List Entry) (c : Call) → Contains (calls_of f marks es) c → IsCallOf f marks es c
call_from f marks [] c h = absurd (omega (arith, h.1))
call_from f marks (e ∷ es) c h = ⊎_elim
    (λ here. let r = one_call f marks e c (applies marks (entry_of e)) refl here in
    record { entry = e; there = (0, omega arith, refl); on = r.0; is = r.1 })
    (λ later. let r = call_from f marks es c later in
    record { entry = r.entry; there = (suc r.there.0, (let l = r.there.1 in omega (arith, l)), r.there.2); on = r.on; is = r.is })
    (Contains-append_cases (call_on (call_of f e) (activation marks (entry_of e))) (calls_of f marks es) c h)

apart_calls : (f : Fixed) (marks : List Mark) (es : List Entry) → Apart (blocks_of (entries_of es)) → AllPairs (λ (c d : Call). c.block ≢ d.block) (calls_of f marks es)
apart_calls f marks [] h = λ i j d l m. absurd (omega (arith, m))
apart_calls f marks (e ∷ es) h = by_applies (applies marks (entry_of e)) (apart_calls f marks es h.1)
  where
    first : (mask : ℕ) → All (λ (d : Call). e.block ≢ d.block) (calls_of f marks es)
    first mask k d l same =
        let c = call_from f marks es (get_or (calls_of f marks es) k d) (k, l, get_or_default (calls_of f marks es) k (get_or (calls_of f marks es) k d) d l) in
        h.0 (subst (Contains (blocks_of (entries_of es))) (sym (same ∙ ap (λ (x : Call). x.block) c.is))
        (block_in (entries_of es) (entry_of c.entry) (contains_map entry_of es c.entry c.there)))

    by_applies : (t : Bool) → AllPairs (λ (c d : Call). c.block ≢ d.block) (calls_of f marks es)
        → AllPairs (λ (c d : Call). c.block ≢ d.block) (call_on (call_of f e) (cond t (Some (mask_in marks (entry_of e))) None) ++ calls_of f marks es)
    by_applies true rest =
        AllPairs-cons (λ (c d : Call). c.block ≢ d.block) (record (call_of f e) { mask = mask_in marks (entry_of e) }) (calls_of f marks es) (first 0) rest
    by_applies false rest = rest

all_apart : (f : Fixed) (es : List Entry) → Apart (blocks_of (entries_of es)) → AllPairs (λ (c d : Call). c.block ≢ d.block) (map (call_of f) es)
all_apart f [] h = λ i j d l m. absurd (omega (arith, m))
all_apart f (e ∷ es) h =
    AllPairs-cons (λ (c d : Call). c.block ≢ d.block) (call_of f e) (map (call_of f) es)
    (λ k d l same.
    let c = get_or (map (call_of f) es) k d in
    let x = map_contains (call_of f) es c (k, l, get_or_default (map (call_of f) es) k c d l) in
    h.0 (subst (Contains (blocks_of (entries_of es))) (ap (λ (y : Call). y.block) x.2 ∙ sym same) (block_in (entries_of es) (entry_of x.0) (contains_map entry_of es x.0 x.1))))
    (all_apart f es h.1)

module _ (f : Fixed) (frame : IsFrame f) (source : Source) (r : ReadyRow) (is : IsRowOf f source r) (run : Run) (there : Contains r.runs run) where
  abbrev es : List PlainEntry
  es = plain f source r is

  abbrev here : List Entry
  here = between (kept f source r is) run.start run.end

  by : AreByDepth f.net source es
  by = by_depth f source r is

  lev : IsLevel es run.start run.end
  lev = level f source r is run there

  order : run.start ≤ run.end
  order = let a = lev.some in omega (arith, a)

  -- where an entry of the run stands
  pub record StandsHere (b : ℕ) : Type 0 where
    pub place : ℕ
    pub least : run.start ≤ place
    pub most : place < run.end
    pub within : place < length es
    pub block_is : block_in_row es place ≡ b

  plain_place : (e : PlainEntry) → Contains (part es run.start run.end) e → (k : ℕ) × (run.start ≤ k) × (k < run.end) × (k < length es) × (entry_in es k ≡ e)
  plain_place e h = place_in_part es run.start run.end e order lev.within h

  entry_place : (e : Entry) → Contains here e → (k : ℕ) × (run.start ≤ k) × (k < run.end) × (k < length es) × (entry_in es k ≡ entry_of e)
  entry_place e h = plain_place (entry_of e) (subst (λ xs. Contains xs (entry_of e)) (here_plain f source r is run there) (contains_map entry_of here e h))

  pub stands : (e : Entry) → Contains here e → StandsHere e.block
  stands e h =
      let p = entry_place e h in
      record { place = p.0; least = p.1; most = p.2; within = p.3; block_is = ap (λ (x : PlainEntry). x.block) p.4 }

  pub is_block : (e : Entry) → Contains here e → IsBlock f.net e.block
  is_block e h = let p = stands e h in subst (IsBlock f.net) p.block_is (block_there f source r is p.place p.within)

  pub tells_here : (e : Entry) → Contains here e → TellsActivation f.net source (entry_of e)
  tells_here e h = let p = entry_place e h in subst (TellsActivation f.net source) p.4 (by.tells p.0 no_entry p.3)

  -- ---- calls

  pub call_in : (marks : List Mark) → All (IsCallIn f) (calls_of f marks here)
  call_in marks k d l =
      let c = get_or (calls_of f marks here) k d in
      let h = call_from f marks here c (k, l, get_or_default (calls_of f marks here) k c d l) in
      subst (IsCallIn f) (sym h.is)
      (record {
        block = is_block h.entry h.there;
        slot = refl;
        mask = entry_mask f.net source frame.net (entry_of h.entry) (is_block h.entry h.there) (tells_here h.entry h.there) marks h.on;
      })

  pub call_stands : (marks : List Mark) (c : Call) → Contains (calls_of f marks here) c → StandsHere c.block
  call_stands marks c h = let r = call_from f marks here c h in subst StandsHere (sym (ap (λ (x : Call). x.block) r.is)) (stands r.entry r.there)

  pub call_kind : (marks : List Mark) → AreOfKind f run.kind (calls_of f marks here)
  call_kind marks k d l =
      let c = get_or (calls_of f marks here) k d in
      let h = call_from f marks here c (k, l, get_or_default (calls_of f marks here) k c d l) in
      ap (λ (x : Call). (seat_of f x.block).kind) h.is
      ∙ All-contains (λ (e : Entry). (seat_of f e.block).kind ≡ run.kind) here h.entry (run_is f source r is run there).of_kind h.there

  pub pairs_apart : (marks : List Mark) → AllPairs (λ (c d : Call). c.block ≢ d.block) (calls_of f marks here)
  pairs_apart marks =
      apart_calls f marks here (subst (λ xs. Apart (blocks_of xs)) (sym (here_plain f source r is run there)) (part_apart es run.start run.end by.apart))

  -- the row has calls for different blocks
  pub row_pairs : AllPairs (λ (c d : Call). c.block ≢ d.block) (calls_in r run)
  row_pairs =
      subst (AllPairs (λ (c d : Call). c.block ≢ d.block)) (sym (calls_here f source r is run there))
      (all_apart f here (subst (λ xs. Apart (blocks_of xs)) (sym (here_plain f source r is run there)) (part_apart es run.start run.end by.apart)))

  -- ---- none is fed by another

  depth_at_place : (b : ℕ) → StandsHere b → HasDepth f.net source b (depth_in_row es run.start)
  depth_at_place b p =
      subst (λ d. HasDepth f.net source b d) (lev.depth_is p.place p.least p.most)
      (subst (λ c. HasDepth f.net source c (depth_in_row es p.place)) p.block_is (by.depths p.place no_entry p.within))

  may_be : (b : ℕ) → StandsHere b → Possible f.net source b
  may_be b p = subst (Possible f.net source) p.block_is ((by.exactly (block_in_row es p.place)).0 (block_at_place es p.place p.within))

  pub independent : (b d : ℕ) → StandsHere b → StandsHere d → Depends f.net source b d → ⊥
  independent b d p q dep =
      let falls = depth_falls (Depends f.net source) b d (depth_in_row es run.start) (depth_in_row es run.start) dep (depth_at_place b p) (depth_at_place d q) in
      omega (arith, falls)

  module _ (calls : List Call) (each : (c : Call) → Contains calls c → StandsHere c.block) (s t : Standing)
      (agree : AgreesBut f (map (λ (c : Call). c.block) calls) s t) (b : ℕ) (at : StandsHere b) where
    not_called : (a : ℕ) → Depends f.net source b a → Contains (map (λ (c : Call). c.block) calls) a → ⊥
    not_called a dep h =
        let c = map_contains (λ (x : Call). x.block) calls a h in
        independent b a at (subst StandsHere c.2 (each c.0 c.1)) dep

    through : AgreeThrough f.net b (input_in f.net (values_at f.net s.values) b) (input_in f.net (values_at f.net t.values) b)
    through k within through' =
        let w = wire_of f.net b k in
        ap (λ v. output_among (spec_of f.net w.block).outs v w.port)
        (sym (agree.values w.block (frame.net.wired.wires_lead b k within).block
        (λ h. let c = map_contains (λ (x : Call). x.block) calls w.block h in
        not_called w.block (record {
          possible = may_be b at;
          on_possible = subst (Possible f.net source) c.2 (may_be c.0.block (each c.0 c.1));
          waits = inl (record { input = k; within = within; from = refl; through = through' });
        }) h)))

    block_is_one : IsBlock f.net b
    block_is_one = subst (IsBlock f.net) at.block_is (block_there f source r is at.place at.within)

    given_alike : (i : Columns) (banks : List Meaning) (mask : ℕ) → given f i banks s b mask ≡ given f i banks t b mask
    unfolding answer
    given_alike i banks mask =
        let m : Memory = record { state = state_of f banks; held = λ c. []; cursor = cursor_at s } in
        (fair f.net m i frame.net.typed_specs).answers b mask (input_in f.net (values_at f.net s.values) b) (input_in f.net (values_at f.net t.values) b)
        block_is_one through
        ∙ ap (λ cs. answer_of (spec_of f.net b) (state_of f banks b) (next_value i (spec_of f.net b) (numbered 0 cs b)) mask (input_in f.net (values_at f.net t.values) b))
        (sym agree.cursors)

    branch_alike : branch_of f s b ≡ branch_of f t b
    branch_alike =
        let m : Memory = record { state = λ c. []; held = λ c. []; cursor = λ c. 0 } in
        ap (λ x. cond (is_sync (spec_of f.net b).kind) x 0)
        ((fair f.net m [] frame.net.typed_specs).branches b (input_in f.net (values_at f.net s.values) b) (input_in f.net (values_at f.net t.values) b)
        block_is_one through)

  pub are_apart : (marks : List Mark) → AreApart f (calls_of f marks here)
  are_apart marks = record {
    once = pairs_apart marks;
    alike = λ i banks s t c h agree. given_alike (calls_of f marks here) (call_stands marks) s t agree c.block (call_stands marks c h) i banks c.mask;
    branches = λ s t c h agree. branch_alike (calls_of f marks here) (call_stands marks) s t agree c.block (call_stands marks c h);
  }

  -- ---- the calls of the run by some marks

  pub run_call_in : (marks : List Mark) → All (IsCallIn f) (run_calls r run marks)
  run_call_in marks = subst (All (IsCallIn f)) (sym (run_calls_are f source r is run there marks)) (call_in marks)

  pub run_apart : (marks : List Mark) → AreApart f (run_calls r run marks)
  run_apart marks = subst (AreApart f) (sym (run_calls_are f source r is run there marks)) (are_apart marks)

  pub run_kind : (marks : List Mark) → AreOfKind f run.kind (run_calls r run marks)
  run_kind marks = subst (AreOfKind f run.kind) (sym (run_calls_are f source r is run there marks)) (call_kind marks)

  pub run_stands : (marks : List Mark) (c : Call) → Contains (run_calls r run marks) c → StandsHere c.block
  run_stands marks c h = call_stands marks c (subst (λ cs. Contains cs c) (run_calls_are f source r is run there marks) h)

  -- a block among those that the row has calls for, whether they are made or not
  pub called_stands : (b : ℕ) → Contains (map (λ (c : Call). c.block) (calls_in r run)) b → StandsHere b
  called_stands b h =
      let c = map_contains (λ (x : Call). x.block) (calls_in r run) b h in
      let e = map_contains (call_of f) here c.0 (subst (λ cs. Contains cs c.0) (calls_here f source r is run there) c.1) in
      subst StandsHere (ap (λ (x : Call). x.block) e.2 ∙ c.2) (stands e.0 e.1)

  -- ---- guards

  guard_elsewhere : (k : ℕ) → run.start ≤ k → k < run.end → k < length es → (g : Guard) → Contains (entry_in es k).guards g → StandsHere g.block → ⊥
  guard_elsewhere k l less within g h at =
      let tells = by.tells k no_entry within in
      let branch = tells.branches g h in
      let b = block_in_row es k in
      let here' : StandsHere b = record { place = k; least = l; most = less; within = within; block_is = refl } in
      independent b g.block here' at
      (record {
        possible = may_be b here';
        on_possible = may_be g.block at;
        waits = inr (record { sync = branch.sync; branch = g.port; reaches = branch.reaches });
      })

  module _ (on : run.guarded ≡ true) where
    abbrev chosen_entries : List Entry
    chosen_entries = between r.guarded run.entries (run.entries + (run.end - run.start))

    chosen_place : (e : Entry) → Contains chosen_entries e → (k : ℕ) × (run.start ≤ k) × (k < run.end) × (k < length es) × (entry_in es k ≡ entry_of e)
    chosen_place e h =
        plain_place (entry_of e)
        (subst (λ xs. Contains xs (entry_of e)) (guarded_here f source r is run there on ∙ here_plain f source r is run there)
        (contains_map entry_of chosen_entries e h))

    pub guards_elsewhere : All (λ (e : Entry). All (λ (g : Guard). Contains (map (λ (c : Call). c.block) (calls_in r run)) g.block → ⊥) (entry_of e).guards) chosen_entries
    guards_elsewhere k d l j g m called =
        let e = get_or chosen_entries k d in
        let p = chosen_place e (k, l, get_or_default chosen_entries k e d l) in
        let x = get_or (entry_of e).guards j g in
        let x_in : Contains (entry_of e).guards x = (j, m, get_or_default (entry_of e).guards j x g m) in
        guard_elsewhere p.0 p.1 p.2 p.3 x (subst (λ (q : PlainEntry). Contains q.guards x) (sym p.4) x_in) (called_stands x.block called)

    pub guards_marked : (s : Standing) → IsStore f s → All (λ (e : Entry). All (HasMark s.marks) (entry_of e).guards) chosen_entries
    guards_marked s store k d l j g m =
        let e = get_or chosen_entries k d in
        let p = chosen_place e (k, l, get_or_default chosen_entries k e d l) in
        let x = get_or (entry_of e).guards j g in
        let x_in : Contains (entry_of e).guards x = (j, m, get_or_default (entry_of e).guards j x g m) in
        let tells = by.tells p.0 no_entry p.3 in
        let block = sync_block f.net x.block (tells.branches x (subst (λ (q : PlainEntry). Contains q.guards x) (sym p.4) x_in)).sync in
        record { least = block.least; most = let b = block.most in let c = store.marks in omega (arith, b, c) }

    pub one_each : length chosen_entries ≡ length (calls_in r run)
    one_each =
        let a = length-map chosen_entries entry_of in
        let b = ap length (guarded_here f source r is run there on) in
        let c = length-map here entry_of in
        let d = ap length (calls_here f source r is run there) in
        let e = length-map here (call_of f) in
        omega (arith, a, b, c, d, e)

  pub calls_blocks : (s : Standing) → IsStore f s → All (λ (c : Call). (1 ≤ c.block) × (c.block ≤ length s.marks)) (calls_in r run)
  calls_blocks s store k d l =
      let c = get_or (calls_in r run) k d in
      let at = called_stands c.block (contains_map (λ (x : Call). x.block) (calls_in r run) c (k, l, get_or_default (calls_in r run) k c d l)) in
      let block = subst (IsBlock f.net) at.block_is (block_there f source r is at.place at.within) in
      (block.least, let b = block.most in let e = store.marks in omega (arith, b, e))
