-- The runs of a row that step states.
use Rattle.std.proofs.Common.{◌≡◌, ◌≢◌, ℕ, zero, suc, ◌+◌, ◌-◌, ◌<◌, ◌≤◌, Bool, true, false, ⊎_elim, ℤ, List, [], ◌∷◌, ◌++◌, length, get_or, take, drop, map, All, AllPairs, Contains, ◌↔◌, refl, sym, ap, subst, ◌∙◌, arith, eqb, true≢false, subst₂}
use Rattle.std.specs.Prelude.{IsSome}
use Rattle.std.specs.List.{filter}
use Rattle.std.proofs.lemmas.Bool.{cases_Bool}
use Rattle.std.proofs.lemmas.Bool.Decides.{Decides-eqb}
use Rattle.std.proofs.lemmas.Cmp.{nat_eq_equiv}
use Rattle.std.proofs.lemmas.List.{get_or-map, get_or-take, get_or-drop, get_or_default, length-map, length-drop, map-append, take_all, set-get_or}
use Rattle.std.proofs.lemmas.List.Elements.{All-contains, All-map, All-take, All-drop, All-cons}
use Rattle.std.proofs.lemmas.List.Kept.{AllPairs-filter}
use Rattle.std.proofs.lemmas.List.Sorted.{IsPermutation-map, IsPermutation-sym, Contains-permutation}
use Rattle.std.proofs.lemmas.Map.Keys.{IsDistinct-IsPermutation}
use Rattle.std.proofs.lemmas.Map.Made.{AllPairs-from_IsDistinct, IsDistinct-from_AllPairs}
use Rattle.sci_forms.specs.Form.{is_sensor, remembers}
use Rattle.sci_kinds.specs.Asks.{IsMask, IsState}
use Rattle.sci_net.specs.Parts.{IsBlock, spec_of}
use Rattle.sci_reaction.specs.declared.entry.Entry.{Entry}
use Rattle.sci_reaction.specs.Memory.{Columns, next_value}
use Rattle.sci_reaction.specs.Equations.{AreInRange}
use Rattle.sci_reaction.specs.Schedule.{blocks_of}
use Rattle.sci_reaction.specs.Kept.{entries_of}
use Rattle.sci_reaction.proofs.Lists.{Has, Contains-cons, cons-Contains, and_both}
use Rattle.sci_reaction.proofs.Rows.{Contains-has, has-Contains}
use Rattle.sci_reaction.proofs.Spreading.{Spread-block}
use Rattle.sci_run.specs.Activity.{Activity}
use Rattle.sci_places.specs.Flat.{values_at}
use Rattle.sci_bank.specs.declared.runs.Call.{Call}
use Rattle.sci_span.specs.declared.place.Place.{Place}
use Rattle.sci_bank.specs.Bank.{Meaning, no_bank}
use Rattle.sci_bank.specs.Library.{place_of, bank_of, with_bank}
use Rattle.sci_bank.specs.Runs.{MayRun, after_updates}
use Rattle.sci_store.specs.declared.marks.Mark.{Mark}
use Rattle.sci_store.specs.declared.row.Run.{Run}
use Rattle.sci_store.specs.Marks.{mark_at}
use Rattle.sci_store.specs.Frame.{Fixed, IsFrame, AreSeated, seat_of}
use Rattle.sci_store.specs.Store.{Standing, IsStore}
use Rattle.sci_store.specs.Chosen.{active_of_kinds}
use Rattle.sci_store.specs.Written.{AreAmong}
use Rattle.sci_store.specs.Rows.{ReadyRow, is_guarded, IsAlone, call_of, between, IsRun, Join, IsReadyRow, IsMarked, KeepsBegun, active_calls, state_calls_in}
use Rattle.sci_store.specs.Runs.{IsCallIn, AreOfKind, MayStep, MayStepAmong, called_blocks, AreCalledOnce, AreStepped}
use Rattle.sci_store.proofs.Writing.{seen_if, seen_unless}
use Rattle.sci_store.proofs.Placing.{no_sensor_of, may_run}
use Rattle.sci_store.proofs.Observing.{between_map}
use Rattle.sci_store.proofs.Covering.{entry_with, whole_marked}
use Rattle.sci_store.proofs.Updating.{stepped_begin, state_before, cursor_before}
use Rattle.sci_store.proofs.Stepping.{IsStepCall, stepped_both, steps_made, all_active}

-- ---- pieces of a list

pub between_every : {A : Type 0} (P : A → Type 0) (xs : List A) (start end : ℕ) → All P xs → All P (between xs start end)
between_every P xs start end h = All-take P (end - start) (drop start xs) (All-drop P start xs h)

short : {A : Type 0} (n : ℕ) (xs : List A) → length (take n xs) ≤ n
short zero xs = omega arith
short (suc n) [] = omega arith
short (suc n) (x ∷ xs) = let h = short n xs in omega (arith, h)

within_it : {A : Type 0} (n : ℕ) (xs : List A) → length (take n xs) ≤ length xs
within_it zero xs = omega arith
within_it (suc n) [] = omega arith
within_it (suc n) (x ∷ xs) = let h = within_it n xs in omega (arith, h)

-- what stands at a place of a piece
between_at : {A : Type 0} (xs : List A) (start end i : ℕ) (d : A) → i < length (between xs start end) → (start + i < length xs) × (start + i < end) × (get_or (between xs start end) i d ≡ get_or xs (start + i) d)
between_at xs start end i d l =
    let first = short (end - start) (drop start xs) in
    let second = within_it (end - start) (drop start xs) in
    let back = length-drop start xs in (
      omega (arith, l, second, back),
      omega (arith, l, first),
      get_or-take (end - start) (drop start xs) i d (omega (arith, l, first)) ∙ get_or-drop start xs i d,
    )

pub between_pairs : {A : Type 0} (R : A → A → Type 0) (xs : List A) (start end : ℕ) → AllPairs R xs → AllPairs R (between xs start end)
between_pairs R xs start end h i j d l m =
    let second = between_at xs start end j d m in
    let first = between_at xs start end i d (omega (arith, l, m)) in
    subst₂ R (sym first.2) (sym second.2) (h (start + i) (start + j) d (omega (arith, l)) second.0)

pub filter_among : {A : Type 0} (p : A → Bool) (xs : List A) (x : A) → Contains (filter p xs) x → Contains xs x
filter_among p [] x h = h
filter_among p (y ∷ ys) x h = ⊎_elim
    (λ on. ⊎_elim (λ here. (0, omega arith, here)) (λ there. cons-Contains y ys x (filter_among p ys x there))
    (Contains-cons y (filter p ys) x (subst (λ (l : List _). Contains l x) (seen_if (p y) (y ∷ filter p ys) (filter p ys) on) h)))
    (λ off. cons-Contains y ys x (filter_among p ys x (subst (λ (l : List _). Contains l x) (seen_unless (p y) (y ∷ filter p ys) (filter p ys) off) h)))
    (cases_Bool (p y))

pub filter_has : {A : Type 0} (p : A → Bool) (xs : List A) (x : A) → Contains xs x → p x ≡ true → Contains (filter p xs) x
filter_has p [] x h on = h
filter_has p (y ∷ ys) x h on = ⊎_elim
    (λ here. subst (λ (l : List _). Contains l x) (sym (seen_if (p y) (y ∷ filter p ys) (filter p ys) (ap p here ∙ on))) (0, omega arith, here))
    (λ there. ⊎_elim
    (λ also. subst (λ (l : List _). Contains l x) (sym (seen_if (p y) (y ∷ filter p ys) (filter p ys) also)) (cons-Contains y (filter p ys) x (filter_has p ys x there on)))
    (λ off. subst (λ (l : List _). Contains l x) (sym (seen_unless (p y) (y ∷ filter p ys) (filter p ys) off)) (filter_has p ys x there on))
    (cases_Bool (p y)))
    (Contains-cons y ys x h)

map_has : {A B : Type 0} (g : A → B) (xs : List A) (x : A) → Contains xs x → Contains (map g xs) (g x)
map_has g xs x h = let long = length-map xs g in (h.0, omega (arith, long, h.1), get_or-map g xs h.0 x (g x) h.1 ∙ ap g h.2)

-- what the active ones of some calls are
pub active_all : (P : Call → Type 0) (marks : List Mark) (calls : List Call)
    → ((c : Call) → Contains calls c → (mark_at marks c.block).active ≡ true → P (record c { mask = (mark_at marks c.block).mask })) → All P (active_calls marks calls)
active_all P marks [] h = λ k d l. absurd (omega (arith, l))
active_all P marks (c ∷ cs) h =
    let rest = active_all P marks cs (λ d there. h d (cons-Contains c cs d there)) in
    ⊎_elim
    (λ on. subst (λ (l : List Call). All P (l ++ active_calls marks cs))
    (sym (seen_if (mark_at marks c.block).active (record c { mask = (mark_at marks c.block).mask } ∷ []) [] on))
    (All-cons P (record c { mask = (mark_at marks c.block).mask }) (active_calls marks cs) (h c (0, omega arith, refl) on) rest))
    (λ off. subst (λ (l : List Call). All P (l ++ active_calls marks cs))
    (sym (seen_unless (mark_at marks c.block).active (record c { mask = (mark_at marks c.block).mask } ∷ []) [] off)) rest)
    (cases_Bool (mark_at marks c.block).active)

-- ---- the calls of next states

plain_blocks : (es : List Entry) → map (λ (e : Entry). e.block) es ≡ blocks_of (entries_of es)
plain_blocks [] = refl
plain_blocks (e ∷ es) = ap (λ (bs : List ℕ). e.block ∷ bs) (plain_blocks es)

module _ (f : Fixed) (r : ReadyRow) (frame : IsFrame f) (ready : IsReadyRow f r) where
  abbrev keeps : Entry → Bool
  keeps e = remembers (seat_of f e.block).kind

  abbrev sorted : List Entry
  sorted = ready.1.row.states.sorted

  abbrev all_entries : List Entry
  all_entries = ready.1.made_of

  entry_there : (e : Entry) → Contains ready.1.row.states.sorted e → Contains ready.1.made_of e
  entry_there e h = filter_among (λ (x : Entry). remembers (seat_of f x.block).kind) ready.1.made_of e
      (Contains-permutation ready.1.row.states.sorted (filter (λ (x : Entry). remembers (seat_of f x.block).kind) ready.1.made_of) e
      (IsPermutation-sym (filter (λ (x : Entry). remembers (seat_of f x.block).kind) ready.1.made_of) ready.1.row.states.sorted ready.1.row.states.same) h)

  block_there : (e : Entry) → Contains ready.1.made_of e → IsBlock f.net e.block
  block_there e h = Spread-block f.net ready.0 _ ((ready.1.entries.exactly e.block).0
      (subst (λ (bs : List ℕ). Contains bs e.block) (plain_blocks ready.1.made_of) (map_has (λ (x : Entry). x.block) ready.1.made_of e h)))

  -- each block stands once among them
  blocks_apart : AllPairs (λ (d e : Entry). d.block ≢ e.block) ready.1.row.states.sorted
  blocks_apart i j d l m =
      let numbers = λ (xs : List Entry). map (λ (x : Entry). x.block) xs in
      let kept : List Entry = filter (λ (x : Entry). remembers (seat_of f x.block).kind) ready.1.made_of in
      let long = length-map ready.1.row.states.sorted (λ (x : Entry). x.block) in
      λ e. apart_numbers i j 0 l (omega (arith, m, long))
      (get_or-map (λ (x : Entry). x.block) ready.1.row.states.sorted i d 0 (omega (arith, l, m)) ∙ (e ∙ sym (get_or-map (λ (x : Entry). x.block) ready.1.row.states.sorted j d 0 m)))
    where
      pairs_of : (xs : List Entry) → AllPairs (λ (a b : ℕ). a ≢ b) (map (λ (x : Entry). x.block) xs) → AllPairs (λ (a b : Entry). a.block ≢ b.block) xs
      pairs_of xs h i j d l m =
          let long = length-map xs (λ (x : Entry). x.block) in
          λ e. h i j 0 l (omega (arith, m, long)) (get_or-map (λ (x : Entry). x.block) xs i d 0 (omega (arith, l, m)) ∙ (e ∙ sym (get_or-map (λ (x : Entry). x.block) xs j d 0 m)))

      numbers_of : (xs : List Entry) → AllPairs (λ (a b : Entry). a.block ≢ b.block) xs → AllPairs (λ (a b : ℕ). a ≢ b) (map (λ (x : Entry). x.block) xs)
      numbers_of [] h i j d l m = absurd (omega (arith, m))
      numbers_of (x ∷ xs) h i j d l m =
          let long = length-map (x ∷ xs) (λ (y : Entry). y.block) in
          λ e. h i j x l (omega (arith, m, long))
          (sym (get_or-map (λ (y : Entry). y.block) (x ∷ xs) i x d (omega (arith, l, m, long))) ∙ (e ∙ get_or-map (λ (y : Entry). y.block) (x ∷ xs) j x d (omega (arith, m, long))))

      all_apart : AllPairs (λ (a b : ℕ). a ≢ b) (map (λ (x : Entry). x.block) ready.1.made_of)
      all_apart = subst (λ (bs : List ℕ). AllPairs (λ (a b : ℕ). a ≢ b) bs) (sym (plain_blocks ready.1.made_of))
          (AllPairs-from_IsDistinct Decides-eqb (blocks_of (entries_of ready.1.made_of)) ready.1.entries.once)

      kept_apart : AllPairs (λ (a b : ℕ). a ≢ b) (map (λ (x : Entry). x.block) (filter (λ (x : Entry). remembers (seat_of f x.block).kind) ready.1.made_of))
      kept_apart = numbers_of (filter (λ (x : Entry). remembers (seat_of f x.block).kind) ready.1.made_of)
          (AllPairs-filter (λ (a b : Entry). a.block ≢ b.block) (λ (x : Entry). remembers (seat_of f x.block).kind) ready.1.made_of (pairs_of ready.1.made_of all_apart))

      apart_numbers : AllPairs (λ (a b : ℕ). a ≢ b) (map (λ (x : Entry). x.block) ready.1.row.states.sorted)
      apart_numbers = AllPairs-from_IsDistinct Decides-eqb (map (λ (x : Entry). x.block) ready.1.row.states.sorted)
          (IsDistinct-IsPermutation eqb (λ x y. nat_eq_equiv.symm x y) (map (λ (x : Entry). x.block) (filter (λ (x : Entry). remembers (seat_of f x.block).kind) ready.1.made_of))
          (map (λ (x : Entry). x.block) ready.1.row.states.sorted)
          (IsPermutation-map (λ (x : Entry). x.block) (filter (λ (x : Entry). remembers (seat_of f x.block).kind) ready.1.made_of) ready.1.row.states.sorted ready.1.row.states.same)
          (IsDistinct-from_AllPairs Decides-eqb (map (λ (x : Entry). x.block) (filter (λ (x : Entry). remembers (seat_of f x.block).kind) ready.1.made_of)) kept_apart))

  -- by the entries of the calls
  every_call : (P : Call → Type 0) → ((e : Entry) → Contains ready.1.made_of e → P (call_of f e)) → All P r.state_calls
  every_call P h = subst (All P) (sym ready.1.row.states.calls_are) (All-map P (call_of f) ready.1.row.states.sorted
      (λ k d l. h (get_or ready.1.row.states.sorted k d) (entry_there (get_or ready.1.row.states.sorted k d)
      (k, l, get_or_default ready.1.row.states.sorted k (get_or ready.1.row.states.sorted k d) d l))))

  pub all_called_once : AreCalledOnce f r.state_calls
  all_called_once = record {
    blocks = every_call (λ (c : Call). IsBlock f.net c.block) (λ e has. block_there e has);
    once = subst (λ (cs : List Call). AllPairs (λ (c d : Call). c.block ≢ d.block) cs) (sym ready.1.row.states.calls_are) (calls_apart ready.1.row.states.sorted blocks_apart);
  }
    where
      calls_apart : (xs : List Entry) → AllPairs (λ (d e : Entry). d.block ≢ e.block) xs → AllPairs (λ (c d : Call). c.block ≢ d.block) (map (call_of f) xs)
      calls_apart [] h i j d l m = absurd (omega (arith, m))
      calls_apart (x ∷ xs) h i j d l m =
          let long = length-map (x ∷ xs) (call_of f) in
          λ e. h i j x l (omega (arith, m, long))
          (ap (λ (c : Call). c.block) (sym (get_or-map (call_of f) (x ∷ xs) i x d (omega (arith, l, m, long))))
          ∙ (e ∙ ap (λ (c : Call). c.block) (get_or-map (call_of f) (x ∷ xs) j x d (omega (arith, m, long)))))

  -- ---- of one run

  module _ (run : Run) (there : Contains r.state_runs run) where
    pub run_is : IsRun f (λ (e : Entry). 0) ready.1.row.states.sorted run
    run_is = All-contains (IsRun f (λ (e : Entry). 0) ready.1.row.states.sorted) r.state_runs run ready.1.row.states.runs_are there

    pub run_within : run.end ≤ length r.state_calls
    run_within =
        let long = length-map ready.1.row.states.sorted (call_of f) in
        let same = ap (λ (cs : List Call). length cs) ready.1.row.states.calls_are in
        omega (arith, run_is.within, long, same)

    pub run_called_once : AreCalledOnce f (state_calls_in r run)
    run_called_once = record {
      blocks = between_every (λ (c : Call). IsBlock f.net c.block) r.state_calls run.start run.end all_called_once.blocks;
      once = between_pairs (λ (c d : Call). c.block ≢ d.block) r.state_calls run.start run.end all_called_once.once;
    }

    -- by the entries of its calls
    run_every : (P : Call → Type 0) → ((e : Entry) → Contains ready.1.made_of e → Contains (between ready.1.row.states.sorted run.start run.end) e → P (call_of f e)) → All P (state_calls_in r run)
    run_every P h =
        subst (All P) (sym (ap (λ (cs : List Call). between cs run.start run.end) ready.1.row.states.calls_are ∙ between_map (call_of f) ready.1.row.states.sorted run.start run.end))
        (All-map P (call_of f) (between ready.1.row.states.sorted run.start run.end)
        (λ k d l. let e = get_or (between ready.1.row.states.sorted run.start run.end) k d in
        let at = between_at ready.1.row.states.sorted run.start run.end k d l in
        h (get_or (between ready.1.row.states.sorted run.start run.end) k d)
        (entry_there (get_or (between ready.1.row.states.sorted run.start run.end) k d)
        (subst (Contains ready.1.row.states.sorted) (sym at.2)
        (run.start + k, at.0, get_or_default ready.1.row.states.sorted (run.start + k) (get_or ready.1.row.states.sorted (run.start + k) d) d at.0)))
        (k, l, get_or_default (between ready.1.row.states.sorted run.start run.end) k (get_or (between ready.1.row.states.sorted run.start run.end) k d) d l)))

    kind_there : (e : Entry) → Contains (between ready.1.row.states.sorted run.start run.end) e → (seat_of f e.block).kind ≡ run.kind
    kind_there e has = All-contains (λ (x : Entry). (seat_of f x.block).kind ≡ run.kind) (between ready.1.row.states.sorted run.start run.end) e run_is.of_kind has

    pub run_kinds : AreOfKind f run.kind (state_calls_in r run)
    run_kinds = run_every (λ (c : Call). (seat_of f c.block).kind ≡ run.kind) (λ e has here. kind_there e here)

    pub run_slots : All (λ (c : Call). c.slot ≡ (seat_of f c.block).slot) (state_calls_in r run)
    run_slots = run_every (λ (c : Call). c.slot ≡ (seat_of f c.block).slot) (λ e has here. refl)

    -- a bank does them together
    module _ (on : run.together ≡ true) where
      together_there : (e : Entry) → Contains (between ready.1.row.states.sorted run.start run.end) e → IsAlone f e.block → ⊥
      together_there e has alone = true≢false (sym on ∙ (All-contains (λ (x : Entry). (run.together ≡ false) ↔ IsAlone f x.block)
          (between ready.1.row.states.sorted run.start run.end) e run_is.alone_is has).1 alone)

      pub run_together : All (λ (c : Call). IsAlone f c.block → ⊥) (state_calls_in r run)
      run_together = run_every (λ (c : Call). IsAlone f c.block → ⊥) (λ e has here. together_there e here)

      pub run_steps : All (IsStepCall f run.kind) (state_calls_in r run)
      run_steps = run_every (IsStepCall f run.kind) (λ e has here. record {
        block = block_there e has;
        slot = refl;
        kind_is = kind_there e here;
        plain = ap is_sensor (sym (frame.seated e.block (block_there e has)).kind) ∙ no_sensor_of f e.block (together_there e here);
      })

    -- the source activates all of its blocks whatever the values are
    pub run_whole : (s : Standing) → KeepsBegun f r s → run.guarded ≡ false → All (IsMarked s.marks) (state_calls_in r run)
    run_whole s begun off = run_every (IsMarked s.marks) (λ e has here.
        whole_marked f ready.1.made_of r ready.1.row s begun e has
        (All-contains (λ (x : Entry). is_guarded x ≡ run.guarded) (between ready.1.row.states.sorted run.start run.end) e run_is.guarded_is here ∙ off))

    -- the calls of those that are active may be made
    pub run_active_in : (s : Standing) (i : Columns) (banks : List Meaning) → MayStepAmong f i (called_blocks (state_calls_in r run)) s banks
        → All (IsCallIn f) (active_calls s.marks (state_calls_in r run))
    run_active_in s i banks may = active_all (IsCallIn f) s.marks (state_calls_in r run) (λ c has on. record {
      block = All-contains (λ (d : Call). IsBlock f.net d.block) (state_calls_in r run) c run_called_once.blocks has;
      slot = All-contains (λ (d : Call). d.slot ≡ (seat_of f d.block).slot) (state_calls_in r run) c run_slots has;
      mask = may.masks c.block (map_has (λ (d : Call). d.block) (state_calls_in r run) c has) on;
    })

    pub run_active_kinds : (s : Standing) → AreOfKind f run.kind (active_calls s.marks (state_calls_in r run))
    run_active_kinds s = active_all (λ (c : Call). (seat_of f c.block).kind ≡ run.kind) s.marks (state_calls_in r run)
        (λ c has on. All-contains (λ (d : Call). (seat_of f d.block).kind ≡ run.kind) (state_calls_in r run) c run_kinds has)

    pub run_active_together : (s : Standing) → run.together ≡ true → All (λ (c : Call). IsAlone f c.block → ⊥) (active_calls s.marks (state_calls_in r run))
    run_active_together s on = active_all (λ (c : Call). IsAlone f c.block → ⊥) s.marks (state_calls_in r run)
        (λ c has active. All-contains (λ (d : Call). IsAlone f d.block → ⊥) (state_calls_in r run) c (run_together on) has)

  -- ---- the bank of a run's kind steps its states

  module _ (run : Run) (there : Contains r.state_runs run) (s : Standing) (store : IsStore f s) (i : Columns) (banks : List Meaning) (seated : AreSeated f banks)
      (may : MayStepAmong f i (called_blocks (state_calls_in r run)) s banks) (on : run.together ≡ true) where
    active_run : MayRun (bank_of banks run.kind) f.layout.blocks s.values (active_calls s.marks (state_calls_in r run))
    active_run = may_run f frame banks seated run.kind (active_calls s.marks (state_calls_in r run)) s.values store.values may.values
        (run_active_in run there s i banks may) (run_active_kinds run there s) (run_active_together run there s on)

    active_steps : AreStepped f (called_blocks (state_calls_in r run)) s s banks
        (with_bank banks run.kind (after_updates (bank_of banks run.kind) f.layout.blocks s.values (active_calls s.marks (state_calls_in r run))))
    active_steps = steps_made f frame run.kind s store [] (state_calls_in r run) banks banks (stepped_begin f s banks seated) (run_steps run there on)
        (run_called_once run there).once (λ c has old. true≢false (sym old))

    module _ (places : List Place) (values : List ℤ) (calls : List Call) (same_places : places ≡ f.layout.blocks) (same_values : values ≡ s.values)
        (same_calls : calls ≡ active_calls s.marks (state_calls_in r run)) where
      pub may_active : MayRun (bank_of banks run.kind) places values calls
      may_active =
          subst (λ (ps : List Place). MayRun (bank_of banks run.kind) ps values calls) (sym same_places)
          (subst (λ (vs : List ℤ). MayRun (bank_of banks run.kind) f.layout.blocks vs calls) (sym same_values)
          (subst (MayRun (bank_of banks run.kind) f.layout.blocks s.values) (sym same_calls) active_run))

      pub active_stepped : (new : List Meaning) → new ≡ with_bank banks run.kind (after_updates (bank_of banks run.kind) places values calls)
          → AreStepped f (called_blocks (state_calls_in r run)) s s banks new
      active_stepped new changed =
          subst (AreStepped f (called_blocks (state_calls_in r run)) s s banks)
          (sym (changed ∙ (ap (λ (ps : List Place). with_bank banks run.kind (after_updates (bank_of banks run.kind) ps values calls)) same_places
          ∙ (ap (λ (vs : List ℤ). with_bank banks run.kind (after_updates (bank_of banks run.kind) f.layout.blocks vs calls)) same_values
          ∙ ap (λ (cs : List Call). with_bank banks run.kind (after_updates (bank_of banks run.kind) f.layout.blocks s.values cs)) same_calls)))) active_steps

    -- where none of them is active nothing changes
    pub none_stepped : active_calls s.marks (state_calls_in r run) ≡ [] → AreStepped f (called_blocks (state_calls_in r run)) s s banks banks
    none_stepped none = subst (AreStepped f (called_blocks (state_calls_in r run)) s s banks)
        (ap (λ (cs : List Call). with_bank banks run.kind (after_updates (bank_of banks run.kind) f.layout.blocks s.values cs)) none
        ∙ set-get_or banks (place_of run.kind) no_bank) active_steps

    -- where the source activates all of them they are all active
    pub whole_active : KeepsBegun f r s → run.guarded ≡ false → active_calls s.marks (state_calls_in r run) ≡ state_calls_in r run
    whole_active begun off = all_active f frame run.kind s store (state_calls_in r run) (run_whole run there s begun off)

  -- ---- run by run

  -- an active block that remembers is among them
  pub remembering_among : (active : Activity) → AreAmong f.net active r.blocks → AreAmong f.net (active_of_kinds f.net remembers active) (called_blocks r.state_calls)
  remembering_among active among b block is =
      let both = and_both (active b) (remembers (spec_of f.net b).kind) is in
      let e = entry_with ready.1.made_of b ((ready.1.row.blocks_are.same b).0 (among b block both.0)) in
      let kind : (seat_of f e.0.block).kind ≡ (spec_of f.net b).kind = ap (λ (c : ℕ). (seat_of f c).kind) e.2 ∙ (frame.seated b block).kind in
      let kept = filter_has (λ (x : Entry). remembers (seat_of f x.block).kind) ready.1.made_of e.0 e.1 (ap remembers kind ∙ both.1) in
      let there = Contains-permutation (filter (λ (x : Entry). remembers (seat_of f x.block).kind) ready.1.made_of) ready.1.row.states.sorted e.0 ready.1.row.states.same kept in
      subst (Contains (called_blocks r.state_calls)) e.2
      (subst (λ (cs : List Call). Contains (called_blocks cs) e.0.block) (sym ready.1.row.states.calls_are)
      (map_has (λ (c : Call). c.block) (map (call_of f) ready.1.row.states.sorted) (call_of f e.0) (map_has (call_of f) ready.1.row.states.sorted e.0 there)))

  pub runs_joined : Join 0 (length r.state_calls) r.state_runs
  runs_joined =
      let long = length-map ready.1.row.states.sorted (call_of f) in
      subst (λ (n : ℕ). Join 0 n r.state_runs) (sym long ∙ sym (ap (λ (cs : List Call). length cs) ready.1.row.states.calls_are)) ready.1.row.states.joined

-- ---- where the runs so far end

abbrev pub end_behind : ℕ → List Run → ℕ
end_behind at [] = at
end_behind at (run ∷ runs) = end_behind run.end runs

pub end_all : (at end : ℕ) (runs : List Run) → Join at end runs → end_behind at runs ≡ end
end_all at end [] h = h
end_all at end (run ∷ runs) h = end_all run.end end runs h.1

-- the next run begins there
pub next_begins : (at end : ℕ) (runs : List Run) (k : ℕ) (d : Run) → Join at end runs → k < length runs
    → ((get_or runs k d).start ≡ end_behind at (take k runs)) × (end_behind at (take (k + 1) runs) ≡ (get_or runs k d).end)
next_begins at end [] k d h l = absurd (omega (arith, l))
next_begins at end (run ∷ runs) zero d h l = let one : 0 + 1 ≡ suc 0 = refl in (h.0, ap (λ (n : ℕ). end_behind at (take n (run ∷ runs))) one)
next_begins at end (run ∷ runs) (suc k) d h l =
    let e : suc k + 1 ≡ suc (k + 1) = omega arith in
    let rest = next_begins run.end end runs k d h.1 (omega (arith, l)) in
    (rest.0, ap (λ (n : ℕ). end_behind at (take n (run ∷ runs))) e ∙ rest.1)

-- ---- behind the runs so far

take_none : {A : Type 0} (n : ℕ) → take {A = A} n [] ≡ []
take_none zero = refl
take_none (suc n) = refl

take_further : {A : Type 0} (at end : ℕ) (xs : List A) → at ≤ end → take end xs ≡ take at xs ++ between xs at end
take_further zero end xs l = let same : end - 0 ≡ end = omega arith in ap (λ (n : ℕ). take n xs) (sym same)
take_further (suc at) zero xs l = absurd (omega (arith, l))
take_further (suc at) (suc end) [] l = sym (take_none (suc end - suc at))
take_further {A} (suc at) (suc end) (x ∷ xs) l =
    let same : suc end - suc at ≡ end - at = omega arith in
    ap (λ (ys : List A). x ∷ ys) (take_further at end xs (omega (arith, l)))
    ∙ ap (λ (n : ℕ). x ∷ (take at xs ++ take n (drop at xs))) (sym same)

module _ (f : Fixed) (calls : List Call) (once : AreCalledOnce f calls) (at end : ℕ) (order : at ≤ end) where
  -- a block of the calls before isn't among the next
  pub apart_from_before : (b : ℕ) → Has (called_blocks (take at calls)) b → Has (called_blocks (between calls at end)) b → ⊥
  apart_from_before b h k =
      let before = call_with (take at calls) b (has-Contains (called_blocks (take at calls)) b h) in
      let behind = call_with (between calls at end) b (has-Contains (called_blocks (between calls at end)) b k) in
      let low = short at calls in
      let less = within_it at calls in
      let there = between_at calls at end behind.1.0 behind.0 behind.1.1 in
      let first : get_or calls before.1.0 behind.0 ≡ before.0 =
      get_or_default calls before.1.0 behind.0 before.0 (omega (arith, before.1.1, less)) ∙ (sym (get_or-take at calls before.1.0 before.0 (omega (arith, before.1.1, low))) ∙ before.1.2) in
      let second : get_or calls (at + behind.1.0) behind.0 ≡ behind.0 = sym there.2 ∙ behind.1.2 in
      once.once before.1.0 (at + behind.1.0) behind.0 (omega (arith, before.1.1, low)) there.0
      (ap (λ (c : Call). c.block) first ∙ (before.2 ∙ (sym behind.2 ∙ ap (λ (c : Call). c.block) (sym second))))
    where
      call_with : (cs : List Call) (b : ℕ) → Contains (called_blocks cs) b → (c : Call) × Contains cs c × (c.block ≡ b)
      call_with [] b h = absurd (omega (arith, h.1))
      call_with (x ∷ xs) b h = ⊎_elim
          (λ here. (x, (0, omega arith, refl), here))
          (λ there. let c = call_with xs b there in (c.0, cons-Contains x xs c.0 c.1, c.2))
          (Contains-cons x.block (called_blocks xs) b h)

  module _ (s t : Standing) (banks mid : List Meaning) (done : AreStepped f (called_blocks (take at calls)) s t banks mid) where
    block_in : (b : ℕ) → Contains (called_blocks (between calls at end)) b → IsBlock f.net b
    block_in b has = subst (IsBlock f.net) has.2
        (subst (IsBlock f.net) (sym (get_or-map (λ (c : Call). c.block) (between calls at end) has.0 (record { slot = 0; block = b; mask = 0 }) b (inside has.0 has.1)))
        (between_every (λ (c : Call). IsBlock f.net c.block) calls at end once.blocks has.0 (record { slot = 0; block = b; mask = 0 }) (inside has.0 has.1)))
      where
        inside : (k : ℕ) → k < length (called_blocks (between calls at end)) → k < length (between calls at end)
        inside k l = subst (λ (n : ℕ). k < n) (length-map (between calls at end) (λ (c : Call). c.block)) l

    fresh : (b : ℕ) → Contains (called_blocks (between calls at end)) b → Has (called_blocks (take at calls)) b → ⊥
    fresh b has old = apart_from_before b old (Contains-has (called_blocks (between calls at end)) b has)

    pub may_step_next : (i : Columns) → MayStep f i s banks → MayStepAmong f i (called_blocks (between calls at end)) t mid
    may_step_next i may = record {
      values = subst (λ (v : Standing). AreInRange f.net (values_at f.net v.values)) (sym done.same) may.values;
      masks = λ b has on.
          subst (λ (v : Standing). IsMask (spec_of f.net b) (mark_at v.marks b).mask) (sym done.same)
          (may.masks b (block_in b has) (ap (λ (v : Standing). (mark_at v.marks b).active) (sym done.same) ∙ on));
      sensed = λ b has on sensor.
          subst (λ (k : ℕ). IsSome (next_value i (spec_of f.net b) k)) (sym (cursor_before f (called_blocks (take at calls)) s t banks mid done b (block_in b has) (fresh b has)))
          (may.sensed b (block_in b has) (ap (λ (v : Standing). (mark_at v.marks b).active) (sym done.same) ∙ on) sensor);
      states = λ b has.
          subst (IsState (spec_of f.net b)) (sym (state_before f (called_blocks (take at calls)) s t banks mid done b (block_in b has) (fresh b has))) (may.states b (block_in b has));
    }

    pub stepped_further : (u : Standing) (after : List Meaning) → AreStepped f (called_blocks (between calls at end)) t u mid after
        → AreStepped f (called_blocks (take end calls)) s u banks after
    stepped_further u after next =
        subst (λ (bs : List ℕ). AreStepped f bs s u banks after)
        (sym (map-append (λ (c : Call). c.block) (take at calls) (between calls at end)) ∙ ap called_blocks (sym (take_further at end calls order)))
        (stepped_both f (called_blocks (take at calls)) (called_blocks (between calls at end)) s t u banks mid after done next apart_from_before)

-- marks stay
pub begun_behind : (f : Fixed) (r : ReadyRow) (s t : Standing) → t.marks ≡ s.marks → KeepsBegun f r s → KeepsBegun f r t
begun_behind f r s t e h = record {
  whole = λ run there off. subst (λ (ms : List Mark). All (IsMarked ms) (between r.calls run.start run.end)) (sym e) (h.whole run there off);
  others = λ b block outside. ap (λ (ms : List Mark). mark_at ms b) e ∙ h.others b block outside;
}

-- ---- run by run, of the runs of a row

module _ (f : Fixed) (r : ReadyRow) (frame : IsFrame f) (ready : IsReadyRow f r) (items : List Run) (same : items ≡ r.state_runs) (k : ℕ) (d : Run) (l : k < length items) where
  within : k < length r.state_runs
  within = subst (λ (rs : List Run). k < length rs) same l

  run_same : get_or items k d ≡ get_or r.state_runs k d
  run_same = ap (λ (rs : List Run). get_or rs k d) same

  pub run_there : Contains r.state_runs (get_or items k d)
  run_there = subst (Contains r.state_runs) (sym run_same) (k, within, get_or_default r.state_runs k (get_or r.state_runs k d) d within)

  begins_at : (get_or items k d).start ≡ end_behind 0 (take k r.state_runs)
  begins_at = ap (λ (run : Run). run.start) run_same ∙ (next_begins 0 (length r.state_calls) r.state_runs k d (runs_joined f r frame ready) within).0

  ends_at : end_behind 0 (take (k + 1) r.state_runs) ≡ (get_or items k d).end
  ends_at = (next_begins 0 (length r.state_calls) r.state_runs k d (runs_joined f r frame ready) within).1 ∙ ap (λ (run : Run). run.end) (sym run_same)

  in_order : end_behind 0 (take k r.state_runs) ≤ (get_or items k d).end
  in_order = let some = (run_is f r frame ready (get_or items k d) run_there).some in omega (arith, some, begins_at)

  calls_at : state_calls_in r (get_or items k d) ≡ between r.state_calls (end_behind 0 (take k r.state_runs)) (get_or items k d).end
  calls_at = ap (λ (n : ℕ). between r.state_calls n (get_or items k d).end) begins_at

  module _ (s t : Standing) (banks mid : List Meaning) (done : AreStepped f (called_blocks (take (end_behind 0 (take k r.state_runs)) r.state_calls)) s t banks mid) where
    pub run_may_step : (i : Columns) → MayStep f i s banks → MayStepAmong f i (called_blocks (state_calls_in r (get_or items k d))) t mid
    run_may_step i may = subst (λ (cs : List Call). MayStepAmong f i (called_blocks cs) t mid) (sym calls_at)
        (may_step_next f r.state_calls (all_called_once f r frame ready) (end_behind 0 (take k r.state_runs)) (get_or items k d).end in_order s t banks mid done i may)

    pub run_further : (u : Standing) (after : List Meaning) → AreStepped f (called_blocks (state_calls_in r (get_or items k d))) t u mid after
        → AreStepped f (called_blocks (take (end_behind 0 (take (k + 1) r.state_runs)) r.state_calls)) s u banks after
    run_further u after next = subst (λ (n : ℕ). AreStepped f (called_blocks (take n r.state_calls)) s u banks after) (sym ends_at)
        (stepped_further f r.state_calls (all_called_once f r frame ready) (end_behind 0 (take k r.state_runs)) (get_or items k d).end in_order s t banks mid done u after
        (subst (λ (cs : List Call). AreStepped f (called_blocks cs) t u mid after) calls_at next))

-- all runs are stepped
pub runs_stepped : (f : Fixed) (r : ReadyRow) (frame : IsFrame f) (ready : IsReadyRow f r) (k : ℕ) (s t : Standing) (banks mid : List Meaning) → length r.state_runs ≤ k
    → AreStepped f (called_blocks (take (end_behind 0 (take k r.state_runs)) r.state_calls)) s t banks mid → AreStepped f (called_blocks r.state_calls) s t banks mid
runs_stepped f r frame ready k s t banks mid l done =
    let end : end_behind 0 (take k r.state_runs) ≡ length r.state_calls =
    ap (end_behind 0) (take_all k r.state_runs l) ∙ end_all 0 (length r.state_calls) r.state_runs (runs_joined f r frame ready) in
    subst (λ (cs : List Call). AreStepped f (called_blocks cs) s t banks mid) (take_all (end_behind 0 (take k r.state_runs)) r.state_calls (omega (arith, end))) done
