-- What the functions that do one run come to.
use Rattle.std.proofs.Common.{◌≡◌, ◌≢◌, ℕ, ◌+◌, ◌-◌, ◌<◌, ◌≤◌, true, false, cond, ◌↔◌, inl, inr, ⊎_elim, ℤ, List, [], ◌∷◌, length, get_or, take, drop, Contains, All, Option, refl, sym, ap, ap₂, subst, ◌∙◌, arith, true≢false}
use Rattle.std.specs.Prelude.{AllPairs}
use Rattle.std.proofs.lemmas.List.{length-map, get_or_default, length-take, length-drop}
use Rattle.std.proofs.lemmas.List.Elements.{All-contains}
use Rattle.sci_base.specs.declared.Ty.{Ty}
use Rattle.sci_base.specs.declared.observation.StopWord.{StopWord}
use Rattle.sci_forms.specs.declared.Kind.{Kind}
use Rattle.sci_net.specs.declared.Source.{Source}
use Rattle.sci_reaction.specs.Memory.{Columns}
use Rattle.sci_reaction.specs.Equations.{AreInRange}
use Rattle.sci_reaction.specs.Kept.{entries_of}
use Rattle.sci_reaction.specs.declared.entry.Entry.{Entry}
use Rattle.sci_reaction.proofs.Lists.{cons-Contains}
use Rattle.sci_span.specs.declared.place.Place.{Place}
use Rattle.sci_places.specs.Flat.{values_at}
use Rattle.sci_bank.specs.declared.runs.Call.{Call}
use Rattle.sci_bank.specs.declared.runs.Stuck.{Stuck}
use Rattle.sci_bank.specs.Bank.{Meaning}
use Rattle.sci_bank.specs.Library.{bank_of, with_bank}
use Rattle.sci_bank.specs.Runs.{run_of, calls_made, after_outs, EndsRun, MayRun, AreOfTypes, ArePlaced}
use Rattle.sci_store.specs.declared.marks.Mark.{Mark}
use Rattle.sci_store.specs.declared.row.Run.{Run}
use Rattle.sci_store.specs.Marks.{mark_at}
use Rattle.sci_store.specs.Frame.{Fixed, IsFrame, AreSeated}
use Rattle.sci_store.specs.Store.{Standing, IsStore}
use Rattle.sci_store.specs.Passed.{given, branch_of}
use Rattle.sci_store.specs.Rows.{ReadyRow, IsRowOf, IsAlone, IsMarked, marked, calls_in, call_of, run_calls, chosen_calls, between}
use Rattle.sci_store.specs.Runs.{IsCallIn, AreApart, AreOfKind, HasValues, AreValued, IsRunDone, IsSoundBehind}
use Rattle.sci_store.proofs.Few.{few_calls}
use Rattle.sci_store.proofs.Leveled.{kept, run_is, run_calls_are, between_long}
use Rattle.sci_store.proofs.Calling.{call_from, run_call_in, run_apart, run_kind, calls_blocks, row_pairs, one_each}
use Rattle.sci_store.proofs.Marking.{AreKnown, marked_long, marked_other, marked_here, chosen_known}
use Rattle.sci_store.proofs.Placing.{types_of, of_types, from_types, whole_of_types, are_placed, may_run}
use Rattle.sci_store.proofs.Running.{stop_told, run_done, seated_kept}

-- ---- a run of a row

module _ (f : Fixed) (frame : IsFrame f) (source : Source) (r : ReadyRow) (is : IsRowOf f source r) (run : Run) (there : Contains r.runs run) where
  -- where the run is guarded its calls are those that are chosen
  pub chosen_are : (marks : List Mark) → run.guarded ≡ true
      → chosen_calls marks (calls_in r run) (entries_of (between r.guarded run.entries (run.entries + (run.end - run.start)))) ≡ run_calls r run marks
  chosen_are marks on =
      ap (λ t. cond t (chosen_calls marks (calls_in r run) (entries_of (between r.guarded run.entries (run.entries + (run.end - run.start))))) (calls_in r run)) (sym on)

  pub whole_are : (marks : List Mark) → run.guarded ≡ false → calls_in r run ≡ run_calls r run marks
  whole_are marks off =
      ap (λ t. cond t (chosen_calls marks (calls_in r run) (entries_of (between r.guarded run.entries (run.entries + (run.end - run.start))))) (calls_in r run)) (sym off)

  pub calls_apart : AllPairs (λ (c d : Call). c.block ≢ d.block) (calls_in r run)
  calls_apart = row_pairs f frame source r is run there

  pub few_here : (s : Standing) → IsStore f s → length (calls_in r run) ≤ length s.chosen
  few_here s store =
      let few = few_calls (length s.marks) (calls_in r run) calls_apart (calls_blocks f frame source r is run there s store) in
      let a = store.marks in
      let b = store.chosen in
      omega (arith, few, a, b)

  -- done together none is done by itself
  pub none_alone : (marks : List Mark) → run.together ≡ true → All (λ (c : Call). IsAlone f c.block → ⊥) (run_calls r run marks)
  none_alone marks on k d l alone =
      let cs = run_calls r run marks in
      let c = get_or cs k d in
      let here = between (kept f source r is) run.start run.end in
      let x = call_from f marks here c (subst (λ ys. Contains ys c) (run_calls_are f source r is run there marks) (k, l, get_or_default cs k c d l)) in
      let told = All-contains (λ (e : Entry). (run.together ≡ false) ↔ IsAlone f e.block) here x.entry (run_is f source r is run there).alone_is x.there in
      true≢false (sym on ∙ told.1 (subst (IsAlone f) (ap (λ (y : Call). y.block) x.is) alone))

-- ---- marks that are set before the run

pub store_marked : (f : Fixed) (s t : Standing) (cs : List Call) → IsStore f s → t ≡ record s { marks = marked s.marks cs; chosen = t.chosen } → length t.chosen ≡ length s.chosen
    → IsStore f t
store_marked f s t cs store same long = record {
  values = ap (λ (x : Standing). length x.values) same ∙ store.values;
  cursors = ap (λ (x : Standing). length x.cursors) same ∙ store.cursors;
  marks = ap (λ (x : Standing). length x.marks) same ∙ (marked_long s.marks cs ∙ store.marks);
  room = subst (λ (x : Standing). f.layout.longest ≤ length x.room) (sym same) store.room;
  chosen = long ∙ store.chosen;
}

-- a run on a store whose calls are marked before is one on the store without these marks
module _ (f : Fixed) (i : Columns) (kind : Kind) (calls : List Call) (s mid t : Standing) (banks after : List Meaning) (stop : Option (ℕ × StopWord))
    (same : mid ≡ record s { marks = marked s.marks calls; chosen = mid.chosen }) (known : AreKnown s.marks calls) (pairs : AllPairs (λ (c d : Call). c.block ≢ d.block) calls) where
  marked_mid : (c : Call) → Contains calls c → IsMarked mid.marks c
  marked_mid c h =
      let m = ap (λ (x : Standing). mark_at x.marks c.block) same ∙ marked_here s.marks calls c known pairs h in
      record { active = ap (λ (x : Mark). x.active) m; mask = ap (λ (x : Mark). x.mask) m }

  given_mid : (b mask : ℕ) → given f i banks mid b mask ≡ given f i banks s b mask
  given_mid b mask = ap (λ (x : Standing). given f i banks x b mask) same

  branch_mid : (b : ℕ) → branch_of f mid b ≡ branch_of f s b
  branch_mid b = ap (λ (x : Standing). branch_of f x b) same

  has_mid : (c : Call) → HasValues f i banks mid t c → HasValues f i banks s t c
  has_mid c h = record {
    values = sym (given_mid c.block c.mask) ∙ h.values;
    marked = h.marked;
    branch = λ sync. h.branch sync ∙ branch_mid c.block;
  }

  valued_mid : (cs : List Call) → ((c : Call) → Contains cs c → Contains calls c) → AreValued f i banks mid t cs stop → AreValued f i banks s t cs stop
  valued_mid [] inside h = h
  valued_mid (c ∷ cs) inside h = ⊎_elim
      (λ has. inl (has_mid c has.0, valued_mid cs (λ d k. inside d (cons-Contains c cs d k)) has.1))
      (λ stuck. inr (
        record { word = stuck.0.word; is = stuck.0.is; gives = sym (given_mid c.block c.mask) ∙ stuck.0.gives },
        λ k d l old. let x = get_or (c ∷ cs) k d in stuck.1 k d l (marked_mid x (inside x (k, l, get_or_default (c ∷ cs) k x d l))),
      )) h

  pub done_marked : IsRunDone f i kind calls mid t banks after stop → IsRunDone f i kind calls s t banks after stop
  done_marked h = record {
    valued = valued_mid calls (λ c k. k) h.valued;
    others = λ b block out. let o = h.others b block out in (
      o.0 ∙ ap (λ (x : Standing). values_at f.net x.values b) same,
      o.1 ∙ (ap (λ (x : Standing). mark_at x.marks b) same ∙ marked_other s.marks calls b known out),
    );
    states = h.states;
    called = h.called;
    within = h.within;
    whole = h.whole;
    counted = h.counted;
    uncounted = h.uncounted;
    kept = (h.kept.0 ∙ ap (λ (x : Standing). x.cursors) same, h.kept.1 ∙ ap (λ (x : Standing). x.lines) same, h.kept.2 ∙ ap (λ (x : Standing). x.sum) same);
  }

-- ---- behind a run whose blocks are done together

module _ (f : Fixed) (frame : IsFrame f) (banks : List Meaning) (seated : AreSeated f banks) (kind : Kind) (calls : List Call) (in_net : All (IsCallIn f) calls)
    (of_kind : AreOfKind f kind calls) (together : All (λ (c : Call). IsAlone f c.block → ⊥) calls) (apart : AreApart f calls) (s t : Standing) (store : IsStore f s)
    (in_range : AreInRange f.net (values_at f.net s.values)) (same : t ≡ record s { values = t.values })
    (types : (ts : List Ty) → AreOfTypes ts s.values → ArePlaced (bank_of banks kind) f.layout.blocks ts calls → AreOfTypes ts t.values) where
  typed : AreOfTypes (types_of f.net) t.values
  typed = types (types_of f.net) (of_types f.net s.values store.values in_range) (are_placed f frame banks seated kind calls in_net of_kind together)

  pub ran_in_range : AreInRange f.net (values_at f.net t.values)
  ran_in_range = from_types f.net t.values typed

  pub ran_store : IsStore f t
  ran_store = record {
    values = whole_of_types f.net t.values typed;
    cursors = ap (λ (x : Standing). length x.cursors) same ∙ store.cursors;
    marks = ap (λ (x : Standing). length x.marks) same ∙ store.marks;
    room = subst (λ (x : Standing). f.layout.longest ≤ length x.room) (sym same) store.room;
    chosen = ap (λ (x : Standing). length x.chosen) same ∙ store.chosen;
  }

  module _ (i : Columns) (after : List Meaning) (o : Option Stuck) (marks : All (IsMarked s.marks) calls)
      (changed : after ≡ with_bank banks kind (after_outs (bank_of banks kind) (calls_made (length calls) (run_of (bank_of banks kind) f.layout.blocks calls s.values)))) where
    pub ran_sound : IsSoundBehind f t after
    ran_sound = record {
      store = ran_store;
      seated = subst (AreSeated f) (sym changed)
          (seated_kept f frame i banks seated kind calls in_net of_kind together apart s (calls_made (length calls) (run_of (bank_of banks kind) f.layout.blocks calls s.values)));
    }

    pub ran_done : EndsRun (run_of (bank_of banks kind) f.layout.blocks calls s.values) o t.values → IsRunDone f i kind calls s t banks after (stop_told o)
    ran_done ends =
        run_done f frame i banks seated kind calls in_net of_kind together apart s t o t.values after store ends changed refl
        (subst (λ (x : Standing). All (IsMarked x.marks) calls) (sym same) marks) (λ b out. ap (λ (x : Standing). mark_at x.marks b) same)
        (ap (λ (x : Standing). x.cursors) same) (ap (λ (x : Standing). x.lines) same) (ap (λ (x : Standing). x.sum) same)

-- ---- the same on what a call of the bank tells, of places, values and calls that are told otherwise

module _ (f : Fixed) (frame : IsFrame f) (banks : List Meaning) (seated : AreSeated f banks) (kind : Kind) (calls : List Call) (in_net : All (IsCallIn f) calls)
    (of_kind : AreOfKind f kind calls) (together : All (λ (c : Call). IsAlone f c.block → ⊥) calls) (apart : AreApart f calls) (s : Standing) (store : IsStore f s)
    (in_range : AreInRange f.net (values_at f.net s.values)) (places : List Place) (values : List ℤ) (cs : List Call) (places_are : places ≡ f.layout.blocks)
    (values_are : values ≡ s.values) (cs_are : cs ≡ calls) where
  pub may_call : MayRun (bank_of banks kind) places values cs
  may_call =
      subst (λ ps. MayRun (bank_of banks kind) ps values cs) (sym places_are)
      (subst (λ vs. MayRun (bank_of banks kind) f.layout.blocks vs cs) (sym values_are)
      (subst (λ ds. MayRun (bank_of banks kind) f.layout.blocks s.values ds) (sym cs_are)
      (may_run f frame banks seated kind calls s.values store.values in_range in_net of_kind together)))

  module _ (mid : Standing) (view_is : mid ≡ s) (vs new : List ℤ) (back : vs ≡ new)
      (types : (ts : List Ty) → AreOfTypes ts values → ArePlaced (bank_of banks kind) places ts cs → AreOfTypes ts new) where
    behind_is : record mid { values = vs } ≡ record s { values = new }
    behind_is = ap₂ (λ (x : Standing) (ws : List ℤ). record x { values = ws }) view_is back

    types_kept : (ts : List Ty) → AreOfTypes ts s.values → ArePlaced (bank_of banks kind) f.layout.blocks ts calls → AreOfTypes ts new
    types_kept ts typed placed =
        types ts (subst (AreOfTypes ts) (sym values_are) typed)
        (subst (λ ps. ArePlaced (bank_of banks kind) ps ts cs) (sym places_are) (subst (ArePlaced (bank_of banks kind) f.layout.blocks ts) (sym cs_are) placed))

    pub called_in_range : AreInRange f.net (values_at f.net vs)
    called_in_range =
        subst (λ ws. AreInRange f.net (values_at f.net ws)) (sym back)
        (ran_in_range f frame banks seated kind calls in_net of_kind together apart s (record s { values = new }) store in_range refl types_kept)

    module _ (i : Columns) (after : List Meaning) (o : Option Stuck) (marks : All (IsMarked s.marks) calls)
        (changed : after ≡ with_bank banks kind (after_outs (bank_of banks kind) (calls_made (length cs) (run_of (bank_of banks kind) places cs values)))) where
      runs_are : run_of (bank_of banks kind) places cs values ≡ run_of (bank_of banks kind) f.layout.blocks calls s.values
      runs_are =
          ap (λ ps. run_of (bank_of banks kind) ps cs values) places_are
          ∙ ap₂ (run_of (bank_of banks kind) f.layout.blocks) cs_are values_are

      changed_so : after ≡ with_bank banks kind (after_outs (bank_of banks kind) (calls_made (length calls) (run_of (bank_of banks kind) f.layout.blocks calls s.values)))
      changed_so = changed ∙ ap₂ (λ n e. with_bank banks kind (after_outs (bank_of banks kind) (calls_made n e))) (ap length cs_are) runs_are

      pub called_sound : IsSoundBehind f (record mid { values = vs }) after
      called_sound =
          subst (λ x. IsSoundBehind f x after) (sym behind_is)
          (ran_sound f frame banks seated kind calls in_net of_kind together apart s (record s { values = new }) store in_range refl types_kept i after o marks changed_so)

      pub called_done : (stop : Option (ℕ × StopWord)) → stop_told o ≡ stop → EndsRun (run_of (bank_of banks kind) places cs values) o new
          → IsRunDone f i kind calls s (record mid { values = vs }) banks after stop
      called_done stop told ends =
          subst (λ x. IsRunDone f i kind calls s x banks after stop) (sym behind_is)
          (subst (IsRunDone f i kind calls s (record s { values = new }) banks after) told
          (ran_done f frame banks seated kind calls in_net of_kind together apart s (record s { values = new }) store in_range refl types_kept i after o marks changed_so
          (subst (λ e. EndsRun e o new) runs_are ends)))

-- ---- the calls of a run and their entries lie in the row

module _ (f : Fixed) (frame : IsFrame f) (source : Source) (r : ReadyRow) (is : IsRowOf f source r) (run : Run) (there : Contains r.runs run) where
  pub run_order : run.start ≤ run.end
  run_order = let a = (run_is f source r is run there).some in omega (arith, a)

  pub run_some : run.start < run.end
  run_some = (run_is f source r is run there).some

  pub run_within : run.end ≤ length r.calls
  run_within =
      let a = (run_is f source r is run there).within in
      let b = ap length is.row.values.calls_are in
      let c = length-map (kept f source r is) (call_of f) in
      omega (arith, a, b, c)

  pub calls_long : length (calls_in r run) ≡ run.end - run.start
  calls_long = between_long r.calls run.start run.end run_order run_within

  pub entries_within : run.guarded ≡ true → run.entries + (run.end - run.start) ≤ length r.guarded
  entries_within on =
      let a = one_each f frame source r is run there on in
      let b = calls_long in
      let c = length-take ((run.entries + (run.end - run.start)) - run.entries) (drop run.entries r.guarded) in
      let d = length-drop run.entries r.guarded in
      let e = (run_is f source r is run there).some in
      omega (arith, a, b, c, d, e)

  -- the calls that are chosen, of calls and entries that are told otherwise
  pub chosen_from : (marks : List Mark) (all : List Call) (es : List Entry) (cs : List Call) → all ≡ r.calls → es ≡ r.guarded
      → cs ≡ chosen_calls marks (between all run.start run.end) (entries_of (between es run.entries (run.entries + length (between all run.start run.end))))
      → cs ≡ chosen_calls marks (calls_in r run) (entries_of (between r.guarded run.entries (run.entries + (run.end - run.start))))
  chosen_from marks all es cs all_is es_is h =
      h ∙ (ap₂ (λ (xs : List Call) (ys : List Entry). chosen_calls marks (between xs run.start run.end) (entries_of (between ys run.entries (run.entries + length (between xs run.start run.end))))) all_is es_is
      ∙ ap (λ (n : ℕ). chosen_calls marks (calls_in r run) (entries_of (between r.guarded run.entries (run.entries + n)))) calls_long)

  -- ---- a guarded run, behind the choice of its calls

  module _ (on : run.guarded ≡ true) (s mid : Standing) (store : IsStore f s) (count : ℕ) (rest : mid ≡ record s { marks = mid.marks; chosen = mid.chosen })
      (long : length mid.chosen ≡ length s.chosen) (marks : mid.marks ≡ marked s.marks (take count mid.chosen))
      (chosen : take count mid.chosen ≡ chosen_calls s.marks (calls_in r run) (entries_of (between r.guarded run.entries (run.entries + (run.end - run.start))))) where
    abbrev pub few : List Call
    few = take count mid.chosen

    few_are : few ≡ run_calls r run s.marks
    few_are = chosen ∙ chosen_are f frame source r is run there s.marks on

    pub few_in : All (IsCallIn f) few
    few_in = subst (All (IsCallIn f)) (sym few_are) (run_call_in f frame source r is run there s.marks)

    pub few_apart : AreApart f few
    few_apart = subst (AreApart f) (sym few_are) (run_apart f frame source r is run there s.marks)

    pub few_kind : AreOfKind f run.kind few
    few_kind = subst (AreOfKind f run.kind) (sym few_are) (run_kind f frame source r is run there s.marks)

    pub few_together : run.together ≡ true → All (λ (c : Call). IsAlone f c.block → ⊥) few
    few_together both = subst (All (λ (c : Call). IsAlone f c.block → ⊥)) (sym few_are) (none_alone f frame source r is run there s.marks both)

    known : AreKnown s.marks few
    known = subst (AreKnown s.marks) (sym chosen)
        (chosen_known s.marks s.marks (calls_in r run) (entries_of (between r.guarded run.entries (run.entries + (run.end - run.start))))
        (calls_blocks f frame source r is run there s store))

    same_mid : mid ≡ record s { marks = marked s.marks few; chosen = mid.chosen }
    same_mid = rest ∙ ap (λ ms. record s { marks = ms; chosen = mid.chosen }) marks

    pub mid_store : IsStore f mid
    mid_store = store_marked f s mid few store same_mid long

    pub mid_in_range : AreInRange f.net (values_at f.net s.values) → AreInRange f.net (values_at f.net mid.values)
    mid_in_range h = subst (λ (x : Standing). AreInRange f.net (values_at f.net x.values)) (sym rest) h

    pub mid_marked : All (IsMarked mid.marks) few
    mid_marked k d l =
        let c = get_or few k d in
        let m = ap (λ (x : Standing). mark_at x.marks c.block) same_mid ∙ marked_here s.marks few c known few_apart.once (k, l, get_or_default few k c d l) in
        record { active = ap (λ (x : Mark). x.active) m; mask = ap (λ (x : Mark). x.mask) m }

    module _ (i : Columns) (t : Standing) (banks after : List Meaning) (stop : Option (ℕ × StopWord)) where
      -- done on the marks with those of its calls, it is done on the marks before
      pub guarded_done : IsRunDone f i run.kind few mid t banks after stop
          → IsRunDone f i run.kind (chosen_calls s.marks (calls_in r run) (entries_of (between r.guarded run.entries (run.entries + (run.end - run.start))))) s t banks after stop
      guarded_done h =
          subst (λ cs. IsRunDone f i run.kind cs s t banks after stop) chosen
          (done_marked f i run.kind few s mid t banks after stop same_mid known few_apart.once h)
