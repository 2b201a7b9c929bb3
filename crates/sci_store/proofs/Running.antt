-- A run whose blocks are done together: each has the values that it gives on those at the beginning.
use Rattle.std.proofs.Common.{◌≡◌, ◌≢◌, ℕ, suc, ◌+◌, ◌<◌, ◌≤◌, min, false, cond, ◌⊎◌, inl, inr, ⊎_elim, ℤ, List, [], ◌∷◌, length, map, Contains, All, Option, Some, None, Ok, Err, refl, sym, ap, ap₂, subst, ◌∙◌, arith, true≢false}
use Rattle.std.specs.Prelude.{AllPairs}
use Rattle.std.proofs.lemmas.List.{length-set}
use Rattle.sci_base.specs.declared.observation.StopWord.{StopWord}
use Rattle.sci_base.specs.declared.observation.StopWord.TheVariants.{Overflow as ByOverflow, Zero as ByZero}
use Rattle.sci_forms.specs.declared.Kind.{Kind}
use Rattle.sci_forms.specs.Form.{is_sync, is_sensor}
use Rattle.sci_forms.specs.Ports.{total}
use Rattle.sci_kinds.specs.Table.{Answer, Values, NoFit, NoQuotient, out, state_len}
use Rattle.sci_kinds.proofs.Elements.{gathered_values}
use Rattle.sci_net.specs.Parts.{IsBlock, spec_of}
use Rattle.sci_reaction.specs.Memory.{Columns, next_value}
use Rattle.sci_reaction.specs.Equations.{input_in, all_inputs, sensed, values_or_word}
use Rattle.sci_reaction.proofs.Lists.{cons-Contains}
use Rattle.sci_span.specs.declared.place.Place.{Place}
use Rattle.sci_span.specs.Values.{gathered, overwritten}
use Rattle.sci_places.specs.Flat.{start_of, values_at, IsWhole}
use Rattle.sci_places.specs.Layout.{laid_down}
use Rattle.sci_places.proofs.Outputs.{outputs_law}
use Rattle.sci_places.proofs.Inputs.{inputs_law}
use Rattle.sci_pass.specs.State.{AreAlike, IsSameButState}
use Rattle.sci_bank.specs.declared.Fate.{Fate}
use Rattle.sci_bank.specs.declared.Fate.TheVariants.{Overflow, Zero}
use Rattle.sci_bank.specs.declared.runs.Call.{Call}
use Rattle.sci_bank.specs.declared.runs.Stuck.{Stuck}
use Rattle.sci_bank.specs.declared.instance.Instance.{Instance}
use Rattle.sci_bank.specs.Bank.{Meaning, row_at, spec_at, row_in, word_of}
use Rattle.sci_bank.specs.Library.{place_of, bank_of, with_bank, Holds}
use Rattle.sci_bank.specs.Runs.{place_in, answer_at, RunEnd, Went, StuckAt, later, behind, run_of, calls_made, after_outs, EndsRun}
use Rattle.sci_bank.proofs.LibraryLemmas.{Holds-full, in_order-with_bank}
use Rattle.sci_store.specs.Marks.{mark_at}
use Rattle.sci_store.specs.Frame.{Fixed, IsFrame, AreSeated, seat_of, instance_of}
use Rattle.sci_store.specs.Store.{Standing, IsStore, state_of, cursor_at}
use Rattle.sci_store.specs.Passed.{given}
use Rattle.sci_store.specs.Rows.{IsAlone, IsMarked}
use Rattle.sci_store.specs.Runs.{IsCallIn, AgreesBut, AreApart, AreOfKind, IsStuckAt, AreValued, IsRunDone, stop_by, stop_of}
use Rattle.sci_store.proofs.Updating.{other_bank, this_bank, same_kind, same_of_bank}
use Rattle.sci_store.proofs.Calling.{contains_map, map_contains}
use Rattle.sci_store.proofs.Placing.{alike_call, place_is, no_sensor_of, no_sync_of}

-- ---- what a run comes to

abbrev pub end_values : RunEnd → List ℤ
end_values (Went values) = values
end_values (StuckAt values n block fate) = values

abbrev pub stop_in : RunEnd → Option (ℕ × StopWord)
stop_in (Went values) = None
stop_in (StuckAt values n block fate) = stop_by block (word_of fate)

abbrev pub stop_told : Option Stuck → Option (ℕ × StopWord)
stop_told None = None
stop_told (Some stuck) = stop_of stuck

later_values : (e : RunEnd) → end_values (later e) ≡ end_values e
later_values (Went values) = refl
later_values (StuckAt values n block fate) = refl

later_stop : (e : RunEnd) → stop_in (later e) ≡ stop_in e
later_stop (Went values) = refl
later_stop (StuckAt values n block fate) = refl

pub ends_as : (e : RunEnd) (o : Option Stuck) (new : List ℤ) → EndsRun e o new → (end_values e ≡ new) × (stop_in e ≡ stop_told o)
ends_as (Went values) None new h = (sym h, refl)
ends_as (Went values) (Some stuck) new h = absurd h
ends_as (StuckAt values n block fate) None new h = absurd h
ends_as (StuckAt values n block fate) (Some stuck) new h = (sym h.0, ap₂ (λ b x. stop_by b (word_of x)) (sym h.1) (sym h.2))

module _ (f : Fixed) (frame : IsFrame f) (i : Columns) (banks : List Meaning) (seated : AreSeated f banks) (kind : Kind) (calls : List Call) (in_net : All (IsCallIn f) calls)
    (of_kind : AreOfKind f kind calls) (together : All (λ (c : Call). IsAlone f c.block → ⊥) calls) (apart : AreApart f calls) (s : Standing) where
  abbrev bank : Meaning
  bank = bank_of banks kind

  abbrev places : List Place
  places = f.layout.blocks

  abbrev blocks : List ℕ
  blocks = map (λ (c : Call). c.block) calls

  abbrev at_values : List ℤ → Standing
  at_values ws = record s { values = ws }

  -- a call of the run
  pub record IsOne (c : Call) : Type 0 where
    pub there : Contains calls c
    pub call : IsCallIn f c
    pub kind_is : (seat_of f c.block).kind ≡ kind
    pub not_alone : IsAlone f c.block → ⊥

  pub one_of : (c : Call) → Contains calls c → IsOne c
  one_of c h = record {
    there = h;
    call = subst (IsCallIn f) h.2 (in_net h.0 c h.1);
    kind_is = subst (λ (d : Call). (seat_of f d.block).kind ≡ kind) h.2 (of_kind h.0 c h.1);
    not_alone = subst (λ (d : Call). IsAlone f d.block → ⊥) h.2 (together h.0 c h.1);
  }

  module _ (c : Call) (one : IsOne c) where
    alike : AreAlike (spec_of f.net c.block) (spec_at bank c.slot)
    alike = alike_call f frame banks seated kind c one.call one.kind_is

    place_here : place_in places c.block ≡ laid_down f.net c.block
    place_here = place_is f frame banks seated c.block one.call.block

    off : is_sensor (spec_of f.net c.block).kind ≡ false
    off = ap is_sensor (sym (frame.seated c.block one.call.block).kind) ∙ no_sensor_of f c.block one.not_alone

    state_here : (row_at bank c.slot).state ≡ state_of f banks c.block
    state_here =
        subst (λ k. (row_at (bank_of banks k) c.slot).state ≡ state_of f banks c.block) one.kind_is
        (subst (λ slot. (row_at (bank_of banks (seat_of f c.block).kind) slot).state ≡ state_of f banks c.block) (sym one.call.slot) refl)

    -- what is given is what the bank answers
    pub given_run : (ws : List ℤ) → IsWhole f.net ws → given f i banks (at_values ws) c.block c.mask ≡ values_or_word (answer_at bank places c ws)
    given_run ws whole =
        let b = c.block in
        let spec = spec_of f.net b in
        let ins = all_inputs spec (input_in f.net (values_at f.net ws) b) in
        let read : gathered ws (place_in places b).ins ≡ ins =
        ap (λ (p : Place). gathered ws p.ins) place_here ∙ inputs_law.same f.net ws b frame.net whole one.call.block in
        ap (λ t. cond t (sensed spec (state_of f banks b) c.mask (next_value i spec (cursor_at s b))) (values_or_word (out spec (state_of f banks b) c.mask ins))) off
        ∙ ap values_or_word (alike.out (state_of f banks b) c.mask ins
        ∙ (ap (λ x. out (spec_at bank c.slot) x c.mask ins) (sym state_here) ∙ ap (out (spec_at bank c.slot) (row_at bank c.slot).state c.mask) (sym read)))

    pub long_values : (ws vs : List ℤ) → answer_at bank places c ws ≡ Values vs → length vs ≡ total (spec_of f.net c.block).outs
    long_values ws vs h = (gathered_values _ _ vs h).0 ∙ ap total (sym alike.outs)

  -- ---- call by call

  -- the values at the end, up to the first call without
  abbrev GoesTo : List ℤ → List Call → Option (ℕ × StopWord) → Type 0
  GoesTo new [] stop = stop ≡ None
  GoesTo new (c ∷ cs) stop = ((given f i banks s c.block c.mask ≡ Ok (values_at f.net new c.block)) × GoesTo new cs stop) ⊎ IsStuckAt f i banks s c stop

  pub record IsRan (cs : List Call) (ws : List ℤ) (e : RunEnd) : Type 0 where
    pub whole : IsWhole f.net (end_values e)
    pub others : (b : ℕ) → IsBlock f.net b → (Contains (map (λ (c : Call). c.block) cs) b → ⊥) → values_at f.net (end_values e) b ≡ values_at f.net ws b
    pub goes : GoesTo (end_values e) cs (stop_in e)
    pub within : calls_made (length cs) e ≤ length cs
    pub all : stop_in e ≡ None → calls_made (length cs) e ≡ length cs

  -- the values so far agree with those at the beginning but for blocks of the run
  abbrev AgreesSoFar : List ℤ → Type 0
  AgreesSoFar ws = (b : ℕ) → IsBlock f.net b → (Contains blocks b → ⊥) → values_at f.net ws b ≡ values_at f.net s.values b

  agree_of : (ws : List ℤ) → AgreesSoFar ws → AgreesBut f blocks s (at_values ws)
  agree_of ws h = record { cursors = refl; values = h }

  given_here : (c : Call) → IsOne c → (ws : List ℤ) → IsWhole f.net ws → AgreesSoFar ws → given f i banks s c.block c.mask ≡ values_or_word (answer_at bank places c ws)
  given_here c one ws whole agree = apart.alike i banks s (at_values ws) c one.there (agree_of ws agree) ∙ given_run c one ws whole

  made_later : (n : ℕ) (e : RunEnd) → calls_made n e ≤ n → calls_made (suc n) (later e) ≤ suc n
  made_later n (Went values) h = omega arith
  made_later n (StuckAt values k block fate) h = omega (arith, h)

  all_later : (n : ℕ) (e : RunEnd) → (stop_in e ≡ None → calls_made n e ≡ n) → stop_in (later e) ≡ None → calls_made (suc n) (later e) ≡ suc n
  all_later n (Went values) h none = refl
  all_later n (StuckAt values k block fate) h none = let same = h none in omega (arith, same)

  -- the places of its outputs
  start_here : (c : Call) → IsOne c → (place_in places c.block).outs.start ≡ start_of f.net c.block
  start_here c one = ap (λ (p : Place). p.outs.start) (place_here c one)

  module _ (c : Call) (cs : List Call) (ws : List ℤ) (one : IsOne c) (fresh : Contains (map (λ (d : Call). d.block) cs) c.block → ⊥) (whole : IsWhole f.net ws)
      (agree : AgreesSoFar ws) where
    module _ (vs : List ℤ) (answers : answer_at bank places c ws ≡ Values vs) where
      abbrev pub next : List ℤ
      next = overwritten ws (place_in places c.block).outs.start vs

      next_is : next ≡ overwritten ws (start_of f.net c.block) vs
      next_is = ap (λ k. overwritten ws k vs) (start_here c one)

      long : length vs ≡ total (spec_of f.net c.block).outs
      long = long_values c one ws vs answers

      pub whole_next : IsWhole f.net next
      whole_next = subst (IsWhole f.net) (sym next_is) (outputs_law.whole f.net ws vs c.block whole one.call.block long)

      other_next : (b : ℕ) → IsBlock f.net b → c.block ≢ b → values_at f.net next b ≡ values_at f.net ws b
      other_next b block ne = ap (λ xs. values_at f.net xs b) next_is ∙ outputs_law.kept f.net ws vs c.block b whole one.call.block block ne long

      here_next : values_at f.net next c.block ≡ vs
      here_next = ap (λ xs. values_at f.net xs c.block) next_is ∙ outputs_law.written f.net ws vs c.block whole one.call.block long

      called_here : Contains blocks c.block
      called_here = contains_map (λ (d : Call). d.block) calls c one.there

      pub agree_next : AgreesSoFar next
      agree_next b block out = other_next b block (λ same. out (subst (Contains blocks) same called_here)) ∙ agree b block out

      pub then_ran : (e : RunEnd) → IsRan cs next e → IsRan (c ∷ cs) ws (later e)
      then_ran e r = record {
        whole = subst (IsWhole f.net) (sym (later_values e)) r.whole;
        others = λ b block out. ap (λ xs. values_at f.net xs b) (later_values e)
            ∙ (r.others b block (λ h. out (cons-Contains c.block (map (λ (d : Call). d.block) cs) b h))
            ∙ other_next b block (λ same. out (0, omega arith, same)));
        goes = inl (
          (given_here c one ws whole agree ∙ (ap values_or_word answers
              ∙ ap Ok (sym (ap (λ xs. values_at f.net xs c.block) (later_values e) ∙ (r.others c.block one.call.block fresh ∙ here_next))))),
          subst (λ xs. GoesTo xs cs (stop_in (later e))) (sym (later_values e)) (subst (GoesTo (end_values e) cs) (sym (later_stop e)) r.goes),
        );
        within = made_later (length cs) e r.within;
        all = all_later (length cs) e r.all;
      }

    stuck_here : (fate : Fate) (word : StopWord) → word_of fate ≡ Some word → values_or_word (answer_at bank places c ws) ≡ Err word → IsRan (c ∷ cs) ws (StuckAt ws 0 c.block fate)
    stuck_here fate word is answers = record {
      whole = whole;
      others = λ b block out. refl;
      goes = inr (record { word = word; is = ap (stop_by c.block) is; gives = given_here c one ws whole agree ∙ answers });
      within = omega arith;
      all = λ none. let told = ap (stop_by c.block) is in cc;
    }

    pub ran_by : (a : Answer) → answer_at bank places c ws ≡ a → ((vs : List ℤ) → (answers : answer_at bank places c ws ≡ Values vs) → IsRan cs (next vs answers) (run_of bank places cs (next vs answers)))
        → IsRan (c ∷ cs) ws (behind (run_of bank places cs) c (place_in places c.block) ws a)
    ran_by (Values vs) answers rest = then_ran vs answers (run_of bank places cs (next vs answers)) (rest vs answers)
    ran_by NoFit answers rest = stuck_here Overflow ByOverflow refl (ap values_or_word answers)
    ran_by NoQuotient answers rest = stuck_here Zero ByZero refl (ap values_or_word answers)

  pub ran : (cs : List Call) (ws : List ℤ) → ((c : Call) → Contains cs c → IsOne c) → AllPairs (λ (c d : Call). c.block ≢ d.block) cs → IsWhole f.net ws → AgreesSoFar ws
      → IsRan cs ws (run_of bank places cs ws)
  ran [] ws ones pairs whole agree = record { whole = whole; others = λ b block out. refl; goes = refl; within = omega arith; all = λ none. refl }
  ran (c ∷ cs) ws ones pairs whole agree =
      let one = ones c (0, omega arith, refl) in
      let fresh : Contains (map (λ (d : Call). d.block) cs) c.block → ⊥ = λ h.
      let d = map_contains (λ (x : Call). x.block) cs c.block h in
      pairs 0 (suc d.1.0) d.0 (omega arith) (let l = d.1.1 in omega (arith, l)) (sym d.2 ∙ ap (λ (x : Call). x.block) (sym d.1.2)) in
      let rest_pairs : AllPairs (λ (c d : Call). c.block ≢ d.block) cs = λ j k d l m. pairs (suc j) (suc k) d (omega (arith, l)) (omega (arith, m)) in
      ran_by c cs ws one fresh whole agree (answer_at bank places c ws) refl
      (λ vs answers. ran cs (next c cs ws one fresh whole agree vs answers) (λ d h. ones d (cons-Contains c cs d h)) rest_pairs
      (whole_next c cs ws one fresh whole agree vs answers) (agree_next c cs ws one fresh whole agree vs answers))

  -- ---- the whole run

  -- the banks behind so many calls
  module _ (n : ℕ) where
    abbrev pub banks_behind : List Meaning
    banks_behind = with_bank banks kind (after_outs bank n)

    there : Holds banks kind
    there = Holds-full banks kind seated.full

    rows_behind : (k : Kind) → (bank_of banks_behind k).rows ≡ (bank_of banks k).rows
    rows_behind k = same_of_bank (λ (m : Meaning). m.rows) banks kind k (after_outs bank n) seated.full refl

    pub instance_kept : (b : ℕ) → instance_of f banks_behind b ≡ instance_of f banks b
    instance_kept b = ap (λ (rows : List Instance). row_in rows (seat_of f b).slot) (rows_behind (seat_of f b).kind)

    pub states_kept : (b : ℕ) → IsBlock f.net b → state_of f banks_behind b ≡ state_of f banks b
    states_kept b block = ap (λ (r : Instance). r.state) (instance_kept b)

    counted_here : (bank_of banks_behind kind).outs ≡ min (bank.outs + n) 18446744073709551615
    counted_here = ap (λ (m : Meaning). m.outs) (this_bank banks kind kind (after_outs bank n) there refl)

    uncounted_here : (k : Kind) → k ≢ kind → (bank_of banks_behind k).outs ≡ (bank_of banks k).outs
    uncounted_here k ne = ap (λ (m : Meaning). m.outs) (other_bank banks kind k (after_outs bank n) (λ same. ne (same_kind banks kind k seated.in_order seated.full same)))

    pub seated_kept : AreSeated f banks_behind
    seated_kept = record {
      full = length-set banks (place_of kind) (after_outs bank n) ∙ seated.full;
      in_order = in_order-with_bank banks banks_behind kind (after_outs bank n) there refl refl seated.in_order;
      known = λ c h. subst (λ (rows : List Instance). (seat_of f c).slot < length rows) (sym (rows_behind (seat_of f c).kind)) (seated.known c h);
      specs = λ c h. subst (λ (r : Instance). IsSameButState (spec_of f.net c) r.spec) (sym (instance_kept c)) (seated.specs c h);
      lengths = λ c h. seated.lengths c h ∙ ap (λ (r : Instance). state_len r.spec) (sym (instance_kept c));
      apart = seated.apart;
    }

  valued_from : (t : Standing) (cs : List Call) (stop : Option (ℕ × StopWord)) → ((c : Call) → Contains cs c → IsOne c) → All (IsMarked t.marks) cs → GoesTo t.values cs stop
      → AreValued f i banks s t cs stop
  valued_from t [] stop ones marks h = h
  valued_from t (c ∷ cs) stop ones marks h =
      let one = ones c (0, omega arith, refl) in
      ⊎_elim
      (λ has. inl (
        record {
          values = has.0;
          marked = marks 0 c (omega arith);
          branch = λ sync. absurd (true≢false (sym (ap is_sync (frame.seated c.block one.call.block).kind ∙ sync) ∙ no_sync_of f c.block one.not_alone));
        },
        valued_from t cs stop (λ d there. ones d (cons-Contains c cs d there)) (λ k d l. marks (suc k) d (omega (arith, l))) has.1,
      ))
      (λ stuck. inr (stuck, λ k d l old. marks k d l)) h

  pub run_done : (t : Standing) (o : Option Stuck) (new : List ℤ) (after : List Meaning) → IsStore f s → EndsRun (run_of bank places calls s.values) o new
      → after ≡ with_bank banks kind (after_outs bank (calls_made (length calls) (run_of bank places calls s.values)))
      → t.values ≡ new → All (IsMarked t.marks) calls → ((b : ℕ) → (Contains blocks b → ⊥) → mark_at t.marks b ≡ mark_at s.marks b)
      → t.cursors ≡ s.cursors → t.lines ≡ s.lines → t.sum ≡ s.sum → IsRunDone f i kind calls s t banks after (stop_told o)
  run_done t o new after store ends changed values marks others cursors lines sum =
      let e = run_of bank places calls s.values in
      let told = ends_as e o new ends in
      let r = ran calls s.values one_of apart.once store.values (λ b block out. refl) in
      let final : end_values e ≡ t.values = told.0 ∙ sym values in
      let n = calls_made (length calls) e in
      subst (λ bs. IsRunDone f i kind calls s t banks bs (stop_told o)) (sym changed)
      (record {
        valued = valued_from t calls (stop_told o) one_of marks (subst (λ xs. GoesTo xs calls (stop_told o)) final (subst (GoesTo (end_values e) calls) told.1 r.goes));
        others = λ b block out. (ap (λ xs. values_at f.net xs b) (sym final) ∙ r.others b block out, others b out);
        states = states_kept n;
        called = n;
        within = r.within;
        whole = λ none. r.all (told.1 ∙ none);
        counted = λ small. counted_here n;
        uncounted = uncounted_here n;
        kept = (cursors, lines, sum);
      })
