-- What follows the pass of a reaction: from the memory at the pass's end to the one behind the reaction.
use Rattle.std.proofs.Common.{◌≡◌, ℕ, zero, suc, ◌+◌, ◌≤◌, ◌<◌, ◌^◌, List, [], ◌∷◌, drop, Some, Bool, true, false, if◌then◌else◌, refl, sym, ap, ◌∙◌, subst, arith, ℤ, pos, true≢false, ⊎_elim}
use Rattle.std.specs.Prelude.{◌||◌}
use Rattle.std.proofs.lemmas.List.{append-nil}
use Rattle.sci_base.specs.declared.observation.Obs.{Obs}
use Rattle.sci_base.specs.Lists.{at}
use Rattle.sci_forms.specs.declared.Kind.{Kind}
use Rattle.sci_forms.specs.declared.Kind.TheVariants.{Dollar, Register, ModuloCount, GatedDelay}
use Rattle.sci_forms.specs.declared.spec.Spec.{Spec}
use Rattle.sci_kinds.specs.Table.{next_of}
use Rattle.sci_kinds.proofs.Elements.{listed_at}
use Rattle.sci_net.specs.declared.Source.{Source}
use Rattle.sci_net.specs.Parts.{Parts, IsBlock, numbered, spec_of, column_of}
use Rattle.sci_forms.specs.Form.{is_sensor}
use Rattle.sci_net.specs.Net.{IsNet}
use Rattle.sci_net.specs.Sources.{source_of}
use Rattle.sci_reaction.specs.Memory.{Memory, Columns, IsMemory}
use Rattle.sci_reaction.specs.Equations.{Signals, Active, input_in, all_inputs}
use Rattle.sci_reaction.specs.Result.{Whole, IsResult}
use Rattle.sci_reaction.specs.Next.{IsNextMemory, IsUpdated, Stays}
use Rattle.sci_reaction.specs.Schedule.{Entry, IsRow}
use Rattle.sci_reaction.specs.Pass.{Progress}
use Rattle.sci_reaction.proofs.Next.{some_next}
use Rattle.sci_reaction.proofs.Steps.{pass_ends}
use Rattle.sci_pass.proofs.Stays.{applied_are_active}
use Rattle.sci_run.specs.Activity.{Activity, halts}
use Rattle.sci_run.specs.Observed.{header, blocks_seen}
use Rattle.sci_run.specs.Programs.{next_pending}
use Rattle.sci_run.specs.Run.{State, after_reaction, Reacts}
use Rattle.c_ast.specs.declared.Name.{Name}
use Rattle.c_ast.specs.Syntax.{Block}
use Rattle.c_mean.specs.Meaning.{World, truth, Around, Ran, going, behind, run_block}
use Rattle.c_mean.specs.Places.{get, is_scratch}
use Rattle.c_mean.specs.Texts.{assigns_only, joined, upto}
use Rattle.c_mean.specs.Runs.{Leads, LeftAlone}
use Rattle.c_mean.proofs.Steps.{number_after, run_joined, then_seen, joined_leads, leads_as, done_leads}
use Rattle.c_mean.proofs.Frames.{alone_all, alone_then}
use Rattle.sci_due.specs.Due.{now as now_name, dates, orders, last, fresh, firsts, is_programming}
use Rattle.sci_due.specs.Laws.{ShowsPending, AreOfPorts}
use Rattle.sci_due.proofs.Shown.{pending_same}
use Rattle.sci_cgen_blocks.specs.Texts.{states}
use Rattle.sci_program.specs.declared.part.Part.{Part}
use Rattle.sci_program.specs.Names.{actives, branches, halt_name, limit_name, until_name}
use Rattle.sci_program.specs.Program.{port_count, each_port, each_block, has_halt, values_shown, delay_text, state_text, halt_text, settle_text, has_loop}
use Rattle.sci_program.specs.Shows.{ShowsValues, ShowsStates, ShowsActive, ShowsColumns, ShowsBounds, ShowsState, is_worked, ShowsPass}
use Rattle.sci_program.specs.Passes.{cursors, HasPassed}
use Rattle.sci_program_laws.proofs.Observing.{values_told}
use Rattle.sci_program.proofs.Staying.{neither, values_stay, states_stay, active_stays, bounds_stay, pending_stays, room_stays}
use Rattle.sci_program_laws.proofs.Delays.{delays_lead}
use Rattle.sci_program_laws.proofs.Counting.{AreCounts}
use Rattle.sci_program.proofs.States.{AreNext, is_stating, states_lead, state_size}
use Rattle.sci_program_laws.proofs.Halts.{is_halting, halts_lead}

-- the state, with the date of the reaction
abbrev pub at_date : ℕ → State → State
at_date date st = record st { now = date }

-- A reaction with values is done: behind these observations, which follow its header, the run goes on from the memory behind it.
pub record Settles (n : Parts) (scratch : ℕ) (i : Columns) (until limit date : ℕ) (s : Source) (st : State) (r : Ran) : Type 0 where
  pub after : State
  pub seen : List Obs
  pub to : World
  pub is : r ≡ record { seen = seen; how = going to }
  pub reacts : Reacts n i date s st after (header date s ∷ seen)
  pub holds : ShowsState n scratch i until limit after to

-- ---- names

-- what is assigned behind a pass
abbrev is_settling : Name → Bool
is_settling x = is_programming x || (is_stating x || is_halting x)

alone_wider : (names wide : Name → Bool) (w w' : World) → ((x : Name) → wide x ≡ false → names x ≡ false) → LeftAlone (assigns_only names) w w'
    → LeftAlone (assigns_only wide) w w'
alone_wider names wide w w' h alone = record { same = λ x j q. alone.same x j (h x q); there = alone.there; left = λ q. alone.left refl }

-- the next state doesn't depend on the mask
next_unmasked : (c : Kind) (s : Spec) (x : List ℤ) (m : ℕ) (u : List ℤ) (i : ℕ) → next_of c s x m u i ≡ next_of c s x 0 u i
next_unmasked Dollar s x m u i = refl
next_unmasked Register s x m u i = refl
next_unmasked ModuloCount s x m u i = refl
next_unmasked GatedDelay s x m u i = refl
next_unmasked _ s x m u i = refl

module _ (env : Around) (n : Parts) (net : IsNet n) (scratch : ℕ) (i : Columns) (until limit date : ℕ) (s : Source) (st : State) (row : List Entry)
    (loops : has_loop n ≡ true → 1 ≤ scratch) (before w : World) (asked told : ℕ → Bool) (part : ℕ → Part) (row_is : IsRow n s row) (in_range : IsMemory n st.memory) (counts : AreCounts n st.memory)
    (shows : ShowsState n scratch i until limit (at_date date st) before)
    (halted : halts n st.active ≡ false) (soon : date ≤ 2 ^ 62) (small : suc (st.pending.programmed + port_count n) < 2 ^ 63)
    (ports : AreOfPorts (port_count n) st.pending.events) (passed : HasPassed n scratch i asked told st.memory s row before w)
    (acting : ShowsActive n part passed.found.applied w) (memory : Memory) (next : IsNextMemory n st.memory s passed.found.values memory) where
  abbrev y : Signals
  y = passed.found.values

  abbrev active : Activity
  active = passed.found.applied

  -- ---- the memory behind the reaction

  result : IsResult n st.memory i s (Whole y)
  result = pass_ends n st.memory i s row passed.found row_is passed.front

  is_active : (b : ℕ) → active b ≡ true → Active n s y b
  is_active b = (applied_are_active n st.memory i s row passed.found b row_is passed.front).0

  is_idle : (b : ℕ) → active b ≡ false → Active n s y b → ⊥
  is_idle b off on = true≢false (sym ((applied_are_active n st.memory i s row passed.found b row_is passed.front).1 on) ∙ off)

  nexts : AreNext n y active st.memory.state memory.state
  nexts = record {
    taken = λ b k block on has l. ⊎_elim (λ (u : IsUpdated n st.memory s y memory b).
        ap (λ (v : List ℤ). at v k) u.state
        ∙ ((listed_at (next_of (spec_of n b).kind (spec_of n b) (st.memory.state b) u.mask (all_inputs (spec_of n b) (input_in n y b))) (state_size n b)).1 k l
        ∙ next_unmasked (spec_of n b).kind (spec_of n b) (st.memory.state b) u.mask (all_inputs (spec_of n b) (input_in n y b)) k))
        (λ (r : Stays n st.memory s y memory b). absurd (r.idle (is_active b on))) (next b block);
    kept = λ b block off. ⊎_elim (λ (u : IsUpdated n st.memory s y memory b). absurd (is_idle b off u.active))
        (λ (r : Stays n st.memory s y memory b). r.state) (next b block);
  }

  held_is : (b : ℕ) → IsBlock n b → memory.held b ≡ y b
  held_is b block =
      ⊎_elim (λ (u : IsUpdated n st.memory s y memory b). u.held)
      (λ (r : Stays n st.memory s y memory b). r.held ∙ ⊎_elim (λ g. absurd (r.idle g.active)) (λ h. sym h.held) (result b block)) (next b block)

  cursor_is : (b : ℕ) → IsBlock n b → cursors n st.memory active b ≡ memory.cursor b
  cursor_is b block = by_case (active b) refl
    where
      by_case : (t : Bool) → active b ≡ t
          → (if t then (if is_sensor (spec_of n b).kind then st.memory.cursor b + 1 else st.memory.cursor b) else st.memory.cursor b) ≡ memory.cursor b
      by_case true on =
          ⊎_elim (λ (u : IsUpdated n st.memory s y memory b). sym u.cursor) (λ (r : Stays n st.memory s y memory b). absurd (r.idle (is_active b on)))
          (next b block)
      by_case false off =
          ⊎_elim (λ (u : IsUpdated n st.memory s y memory b). absurd (is_idle b off u.active)) (λ (r : Stays n st.memory s y memory b). sym r.cursor)
          (next b block)

  -- ---- the memory at the pass's end

  kept : (x : Name) (k : ℕ) → is_worked x ≡ false → get w x k ≡ get before x k
  kept x k h = passed.shows.kept x k h

  states_there : ShowsStates n st.memory.state w
  states_there = record { each = λ b k block l. kept states _ refl ∙ shows.states.each b k block l }

  pending_there : 1 ≤ port_count n → ShowsPending (port_count n) st.pending w
  pending_there some =
      pending_same (port_count n) st.pending before w (λ i. kept dates i refl) (λ i. kept orders i refl) (kept last 0 refl)
      (λ g. kept fresh g refl) (λ g. kept firsts g refl) (shows.pending some)

  bounds_there : ShowsBounds n until limit w
  bounds_there = record { events = kept limit_name 0 refl ∙ shows.bounds.events; time = λ l. kept until_name 0 refl ∙ shows.bounds.time l }

  -- ---- ports, states and the flag

  -- ports are programmed, where there are some
  record HasDelays (w' : World) : Type 0 where
    pub alone : LeftAlone (assigns_only is_programming) w w'
    pub pending : 1 ≤ port_count n → ShowsPending (port_count n) (next_pending n date y active st.pending) w'

  ports_lead : (k : ℕ) → Leads (run_block env k (each_port (λ k. delay_text n part k (source_of n k)) n) w) HasDelays
  ports_lead k = by_count (port_count n) refl
    where
      text : ℕ → Block
      text j = upto (λ m. delay_text n part (suc m) (source_of n (suc m))) j

      by_count : (j : ℕ) → port_count n ≡ j → Leads (run_block env k (text (port_count n)) w) HasDelays
      by_count zero e =
          subst (λ (j : ℕ). Leads (run_block env k (text j) w) HasDelays) (sym e)
          (done_leads env k w (record { alone = alone_all (assigns_only is_programming) w; pending = λ l. absurd (omega (arith, e, l)) }))
      by_count (suc j) e =
          let some : 1 ≤ port_count n = omega (arith, e) in
          leads_as (run_block env k (text (port_count n)) w) (λ w' h. record { alone = h.rest; pending = λ l. h.pending })
          (delays_lead env n net scratch date st.memory.state y part active st.pending w passed.in_range passed.shows.values states_there passed.shows.room
          acting ports soon small some (pending_there some) (kept now_name 0 refl ∙ shows.now some) k)

  flag_clear : has_halt n ≡ true → get w halt_name 0 ≡ Some (pos 0)
  flag_clear h = kept halt_name 0 refl ∙ (shows.halt h ∙ ap (λ (t : Bool). Some (truth t)) halted)

  abbrev after : State
  after = after_reaction n date st y active memory

  module _ (w1 w2 w3 : World) (one : HasDelays w1) (two : LeftAlone (assigns_only is_stating) w1 w2) (states_are : ShowsStates n memory.state w2)
      (three : LeftAlone (assigns_only is_halting) w2 w3) (flag : has_halt n ≡ true → get w3 halt_name 0 ≡ Some (truth (halts n active))) where
    all : LeftAlone (assigns_only is_settling) w w3
    all =
        alone_then (assigns_only is_settling) w w1 w3
        (alone_wider is_programming is_settling w w1 (λ x h. (neither (is_programming x) _ h).0) one.alone)
        (alone_then (assigns_only is_settling) w1 w2 w3
        (alone_wider is_stating is_settling w1 w2 (λ x h. (neither (is_stating x) _ (neither (is_programming x) _ h).1).0) two)
        (alone_wider is_halting is_settling w2 w3 (λ x h. (neither (is_stating x) _ (neither (is_programming x) _ h).1).1) three))

    values_behind : ShowsValues n memory.held w3
    values_behind = record {
      each = λ b e block l. (values_stay is_settling w w3 all n y refl passed.shows.values).each b e block l
          ∙ ap (λ (v : List ℤ). Some (at v e)) (sym (held_is b block));
    }

    columns_behind : ShowsColumns n i memory.cursor w3
    columns_behind = record {
      each = λ b sensor. ap (λ (left : List (List ℤ)). numbered [] left (column_of (spec_of n b))) (all.left refl)
          ∙ (passed.shows.columns.each b sensor ∙ ap (λ (c : ℕ). drop c (numbered [] i (column_of (spec_of n b)))) (cursor_is b sensor.block));
    }

    pending_behind : 1 ≤ port_count n → ShowsPending (port_count n) after.pending w3
    pending_behind some =
        pending_stays is_halting w2 w3 three (port_count n) after.pending refl refl refl refl refl
        (pending_stays is_stating w1 w2 two (port_count n) after.pending refl refl refl refl refl (one.pending some))

    shows_behind : ShowsState n scratch i until limit after w3
    shows_behind = record {
      held = values_behind;
      states = states_stay is_halting w2 w3 three n memory.state refl states_are;
      columns = columns_behind;
      pending = pending_behind;
      now = λ some. all.same now_name 0 refl ∙ (kept now_name 0 refl ∙ shows.now some);
      halt = flag;
      bounds = bounds_stay is_settling w w3 all n until limit refl refl bounds_there;
      room = room_stays is_settling w w3 all n scratch passed.shows.room;
    }

  rest_leads : (k : ℕ) → Leads (run_block env k
      (joined (each_port (λ k. delay_text n part k (source_of n k)) n) (joined (each_block (state_text n part) n) (each_block (halt_text n part) n))) w)
      (ShowsState n scratch i until limit after)
  rest_leads k =
      joined_leads (λ r. Leads r (ShowsState n scratch i until limit after)) env k (each_port (λ k. delay_text n part k (source_of n k)) n)
      (joined (each_block (state_text n part) n) (each_block (halt_text n part) n)) w (ports_lead k) (λ k1 w1 one.
      let acts = active_stays is_programming w w1 one.alone n part active refl refl acting in
      joined_leads (λ r. Leads r (ShowsState n scratch i until limit after)) env k1 (each_block (state_text n part) n) (each_block (halt_text n part) n) w1
      (states_lead env n net scratch loops st.memory.state memory.state y part active passed.in_range in_range.states counts nexts w1
      (values_stay is_programming w w1 one.alone n y refl passed.shows.values) acts
      (room_stays is_programming w w1 one.alone n scratch passed.shows.room)
      (states_stay is_programming w w1 one.alone n st.memory.state refl states_there) k1) (λ k2 w2 two.
      leads_as (run_block env k2 (each_block (halt_text n part) n) w2) (λ w3 three. shows_behind w1 w2 w3 one two.0 two.1 three.0 three.1)
      (halts_lead env n part active w2 (active_stays is_stating w1 w2 two.0 n part active refl refl acts)
      (λ h. two.0.same halt_name 0 refl ∙ (one.alone.same halt_name 0 refl ∙ flag_clear h)) k2)))

-- Where nothing but scratch has changed, a memory shows the same pass.
passed_stays : (n : Parts) (scratch : ℕ) (i : Columns) (asked told : ℕ → Bool) (cursor : ℕ → ℕ) (g : Progress) (before w v : World)
    → LeftAlone (assigns_only is_scratch) w v → ShowsPass n scratch i asked told cursor g before w → ShowsPass n scratch i asked told cursor g before v
passed_stays n scratch i asked told cursor g before w v same p = record {
  values = values_stay is_scratch w v same n g.values refl p.values;
  marks = record { each = λ b block is. same.same actives _ refl ∙ p.marks.each b block is };
  branches = record { each = λ b block is sync. same.same branches _ refl ∙ p.branches.each b block is sync };
  columns = record {
    each = λ b sensor. ap (λ (left : List (List ℤ)). numbered [] left (column_of (spec_of n b))) (same.left refl) ∙ p.columns.each b sensor;
  };
  room = room_stays is_scratch w v same n scratch p.room;
  kept = λ x k h. same.same x k (neither (is_scratch x) _ h).0 ∙ p.kept x k h;
}

-- The text behind a pass observes the values of the active blocks, and leads to the memory behind the reaction. It goes by how blocks take part, which says of
-- each whether it is active.
module _ (env : Around) (n : Parts) (net : IsNet n) (scratch : ℕ) (i : Columns) (until limit date : ℕ) (s : Source) (st : State) (row : List Entry)
    (before w : World) (asked told : ℕ → Bool) (part : ℕ → Part) (row_is : IsRow n s row) (in_range : IsMemory n st.memory) (counts : AreCounts n st.memory)
    (shows : ShowsState n scratch i until limit (at_date date st) before)
    (halted : halts n st.active ≡ false) (soon : date ≤ 2 ^ 62) (small : suc (st.pending.programmed + port_count n) < 2 ^ 63)
    (ports : AreOfPorts (port_count n) st.pending.events) (passed : HasPassed n scratch i asked told st.memory s row before w)
    (acting : ShowsActive n part passed.found.applied w) (loops : has_loop n ≡ true → 1 ≤ scratch) where
  -- with a next memory
  settles_with : (memory : Memory) → IsNextMemory n st.memory s passed.found.values memory → (k : ℕ)
      → Settles n scratch i until limit date s st (run_block env k (settle_text n part) w)
  settles_with memory next k =
      let y = passed.found.values in
      let active = passed.found.applied in
      let first = each_block (values_shown n part) n in
      let more = joined (each_port (λ k. delay_text n part k (source_of n k)) n) (joined (each_block (state_text n part) n) (each_block (halt_text n part) n)) in
      let seen = blocks_seen 1 n.specs y active in
      let shown = values_told env y part active n net w (λ b block. (passed.in_range b block).enough) passed.shows.values acting
      (λ h. passed.shows.room.scratch_names 1 (omega arith) (loops h)) k in
      let there : HasPassed n scratch i asked told st.memory s row before shown.to = record {
        found = passed.found;
        front = passed.front;
        in_range = passed.in_range;
        shows = passed_stays n scratch i asked told (cursors n st.memory active) passed.found before w shown.to shown.alone passed.shows;
      } in
      let l = rest_leads env n net scratch i until limit date s st row loops before shown.to asked told part row_is in_range counts shows halted soon small ports there
      (active_stays is_scratch w shown.to shown.alone n part active refl refl acting) memory next (number_after first k) in record {
        after = after_reaction n date st y active memory;
        seen = seen;
        to = l.to;
        is =
            run_joined env first more k w
            ∙ (then_seen (run_block env k first w) seen shown.to (run_block env (number_after first k) more) shown.is
            ∙ (ap (behind seen) l.is ∙ ap (λ (o : List Obs). let r : Ran = record { seen = o; how = going l.to } in r) (append-nil seen)));
        reacts = record {
          values = y;
          active = active;
          memory = memory;
          result = pass_ends n st.memory i s row passed.found row_is passed.front;
          active_are = λ b block. applied_are_active n st.memory i s row passed.found b row_is passed.front;
          next = next;
          leads = refl;
          observed = refl;
        };
        holds = l.holds;
      }

  pub settles : (k : ℕ) → Settles n scratch i until limit date s st (run_block env k (settle_text n part) w)
  settles k =
      let m = some_next n st.memory s passed.found.values in
      settles_with m.0 m.1 k
