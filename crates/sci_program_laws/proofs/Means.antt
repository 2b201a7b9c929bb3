-- The program means the run of the net, and so do its steps, where its reactions go as those of the net.
use Rattle.std.proofs.Common.{◌≡◌, ℕ, suc, ◌+◌, ◌-◌, ◌*◌, ◌≤◌, ◌^◌, List, [], ◌∷◌, ◌++◌, length, Option, Some, Bool, false, refl, sym, ap, ◌∙◌, subst, arith, pos, append-nil}
use Rattle.std.proofs.Math.Nat.{mul-le-mul_right}
use Rattle.sci_base.specs.declared.observation.Obs.{Obs}
use Rattle.sci_base.specs.declared.observation.Obs.TheVariants.{End}
use Rattle.sci_base.specs.declared.observation.StopWord.{StopWord}
use Rattle.sci_net.specs.declared.Source.TheVariants.{Start}
use Rattle.sci_net.specs.Parts.{Parts}
use Rattle.sci_net.specs.Net.{IsNet}
use Rattle.sci_net.specs.Sources.{sources_of, source_of}
use Rattle.sci_reaction.specs.Memory.{Columns, AreColumns}
use Rattle.sci_reaction.specs.Result.{Stopped, IsResult}
use Rattle.sci_reaction.specs.Schedule.{Entry}
use Rattle.sci_pending.specs.Pending.{Pending}
use Rattle.sci_run.specs.Laws.{AreLoopFree}
use Rattle.sci_run.specs.Observed.{stop_seen}
use Rattle.sci_run.specs.Order.{PendingInOrder}
use Rattle.sci_run.specs.Run.{State, first_state, Over, comes_next, Reacts, here, Reachable}
use Rattle.sci_run.specs.Finish.{Ending, Finish, ended, stopped, stopped_at_start}
use Rattle.sci_run.proofs.Ranges.{stands_in_range, fired_within, orders_within}
use Rattle.sci_run.proofs.Ordered.{stands_ahead}
use Rattle.c_ast.specs.declared.Bound.TheVariants as bounds
use Rattle.c_ast.specs.Syntax.{scalar, call, next}
use Rattle.c_mean.specs.Meaning.{World, Around, Ran, How, going, over, halted, quietly, behind, then_run, run_block, one_turn, turns, needs, behind_functions, meaning, first_world}
use Rattle.c_mean.specs.Places.{get, Has, Puts}
use Rattle.c_mean.specs.Texts.{assigns_only}
use Rattle.c_mean.specs.Runs.{Leads}
use Rattle.c_mean.specs.Programs.{surroundings}
use Rattle.c_mean.proofs.Memory.{put_there, put_other}
use Rattle.c_mean.proofs.Steps.{joined_runs, joined_leads, limit_runs, then_seen}
use Rattle.c_mean.proofs.Loops.{loop_runs}
use Rattle.c_mean.proofs.Frames.{puts_alone}
use Rattle.c_mean.proofs.Programs.{meaning_runs}
use Rattle.sci_due.specs.Due.{best as chosen_name}
use Rattle.sci_due.specs.Laws.{ShowsPending}
use Rattle.sci_program_laws.proofs.Counting.{counts_stand}
use Rattle.sci_program.specs.Names.{actives, branches, limit_name, fired_name, next_date, source_name, choose_name, event_name}
use Rattle.sci_program.specs.Program.{one, has_own, port_count, scratch_count, outset_text, first_text, begin_text, turn_text, main_text, called_functions, functions, full_program}
use Rattle.sci_program.specs.Laws.{answer_by}
use Rattle.sci_program.specs.Shows.{HasRoom}
use Rattle.sci_program.specs.Stepping.{called, stepped, Waits, IsToldBy}
use Rattle.sci_program.proofs.Parted.{starting, ending, running}
use Rattle.sci_program_laws.specs.Memory.{Stands, DoesEvents}
use Rattle.sci_program_laws.proofs.Choice.{HasNext, choice_leads}
use Rattle.sci_program_laws.proofs.Dispatch.{still_going}
use Rattle.sci_program_laws.proofs.Ready.{IsReady, ReactionGoes}
use Rattle.sci_program_laws.proofs.Between.{is_between, state_stays}
use Rattle.sci_program_laws.proofs.Clear.{HasCleared, clear_leads}
use Rattle.sci_program_laws.proofs.Turns.{HasCalls, IsInOrder, behind_over}
use Rattle.sci_program_laws.proofs.Running.{halted_stays, ends_so, stops_so, waits_so, one_first, host_does, main_does}
use Rattle.sci_program_laws.proofs.Starting.{start_goes, start_stops}
use Rattle.sci_program.proofs.Blank.{blank_first}
use Rattle.sci_program_laws.proofs.Outset.{ports_few, outset_leads, first_ready, none_fired, coming_there}
use Rattle.sci_program.proofs.Called.{AreReactions, react, clear, choose, react_is, clear_is, choose_is, clear_runs, choose_runs, reactions_are, same_call, event_called}

-- The runs of the functions of all sources do the reactions of the net, on these columns and within these bounds.
unfoldable pub ReactionsGo : Parts → List (List Entry) → Columns → (until limit : ℕ) → Type 0
ReactionsGo n rows i until limit =
    (react : ℕ → World → Ran) → AreReactions n rows (pos until) (pos limit) react
    → ReactionGoes n (scratch_count n rows (length n.specs)) i (has_own n rows) until limit react

reactions : (n : Parts) (rows : List (List Entry)) (i : Columns) (until limit : ℕ) → ReactionsGo n rows i until limit
    → ReactionGoes n (scratch_count n rows (length n.specs)) i (has_own n rows) until limit (react n rows (pos until) (pos limit))
unfolding ReactionsGo
reactions n rows i until limit go = go (react n rows (pos until) (pos limit)) (reactions_are n rows (pos until) (pos limit))

module _ (n : Parts) (rows : List (List Entry)) (i : Columns) (until asked : ℕ) (net : IsNet n) (free : AreLoopFree n) (columns : AreColumns n i)
    (late : until ≤ 2 ^ 62) (go : ReactionsGo n rows i until asked) where
  few_ports : port_count n ≤ 2048
  few_ports = ports_few n net

  in_order : (limit : ℕ) → limit ≤ 2 ^ 51 → (st : State) (seen : List Obs) → Reachable n i until limit st seen → IsInOrder n st
  in_order limit most st seen stands = record {
    memory = stands_in_range n i net free columns until limit st seen stands;
    counts = counts_stand n i net until limit st seen stands;
    pending = stands_ahead n net i until limit st seen stands;
    few =
        let orders = orders_within n i until limit st seen stands in
        let fired = fired_within n i until limit st seen stands in
        let most_fired : st.fired + 2 ≤ 2251799813685250 = omega (arith, fired, most) in
        let product : (st.fired + 2) * length (sources_of n) ≤ 2251799813685250 * length (sources_of n) = mul-le-mul_right (length (sources_of n)) most_fired in
        omega (arith, orders, product, few_ports);
  }

  abbrev scratch : ℕ
  scratch = scratch_count n rows (length n.specs)

  abbrev env : Around
  env = surroundings (called_functions n rows) (pos until) (pos asked)

  abbrev main : Around
  main = surroundings (functions n rows) (pos until) (pos asked)

  abbrev reacts : ℕ → World → Ran
  reacts = react n rows (pos until) (pos asked)

  abbrev own : Bool
  own = has_own n rows

  abbrev cleared : World → Ran
  cleared = clear n rows (pos until) (pos asked)

  abbrev chooses : World → Ran
  chooses = choose n rows (pos until) (pos asked)

  clears_so : 1 ≤ port_count n → own ≡ false → (w : World) → HasRoom n scratch w → Leads (cleared w) (HasCleared n (length n.specs) w)
  clears_so some one_for_all w room =
      let c = clear_runs n rows (pos until) (pos asked) some one_for_all in
      subst (λ (run : World → Ran). Leads (run w) (HasCleared n (length n.specs) w)) (sym c.2)
      (clear_leads (surroundings c.0 (pos until) (pos asked)) n w (omega (arith, net.wired.few))
      (λ b l. subst (λ (j : ℕ). Has w actives j) (let e : suc b - 1 ≡ b = omega arith in e)
      (room.actives (suc b) (record { least = omega arith; most = omega (arith, l) })))
      (λ s b l. subst (λ (j : ℕ). Has w branches j) (let e : suc b - 1 ≡ b = omega arith in e)
      (room.branches s (suc b) (record { least = omega arith; most = omega (arith, l) }))) c.1 (room.scan some))

  chooses_so : 1 ≤ port_count n → (now : ℕ) (p : Pending) (w : World) → PendingInOrder n now p → ShowsPending (port_count n) p w → HasRoom n scratch w
      → Has w next_date 0 → Leads (chooses w) (HasNext n p w)
  chooses_so some now p w order shows room there =
      let c = choose_runs n rows (pos until) (pos asked) some in
      subst (λ (run : World → Ran). Leads (run w) (HasNext n p w)) (sym c.2)
      (choice_leads (surroundings c.0 (pos until) (pos asked)) n now p c.1 w some (omega (arith, few_ports)) order shows (room.chosen some) (room.scan some) there)

  calls : HasCalls env n scratch i own until asked reacts cleared chooses
  calls = record {
    few_ports = few_ports;
    react_called = react_is n rows (pos until) (pos asked);
    clear_called = clear_is n rows (pos until) (pos asked);
    choose_called = choose_is n rows (pos until) (pos asked);
    clears = clears_so;
    chooses = chooses_so;
    reaction = reactions n rows i until asked go;
  }

  -- ---- up to the first event

  abbrev first_memory : World
  first_memory = first_world (full_program n rows) i

  -- what holds of the run of the first statements holds where they are filled in
  begin_runs : (Q : Ran → Type 0) (k : ℕ)
      → ((k2 : ℕ) (w : World) → get w fired_name 0 ≡ Some (pos 0) → Has w next_date 0 → IsReady n scratch i own until asked 0 (first_state n) w
      → Q (run_block main k2 (next (call (source_name 0)) (first_text n)) w)) → Q (run_block main k (begin_text n) first_memory)
  begin_runs Q k go =
      let blank = blank_first n rows i in
      joined_leads Q main k (outset_text n) (starting n) first_memory (outset_leads main n net scratch i first_memory blank k) (λ k1 w h.
      limit_runs Q main k1 (scalar limit_name) (next (call (source_name 0)) (first_text n)) w limit_name 0 (refl, refl)
      (h.rest.there limit_name 0 (record { holds = pos 0; is = blank.limit })) (λ k2 w2 put.
      go k2 w2 (none_fired n net scratch i own until asked first_memory w w2 blank h put) (coming_there n net scratch i own until asked first_memory w w2 blank h put)
      (first_ready n net scratch i own until asked first_memory w w2 blank h put)))

  module _ (limit : ℕ) (most : limit ≤ 2 ^ 51) where
    ordered : (st : State) (seen : List Obs) → Reachable n i until limit st seen → IsInOrder n st
    ordered = in_order limit most

    pub begin_goes : (k : ℕ) (first : State) (at_start : List Obs) → Reacts n i 0 Start (first_state n) first at_start
        → (w : World) × ((run_block main k (begin_text n) first_memory ≡ record { seen = at_start; how = going w })
        × Stands n scratch i until asked 0 first w)
    begin_goes k first at_start started =
        begin_runs (λ r. (w : World) × ((r ≡ record { seen = at_start; how = going w }) × Stands n scratch i until asked 0 first w)) k (λ k2 w fired there ready.
        start_goes env main n scratch i own until asked reacts cleared chooses calls
        (same_call n rows (pos until) (pos asked) (source_name 0) refl ∙ react_is n rows (pos until) (pos asked) 0 (omega arith))
        (λ l. same_call n rows (pos until) (pos asked) choose_name refl ∙ choose_is n rows (pos until) (pos asked) l)
        k2 w first at_start fired there ready started
        (one_first env n net free scratch i own until asked late reacts cleared chooses calls limit ordered first at_start started)
        (ordered first at_start (record { first = first; at_start = at_start; later = []; started = started; reaches = here; observed = sym (append-nil at_start) })))

    begin_stops : (k block : ℕ) (word : StopWord) → IsResult n (first_state n).memory i Start (Stopped block word)
        → run_block main k (begin_text n) first_memory ≡ record { seen = stop_seen 0 Start block word; how = halted }
    begin_stops k block word h =
        begin_runs (λ r. r ≡ record { seen = stop_seen 0 Start block word; how = halted }) k (λ k2 w fired there ready.
        start_stops env main n scratch i own until asked reacts cleared chooses calls
        (same_call n rows (pos until) (pos asked) (source_name 0) refl ∙ react_is n rows (pos until) (pos asked) 0 (omega arith))
        (λ l. same_call n rows (pos until) (pos asked) choose_name refl ∙ choose_is n rows (pos until) (pos asked) l)
        k2 w block word ready h)

    -- ---- stepped by a host

    abbrev call_event : World → Ran
    call_event = called (full_program n rows) (pos until) (pos asked) event_name

    abbrev event_number : ℕ
    event_number = (event_called n rows (pos until) (pos asked)).0

    event_is : (w : World) → call_event w ≡ run_block env event_number (turn_text own n) w
    event_is w =
        ap (λ (o : Option (World → Ran)). needs (behind_functions 1 (functions n rows)) o (λ run. run w)) (event_called n rows (pos until) (pos asked)).1

    -- from memory where main has counted so many
    pub stepping : (count : ℕ) → DoesEvents n i until limit call_event (Stands n scratch i until asked count)
    stepping count =
        host_does env n net free scratch i own until asked late reacts cleared chooses calls limit ordered call_event event_number event_is count

    -- begun and stepped so often, it waits for the next event
    pub program_waits : (st : State) (seen : List Obs) → Reachable n i until limit st seen → st.fired ≡ limit
        → Waits st seen (stepped (full_program n rows) (begin_text n) i (pos until) (pos asked) limit)
    program_waits st seen r all =
        let b = begin_goes (behind_functions 1 (functions n rows)) r.first r.at_start r.started in
        let none : limit - st.fired ≡ 0 = omega (arith, all) in
        let t = waits_so n i until limit call_event (Stands n scratch i until asked 0) (stepping 0) r.first r.at_start r.started b.0 b.1.1 st r.later r.reaches
        none in
        record {
          world = t.0;
          is = then_seen (run_block main (behind_functions 1 (functions n rows)) (begin_text n) first_memory) r.at_start b.0 (turns limit call_event) b.1.0
              ∙ (t.1.1 ∙ ap (λ (l : List Obs). let q : Ran = record { seen = l; how = going t.0 } in q) (sym r.observed));
          date = t.1.0.coming;
        }

    abbrev stays : World → Ran
    stays w = quietly (going w)

    -- or the run is over
    pub program_steps : {st : State} {how : Ending} {os : List Obs} → Finish n i until limit st how os → IsToldBy limit st how
        → stepped (full_program n rows) (begin_text n) i (pos until) (pos asked) limit ≡ record { seen = os; how = answer_by how }
    program_steps (ended st word seen r is) told =
        let b = begin_goes (behind_functions 1 (functions n rows)) r.first r.at_start r.started in
        then_seen (run_block main (behind_functions 1 (functions n rows)) (begin_text n) first_memory) r.at_start b.0 (turns limit call_event) b.1.0
        ∙ (ap (behind r.at_start) (sym (still_going (turns limit call_event b.0)))
        ∙ ends_so n i until limit call_event (Stands n scratch i until asked 0) (stepping 0) r.first r.at_start r.started b.0 b.1.1 stays st r.later word
        (seen ++ End word ∷ []) r.reaches is (λ w s none. absurd (omega (arith, none, told))) (ap (λ (a : List Obs). a ++ End word ∷ []) r.observed))
    program_steps (stopped st e block word seen r is h) told =
        let b = begin_goes (behind_functions 1 (functions n rows)) r.first r.at_start r.started in
        then_seen (run_block main (behind_functions 1 (functions n rows)) (begin_text n) first_memory) r.at_start b.0 (turns limit call_event) b.1.0
        ∙ (ap (behind r.at_start) (sym (still_going (turns limit call_event b.0)))
        ∙ stops_so n i until limit call_event (Stands n scratch i until asked 0) (stepping 0) r.first r.at_start r.started b.0 b.1.1 stays st r.later e block word
        (seen ++ stop_seen e.date (source_of n e.source) block word) r.reaches is h
        (ap (λ (a : List Obs). a ++ stop_seen e.date (source_of n e.source) block word) r.observed))
    program_steps (stopped_at_start block word h) told =
        halted_stays (run_block main (behind_functions 1 (functions n rows)) (begin_text n) first_memory) (stop_seen 0 Start block word) (turns limit call_event)
        (begin_stops (behind_functions 1 (functions n rows)) block word h)

-- ---- run by main

module _ (n : Parts) (rows : List (List Entry)) (i : Columns) (until limit : ℕ) (net : IsNet n) (free : AreLoopFree n) (columns : AreColumns n i)
    (late : until ≤ 2 ^ 62) (most : limit ≤ 2 ^ 51) (go : ReactionsGo n rows i until limit) where
  abbrev many : ℕ
  many = scratch_count n rows (length n.specs)

  abbrev around_main : Around
  around_main = surroundings (functions n rows) (pos until) (pos limit)

  abbrev around_event : Around
  around_event = surroundings (called_functions n rows) (pos until) (pos limit)

  abbrev run_event : World → Ran
  run_event = run_block around_event (event_called n rows (pos until) (pos limit)).0 (turn_text (has_own n rows) n)

  abbrev Counts : State → World → Type 0
  Counts st w = Stands n many i until limit st.fired st w

  looping : (l : ℕ) → DoesEvents n i until limit (one_turn around_main l fired_name (one (call event_name))) Counts
  looping l =
      main_does around_event n net free many i (has_own n rows) until limit late (react n rows (pos until) (pos limit))
      (clear n rows (pos until) (pos limit)) (choose n rows (pos until) (pos limit)) (calls n rows i until limit net free columns late go) limit
      (in_order n rows i until limit net free columns late go limit most) run_event (event_called n rows (pos until) (pos limit)).0 (λ w. refl) around_main l
      (event_called n rows (pos until) (pos limit)).1 (omega (arith, most))

  -- where a turn counts the events anew, memory stands for the same
  counts_from : (first : State) (w w' : World) → first.fired ≡ 0 → Stands n many i until limit 0 first w → Puts w fired_name 0 (pos 0) w' → Counts first w'
  counts_from first w w' none s put = record {
    shows = state_stays n many i until limit first w w' (puts_alone (assigns_only is_between) w w' fired_name 0 (pos 0) refl put) s.shows;
    chosen = λ p e q. put_other w w' fired_name 0 (pos 0) chosen_name 0 put refl ∙ s.chosen p e q;
    coming = put_other w w' fired_name 0 (pos 0) next_date 0 put refl ∙ s.coming;
    fired = put_there w w' fired_name 0 (pos 0) put ∙ ap (λ (j : ℕ). Some (pos j)) (sym none);
  }

  -- behind start's reaction
  started_runs : (k : ℕ) (first : State) (at_start os : List Obs) (how : How) → Reacts n i 0 Start (first_state n) first at_start
      → ((l m : ℕ) (w : World) → Counts first w
      → behind at_start (then_run (turns limit (one_turn around_main l fired_name (one (call event_name))) w) (run_block around_main m (ending n)))
      ≡ record { seen = os; how = how })
      → run_block around_main k (main_text n) (first_world (full_program n rows) i) ≡ record { seen = os; how = how }
  started_runs k first at_start os how started further =
      let b = begin_goes n rows i until limit net free columns late go limit most k first at_start started in
      joined_runs (λ r. r ≡ record { seen = os; how = how }) around_main k (begin_text n) (running n) (first_world (full_program n rows) i) (λ m.
      then_seen (run_block around_main k (begin_text n) (first_world (full_program n rows) i)) at_start b.0 (run_block around_main m (running n)) b.1.0
      ∙ loop_runs (λ r. behind at_start r ≡ record { seen = os; how = how }) around_main m fired_name (bounds.Var limit_name) (one (call event_name)) (ending n)
      b.0 (pos limit) b.1.1.shows.bounds.events (record { holds = pos 0; is = b.1.1.fired }) (λ l j w put.
      further l j w (counts_from first b.0 w (ap (λ (a : State). a.fired) started.leads) b.1.1 put)))

  main_runs : {st : State} {how : Ending} {os : List Obs} (k : ℕ) → Finish n i until limit st how os
      → run_block around_main k (main_text n) (first_world (full_program n rows) i) ≡ record { seen = os; how = answer_by how }
  main_runs k (ended st word seen r is) =
      started_runs k r.first r.at_start (seen ++ End word ∷ []) over r.started (λ l m w s.
      ends_so n i until limit (one_turn around_main l fired_name (one (call event_name))) Counts (looping l) r.first r.at_start r.started w s
      (run_block around_main m (ending n)) st r.later word (seen ++ End word ∷ []) r.reaches is
      (λ v t none. behind_over around_main n many i until limit m st v word (subst (λ (j : ℕ). comes_next n until j st ≡ Over word) none is) t.shows)
      (ap (λ (a : List Obs). a ++ End word ∷ []) r.observed))
  main_runs k (stopped st e block word seen r is h) =
      started_runs k r.first r.at_start (seen ++ stop_seen e.date (source_of n e.source) block word) halted r.started (λ l m w s.
      stops_so n i until limit (one_turn around_main l fired_name (one (call event_name))) Counts (looping l) r.first r.at_start r.started w s
      (run_block around_main m (ending n)) st r.later e block word (seen ++ stop_seen e.date (source_of n e.source) block word) r.reaches is h
      (ap (λ (a : List Obs). a ++ stop_seen e.date (source_of n e.source) block word) r.observed))
  main_runs k (stopped_at_start block word h) =
      joined_runs (λ r. r ≡ record { seen = stop_seen 0 Start block word; how = halted }) around_main k (begin_text n) (running n)
      (first_world (full_program n rows) i) (λ m.
      halted_stays (run_block around_main k (begin_text n) (first_world (full_program n rows) i)) (stop_seen 0 Start block word) (run_block around_main m (running n))
      (begin_stops n rows i until limit net free columns late go limit most k block word h))

  -- On these columns and within these bounds the program observes the trace of the net, and ends as its run does.
  pub program_means : {st : State} {how : Ending} {os : List Obs} → Finish n i until limit st how os
      → meaning (full_program n rows) i (pos until) (pos limit) ≡ record { seen = os; how = answer_by how }
  program_means {st} {how} {os} finish =
      meaning_runs (λ (r : Ran). r ≡ record { seen = os; how = answer_by how }) (full_program n rows) i (pos until) (pos limit) (λ k. main_runs k finish)
