-- The first statements of main behind those that fill memory: start reacts, and the first event is chosen.
use Rattle.std.proofs.Common.{◌≡◌, ℕ, ◌≤◌, List, Option, Some, None, Bool, true, false, if◌then◌else◌, nat_lt, refl, sym, ap, ◌∙◌, subst, arith, pos, negsuc, append-nil, ltb-true, ltb-false}
use Rattle.sci_base.specs.declared.observation.Obs.{Obs}
use Rattle.sci_base.specs.declared.observation.StopWord.{StopWord}
use Rattle.sci_net.specs.declared.Source.TheVariants.{Start}
use Rattle.sci_net.specs.Parts.{Parts}
use Rattle.sci_reaction.specs.Memory.{Columns}
use Rattle.sci_reaction.specs.Result.{Stopped, IsResult}
use Rattle.sci_pending.specs.Pending.{Event, next}
use Rattle.sci_run.specs.Observed.{stop_seen}
use Rattle.sci_run.specs.Run.{State, first_state, Reacts}
use Rattle.c_ast.specs.Syntax.{scalar, set, call, Block, done, next as followed}
use Rattle.c_mean.specs.Meaning.{World, Around, Ran, going, halted, behind, then_run, run_block, later}
use Rattle.c_mean.specs.Places.{get, Has}
use Rattle.c_mean.specs.Texts.{number, assigns_only}
use Rattle.c_mean.specs.Runs.{Leads}
use Rattle.c_mean.proofs.Memory.{put_there}
use Rattle.c_mean.proofs.Steps.{then_seen, done_leads, let_runs}
use Rattle.c_mean.proofs.Frames.{alone_of, puts_alone}
use Rattle.sci_program.specs.Names.{fired_name, next_date, source_name, choose_name}
use Rattle.sci_program.specs.Program.{one, port_count, first_text}
use Rattle.sci_program.specs.Shows.{ShowsState}
use Rattle.sci_program.specs.Stepping.{date_of}
use Rattle.sci_program_laws.specs.Memory.{Stands}
use Rattle.sci_program_laws.proofs.Choice.{is_choosing_next, HasNext, are_of_ports}
use Rattle.sci_program_laws.proofs.Ready.{IsReady, reacting, IsOneReaction}
use Rattle.sci_program_laws.proofs.Turns.{HasCalls, IsInOrder, call_exact, call_alone, none_next, stands_next}
use Rattle.sci_program_laws.proofs.Running.{halted_stays}

module _ (env main : Around) (n : Parts) (scratch : ℕ) (i : Columns) (own : Bool) (until asked : ℕ) (react : ℕ → World → Ran) (clear choose : World → Ran)
    (calls : HasCalls env n scratch i own until asked react clear choose) (react_called : main.calls (source_name 0) ≡ Some (react 0))
    (choose_called : 1 ≤ port_count n → main.calls choose_name ≡ Some choose) where
  -- the first event is chosen, or there is none
  first_leads : (m : ℕ) (st : State) (w : World) → ShowsState n scratch i until asked st w → IsInOrder n st → Has w next_date 0
      → Leads (run_block main m (first_text n) w) (HasNext n st.pending w)
  first_leads m st w s o there = by_ports (nat_lt 0 (port_count n)) refl
    where
      by_ports : (t : Bool) → nat_lt 0 (port_count n) ≡ t
          → Leads (run_block main m (if t then one (call choose_name) else one (set (scalar next_date) (number (negsuc 0)))) w) (HasNext n st.pending w)
      by_ports true q =
          let ports : 1 ≤ port_count n = ltb-true 0 (port_count n) q in
          subst (λ (r : Ran). Leads r (HasNext n st.pending w)) (sym (call_alone main m choose_name w choose (choose_called ports)))
          (calls.chooses ports st.now st.pending w o.pending (s.pending ports) s.room there)
      by_ports false q =
          let none : next st.pending.events ≡ None = none_next (port_count n) st.pending.events (omega (arith, ltb-false 0 (port_count n) q))
          (are_of_ports n st.now st.pending o.pending) in
          let_runs (λ r. Leads r (HasNext n st.pending w)) main m next_date (number (negsuc 0)) done w (negsuc 0) refl there (λ k1 w1 put.
          done_leads main k1 w1 (record {
            chosen = λ l. absurd (omega (arith, l, ltb-false 0 (port_count n) q));
            coming = put_there w w1 next_date 0 (negsuc 0) put ∙ ap (λ (x : Option Event). Some (date_of x)) (sym none);
            pending = λ l. absurd (omega (arith, l, ltb-false 0 (port_count n) q));
            rest = puts_alone (assigns_only is_choosing_next) w w1 next_date 0 (negsuc 0) refl put;
          }))

  abbrev start_text : Block
  start_text = followed (call (source_name 0)) (first_text n)

  start_is : (k : ℕ) (w : World) → run_block main k start_text w ≡ then_run (react 0 w) (run_block main (later k 1) (first_text n))
  start_is k w = call_exact main k (source_name 0) (first_text n) w (react 0) react_called

  -- start reacts, and memory stands for the state behind it
  pub start_goes : (k : ℕ) (w : World) (first : State) (at_start : List Obs) → get w fired_name 0 ≡ Some (pos 0) → Has w next_date 0
      → IsReady n scratch i own until asked 0 (first_state n) w → Reacts n i 0 Start (first_state n) first at_start
      → IsOneReaction n i 0 Start (first_state n) first at_start → IsInOrder n first
      → (w' : World) × ((run_block main k start_text w ≡ record { seen = at_start; how = going w' }) × Stands n scratch i until asked 0 first w')
  start_goes k w first at_start fired there ready started only o =
      let d = calls.reaction.values 0 0 (first_state n) first at_start w (omega arith) ready started only in
      let alone = alone_of reacting w (react 0 w) at_start d.0 (calls.reaction.leaves 0 (omega arith) w) d.1.0 in
      let c = first_leads (later k 1) first d.0 d.1.1 o (alone.there next_date 0 there) in (
        c.to,
        (
          start_is k w ∙ (then_seen (react 0 w) at_start d.0 (run_block main (later k 1) (first_text n)) d.1.0
              ∙ (ap (behind at_start) c.is ∙ ap (λ (l : List Obs). let q : Ran = record { seen = l; how = going c.to } in q) (append-nil at_start))),
          stands_next n scratch i until asked 0 first d.0 c.to d.1.1 (alone.same fired_name 0 refl ∙ fired) c.holds,
        ),
      )

  -- or it stops
  pub start_stops : (k : ℕ) (w : World) (block : ℕ) (word : StopWord) → IsReady n scratch i own until asked 0 (first_state n) w
      → IsResult n (first_state n).memory i Start (Stopped block word)
      → run_block main k start_text w ≡ record { seen = stop_seen 0 Start block word; how = halted }
  start_stops k w block word ready h =
      start_is k w
      ∙ halted_stays (react 0 w) (stop_seen 0 Start block word) (run_block main (later k 1) (first_text n))
      (calls.reaction.stops 0 0 (first_state n) block word w (omega arith) ready h)
