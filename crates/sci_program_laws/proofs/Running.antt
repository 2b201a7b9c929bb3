-- A run, from a memory that is ready for the reaction of start on: event by event to its end, by turns that are called for by main or by its host.
use Rattle.std.proofs.Common.{◌≡◌, ℕ, zero, suc, ◌+◌, ◌-◌, ◌<◌, ◌≤◌, ◌^◌, List, [], ◌∷◌, ◌++◌, length, Bool, Some, refl, sym, ap, ◌∙◌, subst, arith, pos, append-nil}
use Rattle.sci_base.specs.declared.observation.Obs.{Obs}
use Rattle.sci_base.specs.declared.observation.Obs.TheVariants.{End}
use Rattle.sci_base.specs.declared.observation.EndWord.{EndWord}
use Rattle.sci_base.specs.declared.observation.StopWord.{StopWord}
use Rattle.sci_net.specs.declared.Source.TheVariants.{Start}
use Rattle.sci_net.specs.Parts.{Parts}
use Rattle.sci_net.specs.Net.{IsNet}
use Rattle.sci_net.specs.Sources.{sources_of, source_of}
use Rattle.sci_reaction.specs.Memory.{Columns}
use Rattle.sci_reaction.specs.Result.{Stopped, IsResult}
use Rattle.sci_pending.specs.Pending.{Event, next}
use Rattle.sci_run.specs.Activity.{halts}
use Rattle.sci_run.specs.Laws.{AreLoopFree}
use Rattle.sci_run.proofs.Unique.{one_state}
use Rattle.sci_run.proofs.Finish.{further}
use Rattle.sci_run.specs.Observed.{stop_seen}
use Rattle.sci_run.specs.Run.{State, first_state, taken, Over, Fires, comes_next, Reacts, ReachableFrom, here, reacted, Reachable}
use Rattle.sci_run.proofs.Ranges.{fires_within}
use Rattle.sci_run.proofs.Ordered.{fires_next}
use Rattle.c_ast.specs.Syntax.{call}
use Rattle.c_mean.specs.Meaning.{World, Around, Ran, going, over, halted, behind, quietly, then_run, run_block, one_turn, turns, count_up, later}
use Rattle.c_mean.specs.Texts.{assigns_only}
use Rattle.c_mean.specs.Runs.{Ends}
use Rattle.c_mean.proofs.Steps.{then_assoc, then_seen, then_ends, behind_twice}
use Rattle.c_mean.proofs.Memory.{put_there, put_other}
use Rattle.c_mean.proofs.Loops.{count_is}
use Rattle.c_mean.proofs.Frames.{alone_of, puts_alone}
use Rattle.sci_due.proofs.Lists.{next_first}
use Rattle.sci_due.specs.Due.{best as chosen_name}
use Rattle.sci_program.specs.Names.{fired_name, next_date, event_name}
use Rattle.sci_program.specs.Program.{one, turn_text}
use Rattle.sci_program_laws.specs.Memory.{Stands, DoesEvents}
use Rattle.sci_program_laws.proofs.Choice.{are_of_ports}
use Rattle.sci_program_laws.proofs.Dispatch.{still_going}
use Rattle.sci_program_laws.proofs.Ready.{reacting, IsOneReaction}
use Rattle.sci_program_laws.proofs.Between.{is_between, state_stays}
use Rattle.sci_program_laws.proofs.Turns.{HasCalls, IsInOrder, IsFired, call_alone, stands_next, turn_over, turn_fires}

-- a run that is over, or halted, ends what follows
pub halted_stays : (r : Ran) (seen : List Obs) (f : World → Ran) → r ≡ record { seen = seen; how = halted }
    → then_run r f ≡ record { seen = seen; how = halted }
halted_stays r seen f e = ap (λ (q : Ran). then_run q f) e

ended_behind : (r : Ran) (a b os : List Obs) (word : EndWord) → Ends r word → os ≡ (a ++ b) ++ End word ∷ []
    → behind a (behind b r) ≡ record { seen = os; how = over }
ended_behind r a b os word e q =
    behind_twice a b r ∙ (ap (behind (a ++ b)) e ∙ ap (λ (l : List Obs). let s : Ran = record { seen = l; how = over } in s) (sym q))

stopped_behind : (r : Ran) (a b more os : List Obs) → r ≡ record { seen = more; how = halted } → os ≡ (a ++ b) ++ more
    → behind a (behind b r) ≡ record { seen = os; how = halted }
stopped_behind r a b more os e q =
    behind_twice a b r ∙ (ap (behind (a ++ b)) e ∙ ap (λ (l : List Obs). let s : Ran = record { seen = l; how = halted } in s) (sym q))

-- what is observed behind the same
tail_same : (xs a b : List Obs) → xs ++ a ≡ xs ++ b → a ≡ b
tail_same [] a b h = h
tail_same (x ∷ xs) a b h = tail_same xs a b (rest_same x (xs ++ a) (xs ++ b) h)
  where
    rest_same : (x : Obs) (p q : List Obs) → x ∷ p ≡ x ∷ q → p ≡ q
    rest_same x p q h = cc

-- ---- turn by turn

module _ (n : Parts) (i : Columns) (until limit : ℕ) (turn : World → Ran) (Shows : State → World → Type 0) (does : DoesEvents n i until limit turn Shows)
    (first : State) (at_start : List Obs) (started : Reacts n i 0 Start (first_state n) first at_start) (w0 : World) (shown : Shows first w0) where
  none_fired : first.fired ≡ 0
  none_fired = ap (λ (a : State). a.fired) started.leads

  reached : (st : State) (later : List Obs) → ReachableFrom n i until limit first st later → Reachable n i until limit st (at_start ++ later)
  reached st later r = record { first = first; at_start = at_start; later = later; started = started; reaches = r; observed = refl }

  abbrev RunsTo : State → List Obs → Type 0
  RunsTo st seen =
      (w : World) × (Shows st w
      × ((close : World → Ran) → then_run (turns limit turn w0) close ≡ behind seen (then_run (turns (limit - st.fired) turn w) close)))

  runs_to : {st : State} {seen : List Obs} → ReachableFrom n i until limit first st seen → RunsTo st seen
  runs_to here = (
    w0,
    (shown, λ close. ap (λ (k : ℕ). then_run (turns k turn w0) close) (let all : limit ≡ limit - first.fired = omega (arith, none_fired) in all)),
  )
  runs_to (reacted st after e seen more before fires h) =
      let so_far = runs_to before in
      let some_left = (fires_within until (limit - st.fired) (halts n st.active) (next st.pending.events) e fires).0 in
      let fired : after.fired ≡ st.fired + 1 = ap (λ (a : State). a.fired) h.leads in
      let left : limit - st.fired ≡ suc (limit - after.fired) = omega (arith, some_left, fired) in
      let t = does.fires st after e (at_start ++ seen) more so_far.0 (reached st seen before) fires h so_far.1.0 in (
        t.0,
        (
          t.1.1,
          λ close. so_far.1.1 close ∙ (ap (λ (k : ℕ). behind seen (then_run (turns k turn so_far.0) close)) left
              ∙ (ap (behind seen) (then_assoc (turn so_far.0) (turns (limit - after.fired) turn) close
              ∙ then_seen (turn so_far.0) more t.0 (λ v. then_run (turns (limit - after.fired) turn v) close) t.1.0)
              ∙ behind_twice seen more (then_run (turns (limit - after.fired) turn t.0) close))),
        ),
      )

  -- the end
  last_turn : (close : World → Ran) (left : ℕ) (st : State) (word : EndWord) (seen : List Obs) (w : World) → limit - st.fired ≡ left
      → Reachable n i until limit st seen → comes_next n until (limit - st.fired) st ≡ Over word → Shows st w
      → (limit - st.fired ≡ 0 → Ends (close w) word) → Ends (then_run (turns left turn w) close) word
  last_turn close zero st word seen w e r is s closes = closes e
  last_turn close (suc left) st word seen w e r is s closes =
      then_ends (then_run (turn w) (turns left turn)) close word
      (then_ends (turn w) (turns left turn) word (does.ends st word seen w r (omega (arith, e)) is s))

  stop_turn : (close : World → Ran) (left : ℕ) (st : State) (e : Event) (block : ℕ) (word : StopWord) (seen : List Obs) (w : World) → 0 < left
      → Reachable n i until limit st seen
      → comes_next n until (limit - st.fired) st ≡ Fires e → IsResult n st.memory i (source_of n e.source) (Stopped block word) → Shows st w
      → then_run (turns left turn w) close ≡ record { seen = stop_seen e.date (source_of n e.source) block word; how = halted }
  stop_turn close zero st e block word seen w some r is h s = absurd (omega (arith, some))
  stop_turn close (suc left) st e block word seen w some r is h s =
      halted_stays (then_run (turn w) (turns left turn)) (stop_seen e.date (source_of n e.source) block word) close
      (halted_stays (turn w) (stop_seen e.date (source_of n e.source) block word) (turns left turn) (does.stops st e block word seen w r is h s))

  pub ends_so : (close : World → Ran) (st : State) (later : List Obs) (word : EndWord) (os : List Obs) → ReachableFrom n i until limit first st later
      → comes_next n until (limit - st.fired) st ≡ Over word → ((w : World) → Shows st w → limit - st.fired ≡ 0 → Ends (close w) word)
      → os ≡ (at_start ++ later) ++ End word ∷ [] → behind at_start (then_run (turns limit turn w0) close) ≡ record { seen = os; how = over }
  ends_so close st later word os r is closes q =
      let t = runs_to r in
      ap (behind at_start) (t.1.1 close) ∙ ended_behind (then_run (turns (limit - st.fired) turn t.0) close) at_start later os word
      (last_turn close (limit - st.fired) st word (at_start ++ later) t.0 refl (reached st later r) is t.1.0 (closes t.0 t.1.0)) q

  pub stops_so : (close : World → Ran) (st : State) (later : List Obs) (e : Event) (block : ℕ) (word : StopWord) (os : List Obs)
      → ReachableFrom n i until limit first st later
      → comes_next n until (limit - st.fired) st ≡ Fires e → IsResult n st.memory i (source_of n e.source) (Stopped block word)
      → os ≡ (at_start ++ later) ++ stop_seen e.date (source_of n e.source) block word
      → behind at_start (then_run (turns limit turn w0) close) ≡ record { seen = os; how = halted }
  stops_so close st later e block word os r is h q =
      let t = runs_to r in
      let some_left = (fires_within until (limit - st.fired) (halts n st.active) (next st.pending.events) e is).0 in
      ap (behind at_start) (t.1.1 close) ∙ stopped_behind (then_run (turns (limit - st.fired) turn t.0) close) at_start later
      (stop_seen e.date (source_of n e.source) block word) os
      (stop_turn close (limit - st.fired) st e block word (at_start ++ later) t.0 some_left (reached st later r) is h t.1.0) q

  -- where it goes on
  pub waits_so : (st : State) (later : List Obs) → ReachableFrom n i until limit first st later → limit - st.fired ≡ 0
      → (w : World) × (Shows st w × (behind at_start (turns limit turn w0) ≡ record { seen = at_start ++ later; how = going w }))
  waits_so st later r none =
      let t = runs_to r in
      let close : World → Ran = λ v. quietly (going v) in
      let so : turns limit turn w0 ≡ record { seen = later; how = going t.0 } = sym (still_going (turns limit turn w0)) ∙ (t.1.1 close
      ∙ (ap (λ (k : ℕ). behind later (then_run (turns k turn t.0) close)) none
      ∙ ap (λ (l : List Obs). let s : Ran = record { seen = l; how = going t.0 } in s) (append-nil later))) in
      (t.0, (t.1.0, ap (behind at_start) so))

-- ---- the function of one event

module _ (env : Around) (n : Parts) (net : IsNet n) (free : AreLoopFree n) (scratch : ℕ) (i : Columns) (own : Bool) (until asked : ℕ) (late : until ≤ 2 ^ 62)
    (react : ℕ → World → Ran) (clear choose : World → Ran)
    (calls : HasCalls env n scratch i own until asked react clear choose) (limit : ℕ)
    (in_order : (st : State) (seen : List Obs) → Reachable n i until limit st seen → IsInOrder n st) where
  source_within : (st : State) (e : Event) → IsInOrder n st → next st.pending.events ≡ Some e → e.source < length (sources_of n)
  source_within st e o is =
      let source = are_of_ports n st.now st.pending o.pending e (next_first st.pending.events e is) in omega (arith, source.0, source.1)

  source_of_next : (st : State) (seen : List Obs) (e : Event) → Reachable n i until limit st seen → comes_next n until (limit - st.fired) st ≡ Fires e
      → e.source < length (sources_of n)
  source_of_next st seen e r is =
      source_within st e (in_order st seen r) (fires_next until (limit - st.fired) (halts n st.active) (next st.pending.events) e is)

  one_next : (st after : State) (e : Event) (seen more : List Obs) → Reachable n i until limit st seen → comes_next n until (limit - st.fired) st ≡ Fires e
      → Reacts n i e.date (source_of n e.source) (taken st e) after more → IsOneReaction n i e.date (source_of n e.source) (taken st e) after more
  one_next st after e seen more stands is h other others g =
      let a : after.fired ≡ st.fired + 1 = ap (λ (a : State). a.fired) h.leads in
      let b : other.fired ≡ st.fired + 1 = ap (λ (a : State). a.fired) g.leads in
      let r = one_state n i net free until limit after other (seen ++ more) (seen ++ others) (further n i until limit st after e seen more stands is h)
      (further n i until limit st other e seen others stands is g) (a ∙ sym b) in (tail_same seen more others r.0, r.1)

  pub one_first : (first : State) (at_start : List Obs) → Reacts n i 0 Start (first_state n) first at_start
      → IsOneReaction n i 0 Start (first_state n) first at_start
  one_first first at_start h other others g =
      let a : first.fired ≡ 0 = ap (λ (a : State). a.fired) h.leads in
      let b : other.fired ≡ 0 = ap (λ (a : State). a.fired) g.leads in
      one_state n i net free until limit first other at_start others
      (record { first = first; at_start = at_start; later = []; started = h; reaches = here; observed = sym (append-nil at_start) })
      (record { first = other; at_start = others; later = []; started = g; reaches = here; observed = sym (append-nil others) }) (a ∙ sym b)

  -- one event is left at least where one fires
  left_is : (st : State) (e : Event) → comes_next n until (limit - st.fired) st ≡ Fires e → comes_next n until (suc (limit - st.fired - 1)) st ≡ Fires e
  left_is st e is =
      let some = (fires_within until (limit - st.fired) (halts n st.active) (next st.pending.events) e is).0 in
      subst (λ (k : ℕ). comes_next n until k st ≡ Fires e) (let same : limit - st.fired ≡ suc (limit - st.fired - 1) = omega (arith, some) in same) is

  -- a run that goes on behind these observations, where memory stands for the state
  abbrev pub GoesTo : ℕ → State → List Obs → Ran → Type 0
  GoesTo count after more r = (w' : World) × ((r ≡ record { seen = more; how = going w' }) × Stands n scratch i until asked count after w')

  turn_reacts : (k count : ℕ) (st after : State) (e : Event) (seen more : List Obs) (w : World) → Reachable n i until limit st seen
      → comes_next n until (limit - st.fired) st ≡ Fires e
      → Reacts n i e.date (source_of n e.source) (taken st e) after more → Stands n scratch i until asked count st w
      → GoesTo count after more (run_block env k (turn_text own n) w)
  turn_reacts k count st after e seen more w r is h s =
      turn_fires env n scratch i own until asked late react clear choose calls (GoesTo count after more) k (limit - st.fired - 1) count st e w
      (left_is st e is) s (in_order st seen r) goes
    where
      within : e.source < length (sources_of n)
      within = source_of_next st seen e r is

      order_after : IsInOrder n after
      order_after = in_order after (seen ++ more) (further n i until limit st after e seen more r is h)

      goes : (w3 : World) → IsFired env n scratch i own until asked late react clear choose calls count st e w3
          → GoesTo count after more (then_run (react e.source w3) choose)
      goes w3 f =
          let d = calls.reaction.values e.source e.date (taken st e) after more w3 within f.ready h (one_next st after e seen more r is h) in
          let alone = alone_of reacting w3 (react e.source w3) more d.0 (calls.reaction.leaves e.source within w3) d.1.0 in
          let c = calls.chooses f.ports after.now after.pending d.0 order_after.pending (d.1.1.pending f.ports) d.1.1.room (alone.there next_date 0 f.coming) in (
            c.to,
            (
              then_seen (react e.source w3) more d.0 choose d.1.0 ∙ (ap (behind more) c.is
                  ∙ ap (λ (l : List Obs). let q : Ran = record { seen = l; how = going c.to } in q) (append-nil more)),
              stands_next n scratch i until asked count after d.0 c.to d.1.1 (alone.same fired_name 0 refl ∙ f.fired) c.holds,
            ),
          )

  turn_stops : (k count : ℕ) (st : State) (e : Event) (block : ℕ) (word : StopWord) (seen : List Obs) (w : World) → Reachable n i until limit st seen
      → comes_next n until (limit - st.fired) st ≡ Fires e → IsResult n st.memory i (source_of n e.source) (Stopped block word)
      → Stands n scratch i until asked count st w
      → run_block env k (turn_text own n) w ≡ record { seen = stop_seen e.date (source_of n e.source) block word; how = halted }
  turn_stops k count st e block word seen w r is h s =
      turn_fires env n scratch i own until asked late react clear choose calls
      (λ q. q ≡ record { seen = stop_seen e.date (source_of n e.source) block word; how = halted }) k (limit - st.fired - 1) count st e w (left_is st e is) s
      (in_order st seen r) (λ w3 f.
      halted_stays (react e.source w3) (stop_seen e.date (source_of n e.source) block word) choose
      (calls.reaction.stops e.source e.date (taken st e) block word w3 (source_of_next st seen e r is) f.ready h))

  turn_ends : (k count : ℕ) (st : State) (word : EndWord) (seen : List Obs) (w : World) → Reachable n i until limit st seen → st.fired < limit
      → comes_next n until (limit - st.fired) st ≡ Over word → Stands n scratch i until asked count st w → Ends (run_block env k (turn_text own n) w) word
  turn_ends k count st word seen w r some is s =
      turn_over env n scratch i own until asked late react clear choose calls k (limit - st.fired - 1) count st w word
      (subst (λ (j : ℕ). comes_next n until j st ≡ Over word)
      (let same : limit - st.fired ≡ suc (limit - st.fired - 1) = omega (arith, some) in same) is)
      s (in_order st seen r)

  -- where a call runs it
  module _ (event : World → Ran) (number : ℕ) (event_is : (w : World) → event w ≡ run_block env number (turn_text own n) w) where
    -- a host that calls it again and again, whatever main has counted
    pub host_does : (count : ℕ) → DoesEvents n i until limit event (Stands n scratch i until asked count)
    host_does count = record {
      fires = λ st after e seen more w r is h s.
          let t = turn_reacts number count st after e seen more w r is h s in (t.0, (event_is w ∙ t.1.0, t.1.1));
      stops = λ st e block word seen w r is h s. event_is w ∙ turn_stops number count st e block word seen w r is h s;
      ends = λ st word seen w r some is s. event_is w ∙ turn_ends number count st word seen w r some is s;
    }

    -- the loop of main, which counts the events
    module _ (main : Around) (l : ℕ) (called : main.calls event_name ≡ Some event) (most : limit < 2 ^ 62) where
      abbrev counted_turn : World → Ran
      counted_turn = one_turn main l fired_name (one (call event_name))

      abbrev Counted : State → World → Type 0
      Counted st w = Stands n scratch i until asked st.fired st w

      turn_is : (w : World) → counted_turn w ≡ then_run (run_block env number (turn_text own n) w) (count_up l fired_name)
      turn_is w = ap (λ (r : Ran). then_run r (count_up l fired_name)) (call_alone main (later l 1) event_name w event called ∙ event_is w)

      counts : (st after : State) (more : List Obs) (r : Ran) → st.fired < 2 ^ 62 → after.fired ≡ st.fired + 1 → GoesTo st.fired after more r
          → (w' : World) × ((then_run r (count_up l fired_name) ≡ record { seen = more; how = going w' }) × Counted after w')
      counts st after more r small more_fired t =
          let c = count_is l fired_name t.0 st.fired t.1.1.fired (omega (arith, small)) in (
            c.0,
            (
              then_seen r more t.0 (count_up l fired_name) t.1.0 ∙ (ap (behind more) c.1.0
                  ∙ ap (λ (s : List Obs). let q : Ran = record { seen = s; how = going c.0 } in q) (append-nil more)),
              record {
                shows = state_stays n scratch i until asked after t.0 c.0
                    (puts_alone (assigns_only is_between) t.0 c.0 fired_name 0 (pos (suc st.fired)) refl c.1.1) t.1.1.shows;
                chosen = λ p f q. put_other t.0 c.0 fired_name 0 (pos (suc st.fired)) chosen_name 0 c.1.1 refl ∙ t.1.1.chosen p f q;
                coming = put_other t.0 c.0 fired_name 0 (pos (suc st.fired)) next_date 0 c.1.1 refl ∙ t.1.1.coming;
                fired =
                    put_there t.0 c.0 fired_name 0 (pos (suc st.fired)) c.1.1
                    ∙ ap (λ (k : ℕ). Some (pos k)) (let same : suc st.fired ≡ after.fired = omega (arith, more_fired) in same);
              },
            ),
          )

      pub main_does : DoesEvents n i until limit counted_turn Counted
      main_does = record {
        fires = λ st after e seen more w r is h s.
            let some_left = (fires_within until (limit - st.fired) (halts n st.active) (next st.pending.events) e is).0 in
            let c = counts st after more (run_block env number (turn_text own n) w) (omega (arith, some_left, most)) (ap (λ (a : State). a.fired) h.leads)
            (turn_reacts number st.fired st after e seen more w r is h s) in
            (c.0, (turn_is w ∙ c.1.0, c.1.1));
        stops = λ st e block word seen w r is h s.
            turn_is w ∙ halted_stays (run_block env number (turn_text own n) w) (stop_seen e.date (source_of n e.source) block word) (count_up l fired_name)
            (turn_stops number st.fired st e block word seen w r is h s);
        ends = λ st word seen w r some is s.
            subst (λ (r : Ran). Ends r word) (sym (turn_is w))
            (then_ends (run_block env number (turn_text own n) w) (count_up l fired_name) word (turn_ends number st.fired st word seen w r some is s));
      }
