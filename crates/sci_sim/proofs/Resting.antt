-- The rest of a run from a state, step after step: what is observed of each, and what is then reachable.
use Rattle.std.proofs.Common.{◌≡◌, ℕ, zero, suc, ◌+◌, ◌-◌, Bool, true, List, [], ◌∷◌, ◌++◌, refl, sym, ap, subst, ◌∙◌, append_assoc, append-nil, Result, Ok, Err, Some, None, arith}
use Rattle.sci_base.specs.declared.observation.Obs.{Obs}
use Rattle.sci_base.specs.declared.observation.Obs.TheVariants.{End}
use Rattle.sci_base.specs.declared.observation.EndWord.{EndWord}
use Rattle.sci_io.specs.Taken.{SinkState, Writes}
use Rattle.sci_io.specs.declared.sink.Failed.{Failed}
use Rattle.sci_io.proofs.Advance.{same_text, then_writes, stopped as stopped_writes, nothing_due}
use Rattle.sci_trace.specs.Lines.{text}
use Rattle.sci_net.specs.Parts.{Parts}
use Rattle.sci_net.specs.Sources.{source_of}
use Rattle.sci_reaction.specs.Memory.{Columns}
use Rattle.sci_pending.specs.Pending.{Event, next}
use Rattle.sci_bank.specs.Bank.{Meaning}
use Rattle.sci_run.specs.Activity.{halts}
use Rattle.sci_run.specs.Run.{State, taken, ReactionOutcome, Leads, StopsWith, IsOutcome, Decision, Over, Fires, in_time, comes_next, Reacts, Stops, EndsOr, Observes, IsRunFrom, IsRest, ReachableFrom, here, reacted}
use Rattle.sci_run.proofs.Ranges.{fires_within}
use Rattle.sci_run.proofs.Traces.{left_over, some_rest, goes_on}
use Rattle.sci_run.proofs.Unique.{one_rest}
use Rattle.sci_store.specs.Frame.{Fixed, IsFrame}
use Rattle.sci_store.specs.Store.{Standing}
use Rattle.sci_store.specs.Written.{tallied}
use Rattle.sci_store.proofs.Writing.{text-append}
use Rattle.sci_kept.specs.Kept.{Kept}
use Rattle.sci_sim.specs.declared.end.RunEnd.{RunEnd}
use Rattle.sci_sim.specs.declared.end.RunEnd.TheVariants.{End as Ended, Stop as Stopped}
use Rattle.sci_sim.specs.declared.end.Step.{Step}
use Rattle.sci_sim.specs.declared.end.Step.TheVariants.{More, Over as IsOver}
use Rattle.sci_sim.specs.At.{Running, IsReady, IsAt, AreTallied}
use Rattle.sci_sim.specs.Reacting.{FiresNext, event as by_event}
use Rattle.sci_sim.specs.Steps.{end_due, end_seen, step_seen, IsStep}
use Rattle.sci_sim.specs.Rest.{IsRestFinished}
use Rattle.sci_sim.proofs.Steps.{tallied_more}
use Rattle.sci_sim.proofs.Runs.{some_event, the_end}

-- ---- what is observed from a state on

module _ (n : Parts) (i : Columns) (until limit : ℕ) where
  -- an end is due there
  ends_from : (left : ℕ) (st : State) (word : EndWord) → comes_next n until left st ≡ Over word → IsRunFrom n i until left st (End word ∷ [])
  unfolding IsRunFrom
  ends_from zero st word is = subst (λ x. EndsOr x (End word ∷ []) (λ e. ⊥)) (sym is) refl
  ends_from (suc left) st word is =
      subst (λ x. EndsOr x (End word ∷ []) (λ e. Observes n i e.date (source_of n e.source) (taken st e) (IsRunFrom n i until left) (End word ∷ []))) (sym is) refl

  pub end_is_rest : (st : State) (word : EndWord) → comes_next n until (limit - st.fired) st ≡ Over word → IsRest n i until limit st (End word ∷ [])
  end_is_rest st word is = ends_from (limit - st.fired) st word is

  -- the event that fires there stops the run
  stops_from : (left : ℕ) (st : State) (e : Event) (seen : List Obs) → comes_next n until (suc left) st ≡ Fires e → Stops n i e.date (source_of n e.source) (taken st e) seen
      → IsRunFrom n i until (suc left) st seen
  unfolding IsRunFrom
  stops_from left st e seen is h =
      subst (λ x. EndsOr x seen (λ f. Observes n i f.date (source_of n f.source) (taken st f) (IsRunFrom n i until left) seen)) (sym is)
      (record { outcome = StopsWith seen; is = h; goes_on = refl })

  pub stop_is_rest : (st : State) (e : Event) (seen : List Obs) → comes_next n until (limit - st.fired) st ≡ Fires e → Stops n i e.date (source_of n e.source) (taken st e) seen
      → IsRest n i until limit st seen
  stop_is_rest st e seen fires h =
      let k = left_over n i until limit (limit - st.fired) (halts n st.active) (in_time until (next st.pending.events)) e fires in
      subst (λ m. IsRunFrom n i until m st seen) (sym k.1) (stops_from k.0 st e seen (subst (λ m. comes_next n until m st ≡ Fires e) k.1 fires) h)

-- ---- the net on its way

-- After so many steps from the first state this was observed, and written; an event fires next.
pub record IsRestOnWay (i : Columns) (until limit : ℕ) (first : State) (from r : Running) (banks : List Meaning) (old new : SinkState) (k : ℕ) : Type 0 where
  pub started : r.started ≡ true
  pub st : State
  pub seen : List Obs
  pub at : IsAt r banks st
  pub reaches : ReachableFrom r.fixed.net i until limit first st seen
  pub e : Event
  pub fires : comes_next r.fixed.net until (limit - st.fired) st ≡ Fires e
  pub tallied : AreTallied from.store r.store seen
  pub fixed : r.fixed ≡ from.fixed
  pub offset : r.offset ≡ from.offset
  pub steps : st.fired ≡ first.fired + k
  pub written : Writes {T = Unit {0}} {E = Failed} old new (text seen) (Ok tt)

some_event_due : (d : Decision) → None ≡ end_due d → (e : Event) × (d ≡ Fires e)
some_event_due (Over word) h = absurd cc
some_event_due (Fires e) h = (e, refl)

some_end_due : (d : Decision) (word : EndWord) → Some word ≡ end_due d → d ≡ Over word
some_end_due (Over other) word h = cc
some_end_due (Fires e) word h = absurd cc

pub rest_begins : (i : Columns) (until limit : ℕ) (first : State) (r : Running) (banks : List Meaning) (s : SinkState) → r.started ≡ true → IsAt r banks first
    → None ≡ end_due (comes_next r.fixed.net until (limit - first.fired) first) → IsRestOnWay i until limit first r r banks s s 0
rest_begins i until limit first r banks s started at none =
    let e = some_event_due (comes_next r.fixed.net until (limit - first.fired) first) none in
    record {
      started = started;
      st = first;
      seen = [];
      at = at;
      reaches = here;
      e = e.0;
      fires = e.1;
      tallied = record { lines = refl; sum = refl };
      fixed = refl;
      offset = refl;
      steps = omega arith;
      written = nothing_due s tt;
    }

-- what is observed from the state on begins so
abbrev pub BeginsRest : Parts → Columns → (until limit : ℕ) → State → List Obs → Type 0
BeginsRest n i until limit st seen = (os : List Obs) → IsRest n i until limit st os → (rest : List Obs) × (os ≡ seen ++ rest)

module _ (i : Columns) (until limit : ℕ) (first : State) (from r : Running) (banks : List Meaning) (old mid : SinkState) (k : ℕ)
    (w : IsRestOnWay i until limit first from r banks old mid k) where
  -- the event that fires now
  pub fires_now : FiresNext r.fixed.net until limit r.started w.st w.e.date w.e.source (taken w.st w.e)
  fires_now =
      subst (λ (b : Bool). FiresNext r.fixed.net until limit b w.st w.e.date w.e.source (taken w.st w.e)) (sym w.started) (by_event w.st w.e w.fires)

  -- one step more than events may fire is never done
  pub no_more : k ≡ limit → ⊥
  no_more is =
      let few = (fires_within until (limit - w.st.fired) (halts r.fixed.net w.st.active) (next w.st.pending.events) w.e w.fires).0 in
      let steps = w.steps in
      omega (arith, few, steps, is)

  -- its reaction
  module _ (o : ReactionOutcome) (outcome : IsOutcome r.fixed.net i w.e.date (source_of r.fixed.net w.e.source) (taken w.st w.e) o) where
    abbrev pub all : List Obs
    all = w.seen ++ step_seen r.fixed.net until limit o

    pub all_tallied : (b : Running) → AreTallied r.store b.store (step_seen r.fixed.net until limit o) → AreTallied from.store b.store all
    all_tallied b counted = tallied_more from.store r.store b.store w.seen (step_seen r.fixed.net until limit o) w.tallied counted

    module _ (b : Running) (later : List Meaning) (fixed : b.fixed ≡ r.fixed) (counted : AreTallied r.store b.store (step_seen r.fixed.net until limit o)) where
      record Behind (more : List Obs) (after : State) : Type 0 where
        leads : Leads more after ≡ o
        reaches : ReachableFrom r.fixed.net i until limit first after (w.seen ++ more)
        fired : after.fired ≡ first.fired + (k + 1)
        at : IsAt b later after

      behind : (more : List Obs) (after : State) → Leads more after ≡ o → Reacts r.fixed.net i w.e.date (source_of r.fixed.net w.e.source) (taken w.st w.e) after more
          → IsAt b later after → Behind more after
      behind more after is h at =
          let fired : after.fired ≡ w.st.fired + 1 = ap (λ (a : State). a.fired) h.leads in
          let steps = w.steps in
          record { leads = is; reaches = reacted w.st after w.e w.seen more w.reaches w.fires h; fired = omega (arith, fired, steps); at = at }

      -- where an event fires behind it
      goes_by : (new : SinkState) → Writes {T = Unit {0}} {E = Failed} mid new (text (step_seen r.fixed.net until limit o)) (Ok tt) → b.offset ≡ r.offset → b.started ≡ true
          → (p : ReactionOutcome) → p ≡ o → IsOutcome r.fixed.net i w.e.date (source_of r.fixed.net w.e.source) (taken w.st w.e) p
          → IsStep i until limit w.e.date w.e.source (taken w.st w.e) b later p More → IsRestOnWay i until limit first from b later old new (k + 1)
      goes_by new h offset started (StopsWith more) is out step = absurd step
      goes_by new h offset started (Leads more after) is out step =
          let q = behind more after is out step.0 in
          let e = some_event (comes_next b.fixed.net until (limit - after.fired) after) (sym step.2) in
          let fires = ap (λ (x : Fixed). comes_next x.net until (limit - after.fired) after) (sym fixed) ∙ e.1 in
          let is_all : w.seen ++ more ≡ all = ap (λ os. w.seen ++ os) (sym (append-nil more) ∙ ap (λ d. more ++ end_seen d) (sym fires) ∙ ap (step_seen r.fixed.net until limit) is) in
          record {
            started = started;
            st = after;
            seen = all;
            at = step.0;
            reaches = subst (λ (x : Fixed). ReachableFrom x.net i until limit first after all) (sym fixed) (subst (ReachableFrom r.fixed.net i until limit first after) is_all q.reaches);
            e = e.0;
            fires = e.1;
            tallied = all_tallied b counted;
            fixed = fixed ∙ w.fixed;
            offset = offset ∙ w.offset;
            steps = q.fired;
            written = same_text (sym (text-append w.seen (step_seen r.fixed.net until limit o)))
                (then_writes {T = Unit {0}} {E = Failed} {U = Unit {0}} {F = Failed} (text w.seen) (text (step_seen r.fixed.net until limit o)) (Ok tt) (Ok tt) tt refl w.written h);
          }

      -- a step that isn't the last
      pub goes_further : {T : Type 0} (x : T) (new : SinkState) → Writes {T = T} {E = Failed} mid new (text (step_seen r.fixed.net until limit o)) (Ok x)
          → (step : Step) → step ≡ More → IsStep i until limit w.e.date w.e.source (taken w.st w.e) b later o step → b.offset ≡ r.offset → b.started ≡ true
          → IsRestOnWay i until limit first from b later old new (k + 1)
      goes_further {T} x new h step goes is offset started =
          goes_by new (record { ok = h.ok; quiet = h.quiet; works = h.works; cut = h.cut; dropped = h.dropped; cause = h.cause; fails = h.fails; later = h.later }) offset started
          o refl outcome (subst (IsStep i until limit w.e.date w.e.source (taken w.st w.e) b later o) goes is)

      -- the last one
      pub finished_by : (step : Step) (end : RunEnd) → step ≡ IsOver end → IsStep i until limit w.e.date w.e.source (taken w.st w.e) b later o step
          → IsRestFinished i until limit first b later all end
      finished_by step end over is = by_outcome o end refl outcome (subst (IsStep i until limit w.e.date w.e.source (taken w.st w.e) b later o) over is)
        where
          by_end : (more : List Obs) (after : State) (end : RunEnd) → Behind more after
              → (word : EndWord) × (comes_next b.fixed.net until (limit - after.fired) after ≡ Over word) × (end ≡ Ended word) → IsRestFinished i until limit first b later all end
          by_end more after end q (word, ends, end_is) =
              let ends_here = ap (λ (x : Fixed). comes_next x.net until (limit - after.fired) after) (sym fixed) ∙ ends in
              let is_all : (w.seen ++ more) ++ End word ∷ [] ≡ all = append_assoc w.seen more (End word ∷ [])
              ∙ ap (λ os. w.seen ++ os) (ap (λ d. more ++ end_seen d) (sym ends_here) ∙ ap (step_seen r.fixed.net until limit) q.leads) in
              subst (IsRestFinished i until limit first b later all) (sym end_is) (record {
                last = after;
                seen = w.seen ++ more;
                reaches = subst (λ (x : Fixed). ReachableFrom x.net i until limit first after (w.seen ++ more)) (sym fixed) q.reaches;
                ends = ends;
                observed = sym is_all;
                at = q.at;
              })

          by_outcome : (p : ReactionOutcome) (end : RunEnd) → p ≡ o → IsOutcome r.fixed.net i w.e.date (source_of r.fixed.net w.e.source) (taken w.st w.e) p
              → IsStep i until limit w.e.date w.e.source (taken w.st w.e) b later p (IsOver end) → IsRestFinished i until limit first b later all end
          by_outcome (Leads more after) end is h step =
              by_end more after end (behind more after is h step.0) (the_end (comes_next b.fixed.net until (limit - after.fired) after) end (sym step.2))
          by_outcome (StopsWith more) (Ended word) is h step = absurd step
          by_outcome (StopsWith more) (Stopped word) is h step = record {
            last = w.st;
            before = w.seen;
            reaches = subst (λ (x : Fixed). ReachableFrom x.net i until limit first w.st w.seen) (sym fixed) w.reaches;
            e = w.e;
            fires = subst (λ (x : Fixed). comes_next x.net until (limit - w.st.fired) w.st ≡ Fires w.e) (sym fixed) w.fires;
            seen = more;
            observed = ap (λ os. w.seen ++ os) (ap (step_seen r.fixed.net until limit) (sym is));
            stopped = step;
          }

    -- what was observed, and then from there on, is the rest
    module _ (frame : IsFrame from.fixed) where
      here_framed : IsFrame r.fixed
      here_framed = subst IsFrame (sym w.fixed) frame

      reached_begins : {st : State} {seen : List Obs} → ReachableFrom r.fixed.net i until limit first st seen → BeginsRest r.fixed.net i until limit first seen
      reached_begins {st} {seen} q os h =
          let rest = some_rest r.fixed.net i here_framed.net here_framed.free until limit st in
          (rest.0, one_rest r.fixed.net i here_framed.net here_framed.free until limit first os (seen ++ rest.0) h (goes_on r.fixed.net i until limit first q rest.0 rest.1))

      over_begins : (seen : List Obs) → IsRest r.fixed.net i until limit first seen → BeginsRest r.fixed.net i until limit first seen
      over_begins seen q os h = ([], one_rest r.fixed.net i here_framed.net here_framed.free until limit first os seen h q ∙ sym (append-nil seen))

      begins_by : (st : State) (seen : List Obs) (d : Decision) → comes_next r.fixed.net until (limit - st.fired) st ≡ d → ReachableFrom r.fixed.net i until limit first st seen
          → BeginsRest r.fixed.net i until limit first (seen ++ end_seen d)
      begins_by st seen (Over word) is q = over_begins (seen ++ End word ∷ []) (goes_on r.fixed.net i until limit first q (End word ∷ []) (end_is_rest r.fixed.net i until limit st word is))
      begins_by st seen (Fires e) is q = subst (BeginsRest r.fixed.net i until limit first) (sym (append-nil seen)) (reached_begins q)

      begins : (p : ReactionOutcome) → IsOutcome r.fixed.net i w.e.date (source_of r.fixed.net w.e.source) (taken w.st w.e) p
          → BeginsRest r.fixed.net i until limit first (w.seen ++ step_seen r.fixed.net until limit p)
      begins (Leads more after) h =
          let d = comes_next r.fixed.net until (limit - after.fired) after in
          subst (BeginsRest r.fixed.net i until limit first) (append_assoc w.seen more (end_seen d))
          (begins_by after (w.seen ++ more) d refl (reacted w.st after w.e w.seen more w.reaches w.fires h))
      begins (StopsWith more) h = over_begins (w.seen ++ more) (goes_on r.fixed.net i until limit first w.reaches more (stop_is_rest r.fixed.net i until limit w.st w.e more w.fires h))

      -- where out fails, a front of the rest is due
      pub rest_cut : {T U : Type 0} (p : Result T Failed) (q : Result U Failed) (e f : Failed) (new : SinkState) (os : List Obs) → p ≡ Err e → q ≡ Err f
          → IsRest from.fixed.net i until limit first os → Writes mid new (text (step_seen r.fixed.net until limit o)) p → Writes old new (text os) q
      rest_cut {T} {U} p q e f new os pe qf run h =
          let more = step_seen r.fixed.net until limit o in
          let b = begins o outcome os (subst (λ (x : Fixed). IsRest x.net i until limit first os) (sym w.fixed) run) in
          let failed : Writes {T = T} {E = Failed} mid new (text more ++ text b.0) p = stopped_writes (text more) (text b.0) p p e e pe pe h in
          same_text (sym (text-append w.seen (more ++ b.0)) ∙ ap text (same_front more b.0 os b.1))
          (then_writes (text w.seen) (text (more ++ b.0)) (Ok tt) q tt refl w.written (same_text (sym (text-append more b.0)) (as_other p q e f new (text more ++ text b.0) pe qf failed)))
        where
          same_front : (more rest os : List Obs) → os ≡ (w.seen ++ more) ++ rest → w.seen ++ (more ++ rest) ≡ os
          same_front more rest os h = sym (append_assoc w.seen more rest) ∙ sym h

          as_other : {T U : Type 0} (p : Result T Failed) (q : Result U Failed) (e f : Failed) (new : SinkState) (t : List ℕ) → p ≡ Err e → q ≡ Err f → Writes mid new t p → Writes mid new t q
          as_other p q e f new t pe qf h = same_text (append-nil t) (stopped_writes t [] p q e f pe qf h)

      pub rest_written : {T U : Type 0} (x : T) (y : U) (new : SinkState) (os : List Obs) → IsRest from.fixed.net i until limit first all → IsRest from.fixed.net i until limit first os
          → Writes {T = T} {E = Failed} mid new (text (step_seen r.fixed.net until limit o)) (Ok x) → Writes {T = U} {E = Failed} old new (text os) (Ok y)
      rest_written {T} {U} x y new os run other h =
          let is = one_rest from.fixed.net i frame.net frame.free until limit first all os run other in
          same_text (sym (text-append w.seen (step_seen r.fixed.net until limit o)) ∙ ap text is)
          (then_writes {T = Unit {0}} {E = Failed} {U = U} {F = Failed} (text w.seen) (text (step_seen r.fixed.net until limit o)) (Ok tt) (Ok y) tt refl w.written
          (record { ok = h.ok; quiet = h.quiet; works = h.works; cut = h.cut; dropped = h.dropped; cause = h.cause; fails = h.fails; later = h.later }))

-- ---- what was observed is the rest

pub rest_is : (i : Columns) (until limit : ℕ) (first : State) (n : Parts) (b : Running) (later : List Meaning) (os : List Obs) (end : RunEnd) → b.fixed.net ≡ n
    → IsRestFinished i until limit first b later os end → IsRest n i until limit first os
rest_is i until limit first n b later os (Ended word) net h =
    subst (λ m. IsRest m i until limit first os) net (subst (IsRest b.fixed.net i until limit first) (sym h.observed)
    (goes_on b.fixed.net i until limit first h.reaches (End word ∷ []) (end_is_rest b.fixed.net i until limit h.last word h.ends)))
rest_is i until limit first n b later os (Stopped word) net h =
    subst (λ m. IsRest m i until limit first os) net (subst (IsRest b.fixed.net i until limit first) (sym h.observed)
    (goes_on b.fixed.net i until limit first h.reaches h.seen (stop_is_rest b.fixed.net i until limit h.last h.e h.seen h.fires
    (record { block = h.stopped.block; word = word; result = h.stopped.stops; observed = h.stopped.observed }))))

-- ---- an end that is due at once

module _ (i : Columns) (until limit : ℕ) (first : State) (r : Running) (word : EndWord) (due : Some word ≡ end_due (comes_next r.fixed.net until (limit - first.fired) first)) where
  pub due_rest : IsRest r.fixed.net i until limit first (End word ∷ [])
  due_rest = end_is_rest r.fixed.net i until limit first word (some_end_due (comes_next r.fixed.net until (limit - first.fired) first) word due)

  pub due_only : IsFrame r.fixed → (os : List Obs) → IsRest r.fixed.net i until limit first os → End word ∷ [] ≡ os
  due_only frame os h = one_rest r.fixed.net i frame.net frame.free until limit first (End word ∷ []) os due_rest h

  pub due_at_once : (b : Running) (banks : List Meaning) → b.fixed ≡ r.fixed → IsAt b banks first → IsRestFinished i until limit first b banks (End word ∷ []) (Ended word)
  due_at_once b banks fixed at = record {
    last = first;
    seen = [];
    reaches = here;
    ends = ap (λ (x : Fixed). comes_next x.net until (limit - first.fired) first) fixed ∙ some_end_due (comes_next r.fixed.net until (limit - first.fired) first) word due;
    observed = refl;
    at = at;
  }

pub ready_tallied : (v : Running) (k : Kept) (os : List Obs) → k.fixed ≡ v.fixed → k.store ≡ tallied v.store os → IsReady v → IsReady (record v { fixed = k.fixed; store = k.store })
ready_tallied v k os fixed e h =
    subst (λ (f : Fixed). IsReady (record v { fixed = f; store = k.store })) (sym fixed)
    (subst (λ (x : Standing). IsReady (record v { store = x })) (sym e)
    (record {
      frame = h.frame;
      rows = h.rows;
      row = h.row;
      begun = λ has. let b = h.begun has in record { whole = b.whole; others = b.others };
      marked = h.marked;
    }))
