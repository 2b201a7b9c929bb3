-- The run, step after step: what is observed of each, and what is then reachable.
use Rattle.std.proofs.Common.{◌≡◌, ℕ, ◌+◌, ◌-◌, Bool, true, false, List, [], ◌∷◌, ◌++◌, ◌⊎◌, inl, inr, refl, sym, ap, subst, ◌∙◌, append_assoc, append-nil, Result, Ok, Err, arith, length}
use Rattle.std.specs.Prelude.{if◌then◌else◌}
use Rattle.std.proofs.lemmas.List.{length-append}
use Rattle.sci_base.specs.declared.observation.Obs.{Obs}
use Rattle.sci_base.specs.declared.observation.Obs.TheVariants.{End}
use Rattle.sci_base.specs.declared.observation.EndWord.{EndWord}
use Rattle.sci_io.specs.Taken.{SinkState, Writes}
use Rattle.sci_io.specs.declared.sink.Failed.{Failed}
use Rattle.sci_io.proofs.Advance.{same_text, then_writes, stopped as stopped_writes, nothing_due}
use Rattle.sci_trace.specs.Lines.{text}
use Rattle.sci_net.specs.Parts.{Parts}
use Rattle.sci_net.specs.Net.{IsNet}
use Rattle.sci_net.specs.Sources.{source_of}
use Rattle.sci_reaction.specs.Memory.{Columns}
use Rattle.sci_pending.specs.Pending.{Event, next}
use Rattle.sci_bank.specs.Bank.{Meaning}
use Rattle.sci_run.specs.Activity.{halts}
use Rattle.sci_run.specs.Laws.{AreLoopFree}
use Rattle.sci_run.specs.Run.{State, first_state, taken, ReactionOutcome, Leads, StopsWith, IsOutcome, Decision, Over, Fires, comes_next, Reacts, Stops, Reachable, here, IsRun}
use Rattle.sci_run.specs.Finish.{ByEnd, ByStop, Finish, ended, stopped, stopped_at_start}
use Rattle.sci_run.proofs.Ranges.{fires_within}
use Rattle.sci_run.proofs.Traces.{some_rest, run_goes_on}
use Rattle.sci_run.proofs.Unique.{one_trace}
use Rattle.sci_run.proofs.Finish.{further, run_is_over}
use Rattle.sci_sim.specs.declared.end.RunEnd.{RunEnd}
use Rattle.sci_sim.specs.declared.end.RunEnd.TheVariants.{End as Ended, Stop as Stopped}
use Rattle.sci_sim.specs.declared.end.Step.{Step}
use Rattle.sci_sim.specs.declared.end.Step.TheVariants.{More, Over as IsOver}
use Rattle.sci_store.specs.Frame.{Fixed, IsFrame}
use Rattle.sci_store.specs.Store.{Standing}
use Rattle.sci_store.specs.Tally.{lines_after}
use Rattle.sci_store.specs.Written.{sum_of}
use Rattle.sci_sim.specs.At.{Running, IsAt, IsAtStart, IsTallied, AreTallied}
use Rattle.sci_sim.specs.Reacting.{FiresNext, start as at_start, event as by_event}
use Rattle.sci_sim.specs.Steps.{end_seen, step_of, step_seen, IsStep, IsFiring, start, event, IsFinished}
use Rattle.sci_store.proofs.Writing.{lines_twice, sum_twice, text-append}

-- ---- the net in the midst of a run

-- behind a reaction of the run, and this has been observed; an event fires next
pub record IsUnderWay (i : Columns) (until limit : ℕ) (r : Running) (banks : List Meaning) (seen : List Obs) : Type 0 where
  pub started : r.started ≡ true
  pub st : State
  pub at : IsAt r banks st
  pub reachable : Reachable r.fixed.net i until limit st seen
  pub tallied : IsTallied r.store seen
  pub e : Event
  pub fires : comes_next r.fixed.net until (limit - st.fired) st ≡ Fires e

-- before start reacts, or behind a reaction of a run that isn't over
abbrev pub IsBeforeStep : Columns → (until limit : ℕ) → Running → List Meaning → (seen : List Obs) → Type 0
IsBeforeStep i until limit r banks seen = (IsAtStart r.fixed.net r banks × (seen ≡ [])) ⊎ IsUnderWay i until limit r banks seen

-- the source that fires in the next step, of the run and of the state
pub record NextStep (i : Columns) (until limit : ℕ) (r : Running) (banks : List Meaning) (seen : List Obs) : Type 0 where
  pub st : State
  pub from : State
  pub date : ℕ
  pub source : ℕ
  pub at : IsAt r banks st
  pub fires : FiresNext r.fixed.net until limit r.started st date source from
  pub firing : IsFiring r.fixed.net i until limit seen date source from
  pub tallied : IsTallied r.store seen

pub next_step : (i : Columns) (until limit : ℕ) (r : Running) (banks : List Meaning) (seen : List Obs) → IsBeforeStep i until limit r banks seen → NextStep i until limit r banks seen
next_step i until limit r banks seen (inl s) =
    let n = r.fixed.net in
    record {
      st = first_state n;
      from = first_state n;
      date = 0;
      source = 0;
      at = s.0.at;
      fires = subst (λ (b : Bool). FiresNext n until limit b (first_state n) 0 0 (first_state n)) (sym s.0.not_started) at_start;
      firing = subst (λ os. IsFiring n i until limit os 0 0 (first_state n)) (sym s.1) start;
      tallied = subst (λ os. IsTallied r.store os) (sym s.1) (record { lines = s.0.lines; sum = s.0.sum });
    }
next_step i until limit r banks seen (inr u) =
    let n = r.fixed.net in
    record {
      st = u.st;
      from = taken u.st u.e;
      date = u.e.date;
      source = u.e.source;
      at = u.at;
      fires = subst (λ (b : Bool). FiresNext n until limit b u.st u.e.date u.e.source (taken u.st u.e)) (sym u.started) (by_event u.st u.e u.fires);
      firing = event u.st u.e seen u.reachable u.fires;
      tallied = u.tallied;
    }

-- what is observed more is counted
tallied_on : (s t : Standing) (seen more : List Obs) → IsTallied s seen → AreTallied s t more → IsTallied t (seen ++ more)
tallied_on s t seen more h g = record {
  lines = g.lines ∙ ap (λ l. lines_after l (length more)) h.lines ∙ lines_twice 0 (length seen) (length more) ∙ ap (lines_after 0) (sym (length-append seen more));
  sum = g.sum ∙ ap (λ x. sum_of x more) h.sum ∙ sum_twice 0 seen more;
}

-- ---- what a reaction of the run adds to what was observed

module _ (n : Parts) (i : Columns) (until limit : ℕ) where
  -- behind a reaction with values
  pub reacted_on : {seen more : List Obs} {date source : ℕ} {st after : State} → IsFiring n i until limit seen date source st
      → Reacts n i date (source_of n source) st after more → Reachable n i until limit after (seen ++ more)
  reacted_on {more = more} {after = after} start h =
      record { first = after; at_start = more; later = []; started = h; reaches = here; observed = sym (append-nil more) }
  reacted_on {more = more} {after = after} (event st e seen stands fires) h = further n i until limit st after e seen more stands fires h

  -- a reaction that stops the run
  pub stopped_on : {seen more : List Obs} {date source : ℕ} {st : State} → IsFiring n i until limit seen date source st
      → (h : Stops n i date (source_of n source) st more) → (last : State) × Finish n i until limit last (ByStop h.block h.word) (seen ++ more)
  stopped_on start h =
      (first_state n, subst (λ os. Finish n i until limit (first_state n) (ByStop h.block h.word) os) (sym h.observed) (stopped_at_start h.block h.word h.result))
  stopped_on (event st e seen stands fires) h =
      (st, subst (λ os. Finish n i until limit st (ByStop h.block h.word) (seen ++ os)) (sym h.observed) (stopped st e h.block h.word seen stands fires h.result))

  module _ (net : IsNet n) (free : AreLoopFree n) where
    -- the run observes this first
    abbrev pub BeginsWith : List Obs → Type 0
    BeginsWith seen = (os : List Obs) → IsRun n i until limit os → (rest : List Obs) × (os ≡ seen ++ rest)

    -- what has been observed up to a reachable state begins the trace, and what has been observed of a run that is over is the trace
    begins_reached : {st : State} {seen : List Obs} → Reachable n i until limit st seen → BeginsWith seen
    begins_reached {st} {seen} r os h =
        let rest = some_rest n i net free until limit st in
        (rest.0, one_trace n i net free until limit os (seen ++ rest.0) h (run_goes_on n i until limit st seen rest.0 r rest.1))

    begins_over : {seen : List Obs} → IsRun n i until limit seen → BeginsWith seen
    begins_over {seen} r os h = ([], one_trace n i net free until limit os seen h r ∙ sym (append-nil seen))

    begins_by : (st : State) (seen : List Obs) (d : Decision) → comes_next n until (limit - st.fired) st ≡ d → Reachable n i until limit st seen → BeginsWith (seen ++ end_seen d)
    begins_by st seen (Over word) is r = begins_over ((run_is_over n i until limit (seen ++ End word ∷ [])).1 (st, ByEnd word, ended st word seen r is))
    begins_by st seen (Fires e) is r = subst BeginsWith (sym (append-nil seen)) (begins_reached r)

    -- what is observed of a step goes on in the trace
    pub begins_step : {seen : List Obs} {date source : ℕ} {st : State} → IsFiring n i until limit seen date source st → (o : ReactionOutcome)
        → IsOutcome n i date (source_of n source) st o → BeginsWith (seen ++ step_seen n until limit o)
    begins_step {seen} f (Leads more after) h =
        let d = comes_next n until (limit - after.fired) after in
        subst BeginsWith (append_assoc seen more (end_seen d)) (begins_by after (seen ++ more) d refl (reacted_on f h))
    begins_step {seen} f (StopsWith more) h =
        let s = stopped_on f h in begins_over ((run_is_over n i until limit (seen ++ more)).1 (s.0, ByStop h.block h.word, s.1))

-- ---- the loop

-- how many steps were done
abbrev pub steps_of : Running → ℕ
steps_of r = if r.started then r.fired + 1 else 0

-- After so many steps of the run this was observed, and written; it isn't over.
pub record IsOnWay (i : Columns) (until limit : ℕ) (from r : Running) (banks : List Meaning) (old new : SinkState) (k : ℕ) : Type 0 where
  pub seen : List Obs
  pub before : IsBeforeStep i until limit r banks seen
  pub fixed : r.fixed ≡ from.fixed
  pub offset : r.offset ≡ from.offset
  pub steps : steps_of r ≡ k
  pub written : Writes {T = Unit {0}} {E = Failed} old new (text seen) (Ok tt)

pub not_over : (step : Step) → ((e : RunEnd) → step ≡ IsOver e → ⊥) → step ≡ More
not_over More h = refl
not_over (IsOver e) h = absurd (h e refl)

none_yet : (b : Bool) (k : ℕ) → b ≡ false → (if b then k + 1 else 0) ≡ 0
none_yet false k h = refl
none_yet true k h = absurd (cc h)

one_more : (old new : Bool) (was is k : ℕ) → new ≡ true → is ≡ (if old then was + 1 else was) → (if old then was + 1 else 0) ≡ k → (old ≡ false → was ≡ 0) → (if new then is + 1 else 0) ≡ k + 1
one_more true true was is k n h g z = omega (arith, h, g)
one_more false true was is k n h g z = let e = z refl in omega (arith, h, g, e)
one_more old false was is k n h g z = absurd (cc n)

pub start_on_way : (i : Columns) (until limit : ℕ) (r : Running) (banks : List Meaning) (s : SinkState) → IsAtStart r.fixed.net r banks → IsOnWay i until limit r r banks s s 0
start_on_way i until limit r banks s h = record { seen = []; before = inl (h, refl); fixed = refl; offset = refl; steps = none_yet r.started r.fired h.not_started; written = nothing_due s tt }

pub some_event : (d : Decision) → step_of d ≡ More → (e : Event) × (d ≡ Fires e)
some_event (Over word) h = absurd (cc h)
some_event (Fires e) h = (e, refl)

pub the_end : (d : Decision) (end : RunEnd) → step_of d ≡ IsOver end → (word : EndWord) × (d ≡ Over word) × (end ≡ Ended word)
the_end (Over word) end h = (word, refl, cc h)
the_end (Fires e) end h = absurd (cc h)

module _ (i : Columns) (until limit : ℕ) (from r : Running) (banks : List Meaning) (old mid : SinkState) (k : ℕ) (w : IsOnWay i until limit from r banks old mid k) where
  -- the source that fires now
  pub fires_now : NextStep i until limit r banks w.seen
  fires_now = next_step i until limit r banks w.seen w.before

  idle_at_start : r.started ≡ false → r.fired ≡ 0
  idle_at_start h = by_cases w.before
    where
      by_cases : IsBeforeStep i until limit r banks w.seen → r.fired ≡ 0
      by_cases (inl s) = s.0.at.fired
      by_cases (inr u) = let both : true ≡ false = sym u.started ∙ h in absurd (cc)

  -- its reaction
  module _ (o : ReactionOutcome) (outcome : IsOutcome r.fixed.net i fires_now.date (source_of r.fixed.net fires_now.source) fires_now.from o) where
    abbrev pub all : List Obs
    all = w.seen ++ step_seen r.fixed.net until limit o

    module _ (b : Running) (later : List Meaning) (fixed : b.fixed ≡ r.fixed) (tallied : AreTallied r.store b.store (step_seen r.fixed.net until limit o)) where
      all_tallied : IsTallied b.store all
      all_tallied = tallied_on r.store b.store w.seen (step_seen r.fixed.net until limit o) fires_now.tallied tallied

      -- where an event fires behind it
      under_way : (p : ReactionOutcome) → p ≡ o → IsOutcome r.fixed.net i fires_now.date (source_of r.fixed.net fires_now.source) fires_now.from p
          → IsStep i until limit fires_now.date fires_now.source fires_now.from b later p More → b.started ≡ true → IsUnderWay i until limit b later all
      under_way (StopsWith more) is h step started = absurd step
      under_way (Leads more after) is h step started =
          let e = some_event (comes_next b.fixed.net until (limit - after.fired) after) (sym step.2) in
          let fires = ap (λ (x : Fixed). comes_next x.net until (limit - after.fired) after) (sym fixed) ∙ e.1 in
          let is_all : w.seen ++ more ≡ all = ap (λ os. w.seen ++ os) (sym (append-nil more) ∙ ap (λ d. more ++ end_seen d) (sym fires) ∙ ap (step_seen r.fixed.net until limit) is) in
          record {
            started = started;
            st = after;
            at = step.0;
            reachable = subst (λ (x : Fixed). Reachable x.net i until limit after all) (sym fixed)
                (subst (Reachable r.fixed.net i until limit after) is_all (reacted_on r.fixed.net i until limit fires_now.firing h));
            tallied = all_tallied;
            e = e.0;
            fires = e.1;
          }

      -- a step that isn't the last
      pub goes_further : {T : Type 0} (x : T) (new : SinkState) → Writes {T = T} {E = Failed} mid new (text (step_seen r.fixed.net until limit o)) (Ok x)
          → (step : Step) → step ≡ More → IsStep i until limit fires_now.date fires_now.source fires_now.from b later o step → b.offset ≡ r.offset → b.started ≡ true
          → b.fired ≡ (if r.started then r.fired + 1 else r.fired) → IsOnWay i until limit from b later old new (k + 1)
      goes_further {T} x new h step goes is offset started fired = record {
        seen = all;
        before = inr (under_way o refl outcome (subst (IsStep i until limit fires_now.date fires_now.source fires_now.from b later o) goes is) started);
        fixed = fixed ∙ w.fixed;
        offset = offset ∙ w.offset;
        steps = one_more r.started b.started r.fired b.fired k started fired w.steps idle_at_start;
        written = same_text (sym (text-append w.seen (step_seen r.fixed.net until limit o)))
            (then_writes {T = Unit {0}} {E = Failed} {U = Unit {0}} {F = Failed} (text w.seen) (text (step_seen r.fixed.net until limit o)) (Ok tt) (Ok tt) tt refl w.written
            (record { ok = h.ok; quiet = h.quiet; works = h.works; cut = h.cut; dropped = h.dropped; cause = h.cause; fails = h.fails; later = h.later }));
      }

      -- the last one
      pub finished_by : (step : Step) (end : RunEnd) → step ≡ IsOver end → IsStep i until limit fires_now.date fires_now.source fires_now.from b later o step → IsFinished i until limit b later all end
      finished_by step end over is =
          by_outcome o end refl outcome (subst (IsStep i until limit fires_now.date fires_now.source fires_now.from b later o) over is)
        where
          by_end : (more : List Obs) (after : State) (end : RunEnd) → Leads more after ≡ o → Reachable r.fixed.net i until limit after (w.seen ++ more) → IsAt b later after
              → (word : EndWord) × (comes_next b.fixed.net until (limit - after.fired) after ≡ Over word) × (end ≡ Ended word) → IsFinished i until limit b later all end
          by_end more after end is reaches at (word, ends, end_is) =
              let ends_here = ap (λ (x : Fixed). comes_next x.net until (limit - after.fired) after) (sym fixed) ∙ ends in
              let is_all : (w.seen ++ more) ++ End word ∷ [] ≡ all = append_assoc w.seen more (End word ∷ [])
              ∙ ap (λ os. w.seen ++ os) (ap (λ d. more ++ end_seen d) (sym ends_here) ∙ ap (step_seen r.fixed.net until limit) is) in
              subst (IsFinished i until limit b later all) (sym end_is) (
                after,
                subst (Finish b.fixed.net i until limit after (ByEnd word)) is_all
                    (ended after word (w.seen ++ more) (subst (λ (x : Fixed). Reachable x.net i until limit after (w.seen ++ more)) (sym fixed) reaches) ends),
                at,
                all_tallied,
              )

          by_outcome : (p : ReactionOutcome) (end : RunEnd) → p ≡ o → IsOutcome r.fixed.net i fires_now.date (source_of r.fixed.net fires_now.source) fires_now.from p
              → IsStep i until limit fires_now.date fires_now.source fires_now.from b later p (IsOver end) → IsFinished i until limit b later all end
          by_outcome (Leads more after) end is h step =
              by_end more after end is (reacted_on r.fixed.net i until limit fires_now.firing h) step.0 (the_end (comes_next b.fixed.net until (limit - after.fired) after) end (sym step.2))
          by_outcome (StopsWith more) (Ended word) is h step = absurd step
          by_outcome (StopsWith more) (Stopped word) is h step =
              let firing = subst (λ (x : Fixed). IsFiring x.net i until limit w.seen fires_now.date fires_now.source fires_now.from) (sym fixed) fires_now.firing in
              let s = stopped_on b.fixed.net i until limit firing (record { block = step.block; word = word; result = step.stops; observed = step.observed }) in
              let same = ap (λ os. w.seen ++ os) (ap (step_seen r.fixed.net until limit) is) in (
                s.0,
                step.block,
                subst (Finish b.fixed.net i until limit s.0 (ByStop step.block word)) same s.1,
                all_tallied,
                record { before = w.seen; seen = more; observed = sym same; date = fires_now.date; source = fires_now.source; from = fires_now.from; fires = firing; stopped = step },
              )

      -- what was observed is the trace
      pub trace_is : (end : RunEnd) → IsFinished i until limit b later all end → IsRun from.fixed.net i until limit all
      trace_is (Ended word) h =
          subst (λ (x : Fixed). IsRun x.net i until limit all) (fixed ∙ w.fixed) ((run_is_over b.fixed.net i until limit all).1 (h.0, ByEnd word, h.1))
      trace_is (Stopped word) h =
          subst (λ (x : Fixed). IsRun x.net i until limit all) (fixed ∙ w.fixed) ((run_is_over b.fixed.net i until limit all).1 (h.0, ByStop h.1 word, h.2))

    module _ (frame : IsFrame from.fixed) where
      pub trace_written : {T U : Type 0} (x : T) (y : U) (new : SinkState) (os : List Obs) → IsRun from.fixed.net i until limit all → IsRun from.fixed.net i until limit os
          → Writes {T = T} {E = Failed} mid new (text (step_seen r.fixed.net until limit o)) (Ok x) → Writes {T = U} {E = Failed} old new (text os) (Ok y)
      trace_written {T} {U} x y new os run other h =
          let is = one_trace from.fixed.net i frame.net frame.free until limit all os run other in
          same_text (sym (text-append w.seen (step_seen r.fixed.net until limit o)) ∙ ap text is)
          (then_writes {T = Unit {0}} {E = Failed} {U = U} {F = Failed} (text w.seen) (text (step_seen r.fixed.net until limit o)) (Ok tt) (Ok y) tt refl w.written
          (record { ok = h.ok; quiet = h.quiet; works = h.works; cut = h.cut; dropped = h.dropped; cause = h.cause; fails = h.fails; later = h.later }))

      -- where out fails, a front of the trace is due
      pub trace_cut : {T U : Type 0} (p : Result T Failed) (q : Result U Failed) (e f : Failed) (new : SinkState) (os : List Obs) → p ≡ Err e → q ≡ Err f
          → IsRun from.fixed.net i until limit os → Writes mid new (text (step_seen r.fixed.net until limit o)) p → Writes old new (text os) q
      trace_cut {T} {U} p q e f new os pe qf run h =
          let more = step_seen r.fixed.net until limit o in
          let here = subst IsFrame (sym w.fixed) frame in
          let b = begins_step r.fixed.net i until limit here.net here.free fires_now.firing o outcome os (subst (λ (x : Fixed). IsRun x.net i until limit os) (sym w.fixed) run) in
          let failed : Writes {T = T} {E = Failed} mid new (text more ++ text b.0) p = stopped_writes (text more) (text b.0) p p e e pe pe h in
          same_text (sym (text-append w.seen (more ++ b.0)) ∙ ap text (same_front more b.0 os b.1))
          (then_writes (text w.seen) (text (more ++ b.0)) (Ok tt) q tt refl w.written (same_text (sym (text-append more b.0)) (stopped_writes' p q e f new (text more ++ text b.0) pe qf failed)))
        where
          same_front : (more rest os : List Obs) → os ≡ (w.seen ++ more) ++ rest → w.seen ++ (more ++ rest) ≡ os
          same_front more rest os h = sym (append_assoc w.seen more rest) ∙ sym h

          stopped_writes' : {T U : Type 0} (p : Result T Failed) (q : Result U Failed) (e f : Failed) (new : SinkState) (t : List ℕ) → p ≡ Err e → q ≡ Err f → Writes mid new t p → Writes mid new t q
          stopped_writes' p q e f new t pe qf h = same_text (append-nil t) (stopped_writes t [] p q e f pe qf h)

  -- one step more than events may fire is never done
  pub no_more : k ≡ limit + 1 → ⊥
  no_more is = by_cases w.before
    where
      fired_all : (b : Bool) (fired : ℕ) → b ≡ true → (if b then fired + 1 else 0) ≡ k → fired ≡ limit
      fired_all true fired h g = omega (arith, g, is)
      fired_all false fired h g = absurd (cc h)

      by_cases : IsBeforeStep i until limit r banks w.seen → ⊥
      by_cases (inl s) = let none = none_yet r.started r.fired s.0.not_started in let steps = w.steps in omega (arith, none, steps, is)
      by_cases (inr u) =
          let few = (fires_within until (limit - u.st.fired) (halts r.fixed.net u.st.active) (next u.st.pending.events) u.e u.fires).0 in
          let all = fired_all r.started r.fired u.started w.steps in
          let fired = u.at.fired in
          omega (arith, few, all, fired)
