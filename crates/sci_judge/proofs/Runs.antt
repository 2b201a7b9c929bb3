-- The run, step after step: what is observed of each, and what is then reachable.
use Rattle.std.proofs.Common.{◌≡◌, ℕ, ◌+◌, ◌-◌, ◌*◌, ◌<◌, ◌≤◌, List, [], ◌∷◌, ◌++◌, length, refl, sym, ap, subst, ◌∙◌, append_assoc, append-nil, Result, Ok, Err, Some, None, arith}
use Rattle.std.specs.Prelude.{Option, ℤ, pos, negsuc}
use Rattle.std.proofs.lemmas.Nat.{mul-le}
use Rattle.sci_base.specs.declared.observation.Obs.{Obs}
use Rattle.sci_base.specs.declared.observation.Obs.TheVariants.{End}
use Rattle.sci_io.specs.Taken.{SinkState, Writes}
use Rattle.sci_io.specs.declared.sink.Failed.{Failed}
use Rattle.sci_io.proofs.Advance.{same_text, then_writes, stopped as stopped_writes, nothing_due}
use Rattle.sci_trace.specs.Lines.{text}
use Rattle.sci_net.specs.Parts.{Parts}
use Rattle.sci_net.specs.Net.{IsNet}
use Rattle.sci_net.specs.Sources.{sources_of, source_of}
use Rattle.sci_net.proofs.TypedSpecs.{all_typed, sources_few}
use Rattle.sci_reaction.specs.Memory.{Columns}
use Rattle.sci_pending.specs.Pending.{Event, Pending, next}
use Rattle.sci_bank.specs.Bank.{Meaning}
use Rattle.sci_run.specs.Activity.{halts}
use Rattle.sci_run.specs.Laws.{AreLoopFree}
use Rattle.sci_run.specs.Programs.{firing_of, with_delay, with_delays}
use Rattle.sci_net.specs.declared.Feed.{Feed}
use Rattle.sci_net.specs.declared.Source.{Source}
use Rattle.sci_net.specs.declared.Source.TheVariants.{Start, Port}
use Rattle.sci_run.specs.Run.{State, first_state, taken, ReactionOutcome, Leads, StopsWith, IsOutcome, Decision, Over, Fires, comes_next, Reacts, Stops, Reachable, here, IsRun}
use Rattle.sci_run.specs.Finish.{ByEnd, ByStop, Finish, ended, stopped, stopped_at_start}
use Rattle.sci_run.proofs.Ranges.{fires_within, orders_within}
use Rattle.sci_run.proofs.Ordered.{stands_ahead, fires_ahead}
use Rattle.sci_run.proofs.Traces.{some_rest, run_goes_on}
use Rattle.sci_run.proofs.Unique.{one_trace}
use Rattle.sci_run.proofs.Finish.{further, run_is_over}
use Rattle.sci_events.specs.declared.events.Event.{Event as Kept}
use Rattle.sci_events.specs.Events.{event_of}
use Rattle.sci_store.specs.Frame.{Fixed, IsFrame}
use Rattle.sci_store.specs.Store.{Standing}
use Rattle.sci_store.proofs.Writing.{text-append}
use Rattle.sci_judge.specs.Reacting.{Shows, end_seen, step_seen, Follows, IsStep}

-- ---- the source that fires

-- the source at this place fires at this date from this state, where this has been observed before: start before the run, or the event that
-- comes next, which is taken from the pending ones
pub data IsFiring (n : Parts) (i : Columns) (until limit : ℕ) : (seen : List Obs) → (date source : ℕ) → State → Type 0 where
  start : IsFiring n i until limit [] 0 0 (first_state n)
  event : (st : State) (e : Event) (seen : List Obs) → Reachable n i until limit st seen → comes_next n until (limit - st.fired) st ≡ Fires e
      → IsFiring n i until limit seen e.date e.source (taken st e)

pub sources_short : (n : Parts) → IsNet n → length (sources_of n) ≤ 2049
sources_short n net = let few = sources_few 1 n.specs (all_typed n net) in let most = net.wired.few in omega (arith, few, most)

one_order : (date source : ℕ) (d : ℤ) (p : Pending) → (with_delay date source d p).programmed ≤ p.programmed + 1
one_order date source (pos d) p = omega arith
one_order date source (negsuc d) p = omega arith

orders_more : (date : ℕ) (delays : Feed → ℤ) (k : ℕ) (ss : List Source) (p : Pending) → (with_delays date delays k ss p).programmed ≤ p.programmed + length ss
orders_more date delays k [] p = omega arith
orders_more date delays k (Start ∷ ss) p = let r = orders_more date delays (k + 1) ss p in omega (arith, r)
orders_more date delays k (Port q ∷ ss) p =
    let r = orders_more date delays (k + 1) ss (with_delay date k (delays q) p) in
    let one = one_order date k (delays q) p in omega (arith, r, one)

module _ (n : Parts) (i : Columns) (until limit : ℕ) (net : IsNet n) where
  pub firing_source : {seen : List Obs} {date source : ℕ} {st : State} → IsFiring n i until limit seen date source st → source < length (sources_of n)
  firing_source start = omega arith
  firing_source (event st e seen stands fires) = (fires_ahead n until (limit - st.fired) st e (stands_ahead n net i until limit st seen stands) fires).source

  pub firing_date : {seen : List Obs} {date source : ℕ} {st : State} → IsFiring n i until limit seen date source st → until ≤ 4611686018427387904 → date ≤ 4611686018427387904
  firing_date start bound = omega arith
  firing_date (event st e seen stands fires) bound =
      let w = (fires_within until (limit - st.fired) (halts n st.active) (next st.pending.events) e fires).1 in omega (arith, w, bound)

  pub firing_few : {seen : List Obs} {date source : ℕ} {st : State} → IsFiring n i until limit seen date source st → st.fired ≤ limit
  firing_few start = omega arith
  firing_few (event st e seen stands fires) =
      let w = (fires_within until (limit - st.fired) (halts n st.active) (next st.pending.events) e fires).0 in omega (arith, w)

  orders : {seen : List Obs} {date source : ℕ} {st : State} → IsFiring n i until limit seen date source st → st.pending.programmed ≤ (st.fired + 2) * length (sources_of n)
  orders start = let before = orders_more 0 (firing_of n) 0 (sources_of n) (record { events = []; programmed = 0 }) in omega (arith, before)
  orders (event st e seen stands fires) = let so_far = orders_within n i until limit st seen stands in omega (arith, so_far)

  pub firing_orders : {seen : List Obs} {date source : ℕ} {st : State} → IsFiring n i until limit seen date source st → limit ≤ 1000000
      → st.pending.programmed + length (sources_of n) < 9223372036854775808
  firing_orders {st = st} f bound =
      let o = orders f in
      let few = firing_few f in
      let short = sources_short n net in
      let most = mul-le (st.fired + 2) (length (sources_of n)) 1000002 2049 (omega (arith, few, bound)) short in
      omega (arith, o, most, short)

-- ---- what a reaction of the run adds to what was observed

module _ (n : Parts) (i : Columns) (until limit : ℕ) where
  -- behind a reaction with values
  reacted_on : {seen more : List Obs} {date source : ℕ} {st after : State} → IsFiring n i until limit seen date source st
      → Reacts n i date (source_of n source) st after more → Reachable n i until limit after (seen ++ more)
  reacted_on {more = more} {after = after} start h =
      record { first = after; at_start = more; later = []; started = h; reaches = here; observed = sym (append-nil more) }
  reacted_on {more = more} {after = after} (event st e seen stands fires) h = further n i until limit st after e seen more stands fires h

  -- a reaction that stops the run
  stopped_on : {seen more : List Obs} {date source : ℕ} {st : State} → IsFiring n i until limit seen date source st
      → (h : Stops n i date (source_of n source) st more) → (last : State) × Finish n i until limit last (ByStop h.block h.word) (seen ++ more)
  stopped_on start h =
      (first_state n, subst (λ os. Finish n i until limit (first_state n) (ByStop h.block h.word) os) (sym h.observed) (stopped_at_start h.block h.word h.result))
  stopped_on (event st e seen stands fires) h =
      (st, subst (λ os. Finish n i until limit st (ByStop h.block h.word) (seen ++ os)) (sym h.observed) (stopped st e h.block h.word seen stands fires h.result))

  -- as many have fired as before
  same_left : (date source : ℕ) {st after : State} {more : List Obs} → Reacts n i date (source_of n source) st after more → limit - after.fired ≡ limit - st.fired
  same_left date source h = ap (λ (a : State). limit - a.fired) h.leads

  module _ (net : IsNet n) (free : AreLoopFree n) where
    -- the run observes this first
    abbrev pub BeginsWith : List Obs → Type 0
    BeginsWith seen = (os : List Obs) → IsRun n i until limit os → (rest : List Obs) × (os ≡ seen ++ rest)

    begins_reached : {st : State} {seen : List Obs} → Reachable n i until limit st seen → BeginsWith seen
    begins_reached {st} {seen} r os h =
        let rest = some_rest n i net free until limit st in
        (rest.0, one_trace n i net free until limit os (seen ++ rest.0) h (run_goes_on n i until limit st seen rest.0 r rest.1))

    begins_over : {seen : List Obs} → IsRun n i until limit seen → BeginsWith seen
    begins_over {seen} r os h = ([], one_trace n i net free until limit os seen h r ∙ sym (append-nil seen))

    begins_by : (st : State) (seen : List Obs) (d : Decision) → comes_next n until (limit - st.fired) st ≡ d → Reachable n i until limit st seen → BeginsWith (seen ++ end_seen d)
    begins_by st seen (Over word) is r = begins_over ((run_is_over n i until limit (seen ++ End word ∷ [])).1 (st, ByEnd word, ended st word seen r is))
    begins_by st seen (Fires e) is r = subst BeginsWith (sym (append-nil seen)) (begins_reached r)

    -- what is observed of a step goes on in the trace
    pub begins_step : {seen : List Obs} {date source : ℕ} {st : State} → IsFiring n i until limit seen date source st → (o : ReactionOutcome)
        → IsOutcome n i date (source_of n source) st o → BeginsWith (seen ++ step_seen n until (limit - st.fired) o)
    begins_step {seen} {date} {source} {st} f (Leads more after) h =
        let d = comes_next n until (limit - st.fired) after in
        subst BeginsWith (append_assoc seen more (end_seen d))
        (begins_by after (seen ++ more) d (ap (λ left. comes_next n until left after) (same_left date source h)) (reacted_on f h))
    begins_step {seen} f (StopsWith more) h =
        let s = stopped_on f h in begins_over ((run_is_over n i until limit (seen ++ more)).1 (s.0, ByStop h.block h.word, s.1))

-- ---- the loop

-- where a source fires, and this was observed and written before
pub record IsOnWay (f : Fixed) (i : Columns) (until limit : ℕ) (s : Standing) (banks : List Meaning) (pending : Pending) (old now : SinkState) (date source k : ℕ) : Type 0 where
  pub seen : List Obs
  pub st : State
  pub firing : IsFiring f.net i until limit seen date source st
  pub shows : Shows f s banks pending st
  pub fired : st.fired ≡ k
  pub written : Writes {T = Unit {0}} {E = Failed} old now (text seen) (Ok tt)

pub start_on_way : (f : Fixed) (i : Columns) (until limit : ℕ) (s : Standing) (banks : List Meaning) (pending : Pending) (sink : SinkState)
    → Shows f s banks pending (first_state f.net) → IsOnWay f i until limit s banks pending sink sink 0 0 0
start_on_way f i until limit s banks pending sink shows =
    record { seen = []; st = first_state f.net; firing = start; shows = shows; fired = refl; written = nothing_due sink tt }

module _ (f : Fixed) (frame : IsFrame f) (i : Columns) (until limit : ℕ) (s : Standing) (banks : List Meaning) (pending : Pending) (old mid : SinkState) (date source k : ℕ)
    (w : IsOnWay f i until limit s banks pending old mid date source k) where
  pub source_within : source < length (sources_of f.net)
  source_within = firing_source f.net i until limit frame.net w.firing

  pub date_within : until ≤ 4611686018427387904 → date ≤ 4611686018427387904
  date_within bound = firing_date f.net i until limit frame.net w.firing bound

  pub orders_few : limit ≤ 1000000 → pending.programmed + length (sources_of f.net) < 9223372036854775808
  orders_few bound =
      subst (λ (p : Pending). p.programmed + length (sources_of f.net) < 9223372036854775808) (sym w.shows.pending_is)
      (firing_orders f.net i until limit frame.net w.firing bound)

  pub not_over : k ≡ limit + 1 → ⊥
  not_over is = let few = firing_few f.net i until limit frame.net w.firing in let fired = w.fired in omega (arith, few, fired, is)

  module _ (o : ReactionOutcome) (outcome : IsOutcome f.net i date (source_of f.net source) w.st o) where
    abbrev more : List Obs
    more = step_seen f.net until (limit - k) o

    left_is : step_seen f.net until (limit - w.st.fired) o ≡ more
    left_is = ap (λ j. step_seen f.net until (limit - j) o) w.fired

    begins : BeginsWith f.net i until limit frame.net frame.free (w.seen ++ more)
    begins = subst (λ (l : List Obs). BeginsWith f.net i until limit frame.net frame.free (w.seen ++ l)) left_is
        (begins_step f.net i until limit frame.net frame.free w.firing o outcome)

    -- where the sink fails, a front of the trace was written
    pub trace_cut : {T U : Type 0} (p : Result T Failed) (q : Result U Failed) (e d : Failed) (new : SinkState) (os : List Obs) → p ≡ Err e → q ≡ Err d
        → IsRun f.net i until limit os → Writes mid new (text more) p → Writes old new (text os) q
    trace_cut {T} {U} p q e d new os pe qd run h =
        let b = begins os run in
        same_text (sym (text-append w.seen (more ++ b.0)) ∙ ap text (sym (append_assoc w.seen more b.0) ∙ sym b.1))
        (then_writes (text w.seen) (text (more ++ b.0)) (Ok tt) q tt refl w.written
        (same_text (sym (text-append more b.0)) (stopped_writes (text more) (text b.0) p q e d pe qd h)))

    module _ (t : Standing) (later : List Meaning) (due : Pending) where
      -- the run is over
      over_run : (p : ReactionOutcome) → IsOutcome f.net i date (source_of f.net source) w.st p → IsStep f until (limit - k) t later due p None
          → IsRun f.net i until limit (w.seen ++ step_seen f.net until (limit - k) p)
      over_run (StopsWith seen) h is =
          let x = stopped_on f.net i until limit w.firing h in (run_is_over f.net i until limit (w.seen ++ seen)).1 (x.0, ByStop h.block h.word, x.1)
      over_run (Leads seen after) h is = by_next (comes_next f.net until (limit - k) after) refl is
        where
          by_next : (d : Decision) → comes_next f.net until (limit - k) after ≡ d → Follows f t later due after d None → IsRun f.net i until limit (w.seen ++ (seen ++ end_seen d))
          by_next (Over word) ends is =
              let left : limit - after.fired ≡ limit - k = same_left f.net i until limit date source h ∙ ap (λ j. limit - j) w.fired in
              subst (IsRun f.net i until limit) (append_assoc w.seen seen (End word ∷ []))
              ((run_is_over f.net i until limit ((w.seen ++ seen) ++ End word ∷ [])).1
              (after, ByEnd word, ended after word (w.seen ++ seen) (reacted_on f.net i until limit w.firing h) (ap (λ j. comes_next f.net until j after) left ∙ ends)))
          by_next (Fires e) goes is = absurd (none_some is.0 is.1)
            where
              none_some : (x : Kept) → None ≡ Some x → ⊥
              none_some x e = cc

      pub trace_written : {T U : Type 0} (x : T) (y : U) (new : SinkState) (os : List Obs) (found : Option Kept) → found ≡ None → IsStep f until (limit - k) t later due o found
          → IsRun f.net i until limit os → Writes {T = T} {E = Failed} mid new (text more) (Ok x) → Writes {T = U} {E = Failed} old new (text os) (Ok y)
      trace_written {T} {U} x y new os found none is run h =
          let whole = over_run o outcome (subst (IsStep f until (limit - k) t later due o) none is) in
          let same = one_trace f.net i frame.net frame.free until limit (w.seen ++ more) os whole run in
          same_text (sym (text-append w.seen more) ∙ ap text same)
          (then_writes {T = Unit {0}} {E = Failed} {U = U} {F = Failed} (text w.seen) (text more) (Ok tt) (Ok y) tt refl w.written
          (record { ok = h.ok; quiet = h.quiet; works = h.works; cut = h.cut; dropped = h.dropped; cause = h.cause; fails = h.fails; later = h.later }))

      -- an event fires next
      on_way : (e : Kept) (new : SinkState) → Writes {T = Unit {0}} {E = Failed} old new (text (w.seen ++ more)) (Ok tt) → (p : ReactionOutcome) → p ≡ o
          → IsOutcome f.net i date (source_of f.net source) w.st p → IsStep f until (limit - k) t later due p (Some e)
          → IsOnWay f i until limit t later due old new e.date e.source (k + 1)
      on_way e new wrote (StopsWith seen) same h is = absurd (some_none is)
        where
          some_none : Some e ≡ None → ⊥
          some_none x = cc
      on_way e new wrote (Leads seen after) same h is = by_next (comes_next f.net until (limit - k) after) refl is
        where
          by_next : (d : Decision) → comes_next f.net until (limit - k) after ≡ d → Follows f t later due after d (Some e) → IsOnWay f i until limit t later due old new e.date e.source (k + 1)
          by_next (Over word) ends is = absurd (some_none is)
            where
              some_none : Some e ≡ None → ⊥
              some_none x = cc
          by_next (Fires c) goes is =
              let left : limit - after.fired ≡ limit - k = same_left f.net i until limit date source h ∙ ap (λ j. limit - j) w.fired in
              let kept : e ≡ is.0 = some_is e is.0 is.1 in
              let same_event : event_of e ≡ c = ap event_of kept ∙ is.2 in
              let fires : comes_next f.net until (limit - after.fired) after ≡ Fires (event_of e) =
              ap (λ j. comes_next f.net until j after) left ∙ (goes ∙ ap (λ x. Fires x) (sym same_event)) in
              let seen_is : more ≡ seen = ap (step_seen f.net until (limit - k)) (sym same) ∙ (ap (λ x. seen ++ end_seen x) goes ∙ append-nil seen) in
              record {
                seen = w.seen ++ seen;
                st = taken after (event_of e);
                firing = event after (event_of e) (w.seen ++ seen) (reacted_on f.net i until limit w.firing h) fires;
                shows = subst (λ (x : Event). Shows f t later due (taken after x)) (sym same_event) is.3;
                fired = ap (λ j. j + 1) (ap (λ (a : State). a.fired) h.leads ∙ w.fired);
                written = same_text (ap (λ (l : List Obs). text (w.seen ++ l)) seen_is) wrote;
              }
            where
              some_is : (x y : Kept) → Some x ≡ Some y → x ≡ y
              some_is x y q = cc

      pub goes_further : {T : Type 0} (x : T) (new : SinkState) (found : Option Kept) (e : Kept) → found ≡ Some e → IsStep f until (limit - k) t later due o found
          → Writes {T = T} {E = Failed} mid new (text more) (Ok x) → IsOnWay f i until limit t later due old new e.date e.source (k + 1)
      goes_further {T} x new found e is step h =
          on_way e new
          (same_text (sym (text-append w.seen more))
          (then_writes {T = Unit {0}} {E = Failed} {U = Unit {0}} {F = Failed} (text w.seen) (text more) (Ok tt) (Ok tt) tt refl w.written
          (record { ok = h.ok; quiet = h.quiet; works = h.works; cut = h.cut; dropped = h.dropped; cause = h.cause; fails = h.fails; later = h.later })))
          o refl outcome (subst (IsStep f until (limit - k) t later due o) is step)
