-- A table that no rule widens holds of every run.
use Rattle.std.proofs.Common.{◌≡◌, ℕ, ◌+◌, ◌-◌, ◌<◌, ◌==◌, not, true, List, [], Some, refl, sym, ap, subst, ◌∙◌, arith, inl, inr, ⊎_elim}
use Rattle.std.proofs.lemmas.Bool.{cases_lt}
use Rattle.sci_base.specs.declared.observation.Obs.{Obs}
use Rattle.sci_base.specs.declared.observation.StopWord.{StopWord}
use Rattle.sci_base.specs.Lists.{at}
use Rattle.sci_kinds.specs.Table.{first_held}
use Rattle.sci_net.specs.declared.Feed.{Feed}
use Rattle.sci_net.specs.declared.Source.{Source}
use Rattle.sci_net.specs.declared.Source.TheVariants.{Start, Port}
use Rattle.sci_net.specs.Net.{IsNet}
use Rattle.sci_net.specs.Parts.{Parts, IsBlock, spec_of}
use Rattle.sci_net.specs.Sources.{sources_of, source_of}
use Rattle.sci_reaction.specs.Active.{IsAlways}
use Rattle.sci_reaction.specs.Memory.{Columns, AreColumns}
use Rattle.sci_reaction.specs.Result.{Stopped, IsResult}
use Rattle.sci_reaction.proofs.Next.{first_in_range}
use Rattle.sci_pending.specs.Pending.{Event, next}
use Rattle.sci_run.specs.Activity.{halts}
use Rattle.sci_run.specs.Programs.{firing_of, first_pending}
use Rattle.sci_run.specs.Run.{State, first_state, taken, Fires, comes_next, Reacts, ReachableFrom, here, reacted, Reachable}
use Rattle.sci_run.specs.Finish.{Ending, ByEnd, ByStop, Finish, ended, stopped, stopped_at_start}
use Rattle.sci_run.specs.Laws.{AreLoopFree}
use Rattle.sci_run.proofs.Ordered.{fires_next}
use Rattle.sci_run.proofs.Traces.{free_at}
use Rattle.sci_ranges_base.specs.Intervals.{one, range_at}
use Rattle.sci_ranges_rules.proofs.Handing.{one_has, join_has}
use Rattle.sci_ranges_reads.specs.Live.{IsLive, begins, dated, IsQuiet, IsFirst, IsPossible}
use Rattle.sci_ranges_reads.specs.Reading.{HasActed}
use Rattle.sci_ranges.specs.Columns.{KeepWithin}
use Rattle.sci_ranges.specs.Table.{Table}
use Rattle.sci_ranges.specs.Closed.{IsClosed}
use Rattle.sci_ranges.specs.Holds.{IsCovered}
use Rattle.sci_ranges.specs.Laws.{ClosedHolds}
use Rattle.sci_ranges.proofs.Reading.{IsBefore}
use Rattle.sci_ranges.proofs.Knowing.{stops_listed}
use Rattle.sci_ranges.proofs.Programming.{kept_live, next_live, delays_live, source_at}
use Rattle.sci_ranges.proofs.Following.{Stands, Follows, reacts_follows}

-- behind a reaction: what start always activates has acted, and where start is quiet, what the first event always activates once it has fired
pub record Behind (n : Parts) (t : Table) (st : State) : Type 0 where
  pub stands : Stands n t st
  pub active : (b : ℕ) → IsBlock n b → st.active b ≡ true → IsPossible n t.dead b × (0 < st.activations b)
  pub started : (b : ℕ) → IsBlock n b → IsAlways n Start b → 0 < st.activations b
  pub waits : IsQuiet n t.dead → st.fired ≡ 0 → st.pending ≡ first_pending n
  pub fired : (f : Feed) → IsFirst n f → IsQuiet n t.dead → 0 < st.fired → (b : ℕ) → IsBlock n b → IsAlways n (Port f) b → 0 < st.activations b

-- the word of a stop is listed
abbrev Listed : Table → Ending → Type 0
Listed t (ByEnd word) = Unit {0}
Listed t (ByStop b word) = t.stops b word ≡ true

module _ (n : Parts) (i j : Columns) (t : Table) (net : IsNet n) (free : AreLoopFree n) (columns : AreColumns n i) (keeps : KeepWithin n i j) (closed : IsClosed n i t) where
  -- ---- before the run

  start_stands : Stands n t (first_state n)
  start_stands = record {
    memory = first_in_range n net;
    held = λ b e block l.
        join_has (Some (one (at (first_held (spec_of n b)) e))) (range_at (t.shows b) e) (at (first_held (spec_of n b)) e) (inl (one_has (at (first_held (spec_of n b)) e)));
    states = closed.first;
    acted = λ b e h. absurd (omega (arith, h));
    pending = delays_live n t.dead 0 (firing_of n) 0 (sources_of n) (record { events = []; programmed = 0 })
        (λ k q e d.
        let place : 0 + k ≡ k = omega arith in
        let there : IsLive n t.dead (Port q) = dated q (source_at n k q e) d in
        subst (IsLive n t.dead) (sym (ap (source_of n) place ∙ e)) there)
        tt;
  }

  -- ---- behind start

  pub start_follows : (first : State) (seen : List Obs) → Reacts n j 0 Start (first_state n) first seen → Follows n t Start (first_state n) first
  start_follows first seen h = reacts_follows n i j t net columns keeps closed 0 Start (first_state n) first seen begins (free_at n free 0) start_stands (λ b block has. absurd has) h

  pub behind_start : (first : State) (seen : List Obs) → Reacts n j 0 Start (first_state n) first seen → Behind n t first
  behind_start first seen h =
      let f = start_follows first seen h in
      let none : first.fired ≡ 0 = ap (λ (a : State). a.fired) h.leads in
      record {
        stands = f.stands;
        active = f.active;
        started = f.always;
        waits = λ quiet e. f.quiet quiet;
        fired = λ q is quiet some. absurd (omega (arith, none, some));
      }

  -- where start stops, the table lists the word
  pub start_listed : (b : ℕ) (word : StopWord) → IsResult n (first_state n).memory j Start (Stopped b word) → t.stops b word ≡ true
  start_listed b word stop =
      let h = start_stands in
      stops_listed n i j t (first_state n).memory Start net h.memory begins (record { held = h.held; acted = λ c e has. absurd has }) h.states columns keeps closed (free_at n free 0) b word stop

  -- ---- an event

  -- where start is quiet the event that fires first is the first one
  first_fires : (st : State) (e : Event) (f : Feed) → Behind n t st → IsFirst n f → IsQuiet n t.dead → st.fired ≡ 0 → next st.pending.events ≡ Some e → source_of n e.source ≡ Port f
  first_fires st e f behind is quiet none fires =
      let same : next (first_pending n).events ≡ Some e = subst (λ p. next p.events ≡ Some e) (behind.waits quiet none) fires in
      let event : is.event ≡ e = same_event (sym is.is_next ∙ same) in
      subst (λ (x : Event). source_of n x.source ≡ Port f) event is.source
    where
      same_event : {a b : Event} → Some a ≡ Some b → a ≡ b
      same_event h = cc

  has_acted : (st : State) (e : Event) → Behind n t st → next st.pending.events ≡ Some e → (b : ℕ) → IsBlock n b → HasActed n t.dead (source_of n e.source) b → 0 < st.activations b
  has_acted st e behind fires b block has = by_source (source_of n e.source) refl has
    where
      by_source : (s : Source) → source_of n e.source ≡ s → HasActed n t.dead s b → 0 < st.activations b
      by_source Start same has = absurd has
      by_source (Port q) same (inl always) = behind.started b block always
      by_source (Port q) same (inr w) =
          ⊎_elim (λ some. behind.fired w.first w.is_first w.quiet some b block w.acts)
          (λ none. absurd (w.other (same_feed (sym same ∙ first_fires st e w.first behind w.is_first w.quiet (omega (arith, none)) fires))))
          (cases_lt 0 st.fired)
        where
          same_feed : {a b : Feed} → Port a ≡ Port b → a ≡ b
          same_feed h = cc

  before_event : (st : State) (e : Event) → Behind n t st → next st.pending.events ≡ Some e → IsBefore n t st.memory (source_of n e.source)
  before_event st e behind fires = record {
    held = behind.stands.held;
    acted = λ b d has block l. behind.stands.acted b d (has_acted st e behind fires b block has) block l;
  }

  event_live : (st : State) (e : Event) → Behind n t st → next st.pending.events ≡ Some e → IsLive n t.dead (source_of n e.source)
  event_live st e behind fires = next_live n t.dead st.pending.events e fires behind.stands.pending

  taken_stands : (st : State) (e : Event) → Stands n t st → Stands n t (taken st e)
  taken_stands st e h = record {
    memory = h.memory;
    held = h.held;
    states = h.states;
    acted = h.acted;
    pending = kept_live n t.dead (λ x. not (x.order == e.order)) st.pending.events h.pending;
  }

  pub event_follows : (st after : State) (e : Event) (seen : List Obs) → Behind n t st → next st.pending.events ≡ Some e → Reacts n j e.date (source_of n e.source) (taken st e) after seen
      → Follows n t (source_of n e.source) (taken st e) after
  event_follows st after e seen behind fires h =
      reacts_follows n i j t net columns keeps closed e.date (source_of n e.source) (taken st e) after seen (event_live st e behind fires) (free_at n free e.source)
      (taken_stands st e behind.stands) (has_acted st e behind fires) h

  pub behind_event : (st after : State) (e : Event) (seen : List Obs) → Behind n t st → next st.pending.events ≡ Some e → Reacts n j e.date (source_of n e.source) (taken st e) after seen
      → Behind n t after
  behind_event st after e seen behind fires h =
      let f = event_follows st after e seen behind fires h in
      let one_more : after.fired ≡ st.fired + 1 = ap (λ (a : State). a.fired) h.leads in
      record {
        stands = f.stands;
        active = f.active;
        started = λ b block always. f.kept b (behind.started b block always);
        waits = λ quiet none. absurd (omega (arith, one_more, none));
        fired = λ q is quiet some b block always.
            ⊎_elim (λ before. f.kept b (behind.fired q is quiet before b block always))
            (λ none. f.always b block (subst (λ s. IsAlways n s b) (sym (first_fires st e q behind is quiet (omega (arith, none)) fires)) always))
            (cases_lt 0 st.fired);
      }

  -- where an event stops the run, the table lists the word
  pub event_listed : (st : State) (e : Event) → Behind n t st → next st.pending.events ≡ Some e → (b : ℕ) (word : StopWord) → IsResult n st.memory j (source_of n e.source) (Stopped b word)
      → t.stops b word ≡ true
  event_listed st e behind fires b word stop =
      stops_listed n i j t st.memory (source_of n e.source) net behind.stands.memory (event_live st e behind fires) (before_event st e behind fires) behind.stands.states columns keeps closed
      (free_at n free e.source) b word stop

  -- ---- the run

  module _ (until limit : ℕ) where
    fires_of : (st : State) (e : Event) → comes_next n until (limit - st.fired) st ≡ Fires e → next st.pending.events ≡ Some e
    fires_of st e fires = fires_next until (limit - st.fired) (halts n st.active) (next st.pending.events) e fires

    reaches_behind : (first : State) → Behind n t first → {st : State} → {seen : List Obs} → ReachableFrom n j until limit first st seen → Behind n t st
    reaches_behind first h here = h
    reaches_behind first h (reacted st after e seen more before fires r) = behind_event st after e more (reaches_behind first h before) (fires_of st e fires) r

    pub stands_behind : (st : State) (seen : List Obs) → Reachable n j until limit st seen → Behind n t st
    stands_behind st seen r = reaches_behind r.first (behind_start r.first r.at_start r.started) r.reaches

    covered : (st : State) (seen : List Obs) → Reachable n j until limit st seen → IsCovered n t st
    covered st seen r =
        let h = stands_behind st seen r in
        record {
          held = h.stands.held;
          states = h.stands.states;
          shown = λ b e block l on. h.stands.acted b e (h.active b block on).1 block l;
          acts = λ b block on. (h.active b block on).0;
        }

    over_listed : {st : State} → {how : Ending} → {seen : List Obs} → Finish n j until limit st how seen → Listed t how
    over_listed (ended st word seen r over) = tt
    over_listed (stopped st e b word seen r fires stop) = event_listed st e (stands_behind st seen r) (fires_of st e fires) b word stop
    over_listed (stopped_at_start b word stop) = start_listed b word stop

pub closed_holds : ClosedHolds
closed_holds n i t net free columns closed = record {
  reached = λ j until limit st seen keeps r. covered n i j t net free columns keeps closed until limit st seen r;
  stops = λ j until limit st b word seen keeps f. over_listed n i j t net free columns keeps closed until limit f;
}
