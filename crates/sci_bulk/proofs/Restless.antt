-- The run of a net that never rests ends by the bound on events.
use Rattle.std.proofs.Common.{◌≡◌, ◌≢◌, ◌≤◌, ◌<◌, ◌+◌, ◌-◌, ◌*◌, ◌==◌, ◌++◌, ℕ, zero, suc, ℤ, pos, negsuc, List, [], ◌∷◌, length, slice_index_or, Contains, Bool, true, false, cond, not, Option, Some, None, refl, sym, ◌∙◌, ap, subst, arith, append_assoc}
use Rattle.std.specs.Prelude.{Ok, nat_lt, filter, if◌then◌else◌}
use Rattle.std.proofs.Math.Nat.{mul-suc}
use Rattle.std.proofs.lemmas.Bool.{eqb-true}
use Rattle.sci_base.specs.declared.observation.Obs.{Obs}
use Rattle.sci_base.specs.declared.observation.Obs.TheVariants.{End}
use Rattle.sci_base.specs.declared.observation.EndWord.TheVariants.{Halt, Events, Until}
use Rattle.sci_base.specs.declared.observation.StopWord.{StopWord}
use Rattle.sci_kinds.specs.Table.{Values, out, delay}
use Rattle.sci_forms.specs.declared.spec.Spec.{Spec}
use Rattle.sci_forms.proofs.TestLemmas.{nat_lt_told}
use Rattle.sci_net.specs.declared.Source.{Source}
use Rattle.sci_net.specs.declared.Source.TheVariants.{Start, Port}
use Rattle.sci_net.specs.declared.Feed.{Feed}
use Rattle.sci_net.specs.Parts.{Parts, spec_of}
use Rattle.sci_forms.specs.Form.{is_sensor}
use Rattle.sci_net.specs.Sources.{sources_of, source_of}
use Rattle.sci_reaction.specs.Active.{set_off}
use Rattle.sci_reaction.specs.Memory.{Memory, Columns, next_value}
use Rattle.sci_reaction.specs.Equations.{Signals, answer, sensed, values_or_word, input_in, all_inputs}
use Rattle.sci_reaction.specs.Result.{Stopped, IsResult}
use Rattle.sci_reaction.proofs.Spreading.{SetOff-block, Spread-block}
use Rattle.sci_pending.specs.Pending.{Event, Pending, is_earlier, earlier, next, without}
use Rattle.sci_run.specs.Activity.{Activity, IsActivity, halts}
use Rattle.sci_run.specs.Programs.{with_delay, with_delays, firing_of, first_pending, delay_of, next_pending}
use Rattle.sci_run.specs.Run.{State, first_state, taken, Reacts, ReactionOutcome, Leads, StopsWith, IsOutcome, Over, Fires, in_time, comes_next, Then, EndsOr, Observes, IsRunFrom, IsRest, IsRun}
use Rattle.sci_bulk.specs.Laws.{IsRestless, RestlessEndsByEvents}

abbrev EndsByEvents : List Obs → Type 0
EndsByEvents os = (seen : List Obs) × (os ≡ seen ++ End Events ∷ [])

-- ---- events

-- it is of a source but start, and no later than this
pub record IsEvent (n : Parts) (latest : ℕ) (e : Event) : Type 0 where
  pub date : e.date ≤ latest
  pub port : Feed
  pub source : source_of n e.source ≡ Port port
  pub known : Contains (sources_of n) (Port port)

abbrev AreEvents : Parts → ℕ → List Event → Type 0
AreEvents n latest [] = Unit {0}
AreEvents n latest (e ∷ es) = IsEvent n latest e × AreEvents n latest es

later_events : (n : Parts) (m l : ℕ) (es : List Event) → m ≤ l → AreEvents n m es → AreEvents n l es
later_events n m l [] le h = tt
later_events n m l (e ∷ es) le h = (record { date = omega (arith, h.0.date, le); port = h.0.port; source = h.0.source; known = h.0.known }, later_events n m l es le h.1)

kept_if : (n : Parts) (l : ℕ) (b : Bool) (e : Event) (es : List Event) → IsEvent n l e → AreEvents n l es → AreEvents n l (cond b (e ∷ es) es)
kept_if n l true e es h k = (h, k)
kept_if n l false e es h k = k

filtered : (n : Parts) (l : ℕ) (keep : Event → Bool) (es : List Event) → AreEvents n l es → AreEvents n l (filter keep es)
filtered n l keep [] h = tt
filtered n l keep (e ∷ es) h = kept_if n l (keep e) e (filter keep es) h.0 (filtered n l keep es h.1)

chosen_event : (n : Parts) (l : ℕ) (b : Bool) (d e : Event) → IsEvent n l d → IsEvent n l e → IsEvent n l (cond b d e)
chosen_event n l true d e h k = h
chosen_event n l false d e h k = k

earlier_event : (n : Parts) (l : ℕ) (d : Event) (o : Option Event) → IsEvent n l d → ((e : Event) → o ≡ Some e → IsEvent n l e) → IsEvent n l (earlier d o)
earlier_event n l d None h k = h
earlier_event n l d (Some e) h k = chosen_event n l (is_earlier d e) d e h (k e refl)

earliest : (n : Parts) (l : ℕ) (es : List Event) (e : Event) → next es ≡ Some e → AreEvents n l es → IsEvent n l e
earliest n l [] e is h = absurd (cc is)
earliest n l (d ∷ es) e is h =
    let same : earlier d (next es) ≡ e = cc is in
    subst (λ (f : Event). IsEvent n l f) same (earlier_event n l d (next es) h.0 (λ f some. earliest n l es f some h.1))

-- there is one
some_next : (es : List Event) → es ≢ [] → (e : Event) × (next es ≡ Some e)
some_next [] some = absurd (some refl)
some_next (e ∷ es) some = (earlier e (next es), refl)

-- ---- programming

at_index : (xs : List Source) (k : ℕ) (q : Feed) → k < length xs → slice_index_or xs k Start ≡ Port q → Contains xs (Port q)
at_index [] k q l e = absurd (omega (arith, l))
at_index (x ∷ xs) zero q l e = (0, omega arith, e)
at_index (x ∷ xs) (suc k) q l e = let r = at_index xs k q (omega (arith, l)) e in (suc r.0, omega (arith, r.1), r.2)

-- these are the sources from place k on
abbrev AreFrom : Parts → ℕ → List Source → Type 0
AreFrom n k ss = (j : ℕ) → j < length ss → (source_of n (k + j) ≡ slice_index_or ss j Start) × (k + j < length (sources_of n))

behind_first : (n : Parts) (k : ℕ) (s : Source) (ss : List Source) → AreFrom n k (s ∷ ss) → AreFrom n (k + 1) ss
behind_first n k s ss h j l =
    let there = h (suc j) (omega (arith, l)) in
    let same : k + 1 + j ≡ k + suc j = omega arith in
    (ap (source_of n) same ∙ there.0, omega (arith, there.1))

first_at : (n : Parts) (k : ℕ) (s : Source) (ss : List Source) → AreFrom n k (s ∷ ss) → (source_of n k ≡ s) × (k < length (sources_of n))
first_at n k s ss h =
    let there = h 0 (omega arith) in
    let same : k ≡ k + 0 = omega arith in
    (ap (source_of n) same ∙ there.0, omega (arith, there.1))

module _ (n : Parts) (latest date : ℕ) where
  one_delay : (k : ℕ) (q : Feed) (z : ℤ) (p : Pending) → source_of n k ≡ Port q → Contains (sources_of n) (Port q) → ((d : ℕ) → z ≡ pos d → date + d ≤ latest) → AreEvents n latest p.events
      → AreEvents n latest (with_delay date k z p).events
  one_delay k q (pos d) p is known soon h = (record { date = soon d refl; port = q; source = is; known = known }, filtered n latest (λ e. not (e.source == k)) p.events h)
  one_delay k q (negsuc d) p is known soon h = h

  all_delays : (delays : Feed → ℤ) (k : ℕ) (ss : List Source) (p : Pending) → AreFrom n k ss → ((q : Feed) → Contains (sources_of n) (Port q) → (d : ℕ) → delays q ≡ pos d → date + d ≤ latest)
      → AreEvents n latest p.events → AreEvents n latest (with_delays date delays k ss p).events
  all_delays delays k [] p from soon h = h
  all_delays delays k (Start ∷ ss) p from soon h = all_delays delays (k + 1) ss p (behind_first n k Start ss from) soon h
  all_delays delays k (Port q ∷ ss) p from soon h =
      let here = first_at n k (Port q) ss from in
      let known = at_index (sources_of n) k q here.1 here.0 in
      all_delays delays (k + 1) ss (with_delay date k (delays q) p) (behind_first n k (Port q) ss from) soon (one_delay k q (delays q) p here.0 known (soon q known) h)

never_empty : (date k : ℕ) (z : ℤ) (p : Pending) → p.events ≢ [] → (with_delay date k z p).events ≢ []
never_empty date k (pos d) p some = λ e. absurd (cc e)
never_empty date k (negsuc d) p some = some

never_emptied : (date : ℕ) (delays : Feed → ℤ) (k : ℕ) (ss : List Source) (p : Pending) → p.events ≢ [] → (with_delays date delays k ss p).events ≢ []
never_emptied date delays k [] p some = some
never_emptied date delays k (Start ∷ ss) p some = never_emptied date delays (k + 1) ss p some
never_emptied date delays k (Port q ∷ ss) p some = never_emptied date delays (k + 1) ss (with_delay date k (delays q) p) (never_empty date k (delays q) p some)

delay_fills : (date k d : ℕ) (z : ℤ) (p : Pending) → z ≡ pos d → (with_delay date k z p).events ≢ []
delay_fills date k d (pos c) p is = λ e. absurd (cc e)
delay_fills date k d (negsuc c) p is = absurd (cc is)

fills : (date : ℕ) (delays : Feed → ℤ) (k : ℕ) (ss : List Source) (p : Pending) (q : Feed) (d : ℕ) → delays q ≡ pos d → Contains ss (Port q) → (with_delays date delays k ss p).events ≢ []
fills date delays k [] p q d is has = absurd (omega (arith, has.1))
fills date delays k (Start ∷ ss) p q d is (zero, l, same) = absurd (cc same)
fills date delays k (Port r ∷ ss) p q d is (zero, l, same) =
    let port : r ≡ q = cc same in
    never_emptied date delays (k + 1) ss (with_delay date k (delays r) p) (delay_fills date k d (delays r) p (ap delays port ∙ is))
fills date delays k (Start ∷ ss) p q d is (suc i, l, same) = fills date delays (k + 1) ss p q d is (i, omega (arith, l), same)
fills date delays k (Port r ∷ ss) p q d is (suc i, l, same) = fills date delays (k + 1) ss (with_delay date k (delays r) p) q d is (i, omega (arith, l), same)

-- ---- the run

value_there : (s : Spec) (x : List ℤ) (next : Option ℤ) (mask : ℕ) (inputs : ℕ → List ℤ) (vs : List ℤ) (b : Bool) → b ≡ false → out s x mask (all_inputs s inputs) ≡ Values vs
    → (if b then sensed s x mask next else values_or_word (out s x mask (all_inputs s inputs))) ≡ Ok vs
value_there s x next mask inputs vs true never is = absurd (cc never)
value_there s x next mask inputs vs false never is = ap values_or_word is

module _ (n : Parts) (ticks until : ℕ) (i : Columns) (r : IsRestless n ticks) where
  all_from : AreFrom n 0 (sources_of n)
  all_from j l = let same : 0 + j ≡ j = omega arith in (ap (source_of n) same, omega (arith, l))

  no_stop : (m : Memory) (s : Source) (b : ℕ) (word : StopWord) → IsResult n m i s (Stopped b word) → ⊥
  unfolding answer
  no_stop m s b word h =
      let g = h.2 in
      let value = r.valued b (Spread-block n s _ g.active) (m.state b) g.mask (all_inputs (spec_of n b) (input_in n h.0 b)) in
      let ok = value_there (spec_of n b) (m.state b) (next_value i (spec_of n b) (m.cursor b)) g.mask (input_in n h.0 b) value.0 (is_sensor (spec_of n b).kind) (r.no_sensor b) value.1 in
      absurd (cc (ok, g.answer_is))

  -- it goes on from here
  record Goes (latest : ℕ) (st : State) : Type 0 where
    active : halts n st.active ≡ false
    events : AreEvents n latest st.pending.events
    some : st.pending.events ≢ []

  delay_soon : (date : ℕ) (y : Signals) (active : Activity) (q : Feed) (b : Bool) (u : List ℤ) (d : ℕ) → Contains (sources_of n) (Port q) → (if b then delay (spec_of n q.block) q.port u else negsuc 0) ≡ pos d → date + d ≤ date + ticks
  delay_soon date y active q true u d known is =
      let again = r.again q known u in
      let same : again.0 ≡ d = cc (again.1, is) in
      omega (arith, again.2, same)
  delay_soon date y active q false u d known is = absurd (cc is)

  -- the events behind a reaction
  behind : (latest date : ℕ) (y : Signals) (active : Activity) (p : Pending) → date ≤ latest → AreEvents n latest p.events → AreEvents n (latest + ticks) (next_pending n date y active p).events
  behind latest date y active p le h =
      all_delays n (latest + ticks) date (delay_of n y active) 0 (sources_of n) p all_from
      (λ q known d is. let soon = delay_soon date y active q (active q.block) (all_inputs (spec_of n q.block) (input_in n y q.block)) d known is in omega (arith, soon, le))
      (later_events n latest (latest + ticks) p.events (omega arith) h)

  active_delay : (y : Signals) (active : Activity) (q : Feed) (b : Bool) (u : List ℤ) → b ≡ true → Contains (sources_of n) (Port q) → (d : ℕ) × ((if b then delay (spec_of n q.block) q.port u else negsuc 0) ≡ pos d)
  active_delay y active q true u is known = let again = r.again q known u in (again.0, again.1)
  active_delay y active q false u is known = absurd (cc is)

  pending_again : (date : ℕ) (y : Signals) (active : Activity) (p : Pending) (q : Feed) → Contains (sources_of n) (Port q) → IsActivity n (Port q) y active → (next_pending n date y active p).events ≢ []
  pending_again date y active p q known are =
      let itself = r.itself q known in
      let on : active q.block ≡ true = (are q.block (SetOff-block n (Port q) q.block itself)).1 (set_off q.block itself) in
      let d = active_delay y active q (active q.block) (all_inputs (spec_of n q.block) (input_in n y q.block)) on known in
      fills date (delay_of n y active) 0 (sources_of n) p q d.0 d.1 known

  -- ---- behind start

  first_events : AreEvents n ticks (first_pending n).events
  first_events =
      all_delays n ticks 0 (firing_of n) 0 (sources_of n) (record { events = []; programmed = 0 }) all_from
      (λ q known d is. let first = r.first q known in let same : first.0 ≡ d = cc (first.1, is) in omega (arith, first.2, same)) tt

  first_some : (first_pending n).events ≢ []
  first_some = let first = r.first r.one r.is_source in fills 0 (firing_of n) 0 (sources_of n) (record { events = []; programmed = 0 }) r.one first.0 first.1 r.is_source

  after_start : (after : State) (seen : List Obs) → Reacts n i 0 Start (first_state n) after seen → Goes ticks after
  after_start after seen h = subst (λ (st : State). Goes ticks st) (sym h.leads) (record {
    active = r.no_halt h.active;
    events = all_delays n ticks 0 (delay_of n h.values h.active) 0 (sources_of n) (first_pending n) all_from
        (λ q known d is. let soon = delay_soon 0 h.values h.active q (h.active q.block) (all_inputs (spec_of n q.block) (input_in n h.values q.block)) d known is in omega (arith, soon)) first_events;
    some = never_emptied 0 (delay_of n h.values h.active) 0 (sources_of n) (first_pending n) first_some;
  })

  -- ---- behind an event

  after_event : (latest : ℕ) (st after : State) (e : Event) (seen : List Obs) → Goes latest st → next st.pending.events ≡ Some e → Reacts n i e.date (source_of n e.source) (taken st e) after seen → Goes (latest + ticks) after
  after_event latest st after e seen g is h =
      let ev = earliest n latest st.pending.events e is g.events in
      let rest : AreEvents n latest (without e.order st.pending.events) = filtered n latest (λ x. not (x.order == e.order)) st.pending.events g.events in
      let acts = subst (λ (s : Source). IsActivity n s h.values h.active) ev.source h.active_are in
      subst (λ (s : State). Goes (latest + ticks) s) (sym h.leads) (record {
        active = r.no_halt h.active;
        events = behind latest e.date h.values h.active (taken st e).pending ev.date rest;
        some = pending_again e.date h.values h.active (taken st e).pending ev.port ev.known acts;
      })

  in_bound : (e : Event) (b : Bool) → nat_lt until e.date ≡ b → e.date ≤ until → in_time until (Some e) ≡ Fires e
  in_bound e true is le = absurd (omega (arith, nat_lt_told until e.date is, le))
  in_bound e false is le = ap (λ (b : Bool). if b then Over Until else Fires e) is

  not_zero : (k : ℕ) (b : Bool) → (suc k == 0) ≡ b → (suc k == 0) ≡ false
  not_zero k true is = absurd (omega (arith, eqb-true (suc k) 0 is))
  not_zero k false is = is

  goes_on : (latest left : ℕ) (st : State) (e : Event) → Goes latest st → latest ≤ until → next st.pending.events ≡ Some e → comes_next n until (suc left) st ≡ Fires e
  goes_on latest left st e g le is =
      let ev = earliest n latest st.pending.events e is g.events in
      ap (λ (b : Bool). if b then Over Halt else if suc left == 0 then Over Events else in_time until (next st.pending.events)) g.active
      ∙ (ap (λ (b : Bool). if b then Over Events else in_time until (next st.pending.events)) (not_zero left (suc left == 0) refl) ∙ (ap (in_time until) is ∙ in_bound e (nat_lt until e.date) refl (omega (arith, ev.date, le))))

  ends_here : (latest : ℕ) (st : State) → Goes latest st → comes_next n until 0 st ≡ Over Events
  ends_here latest st g = ap (λ (b : Bool). if b then Over Halt else if 0 == 0 then Over Events else in_time until (next st.pending.events)) g.active

  joined : (os seen more : List Obs) → os ≡ seen ++ more → EndsByEvents more → EndsByEvents os
  joined os seen more is h = (seen ++ h.0, is ∙ (ap (λ (l : List Obs). seen ++ l) h.1 ∙ sym (append_assoc seen h.0 (End Events ∷ []))))

  led : (date : ℕ) (s : Source) (st : State) (rest : State → List Obs → Type 0) (os : List Obs) → Observes n i date s st rest os
      → ((after : State) (seen more : List Obs) → Reacts n i date s st after seen → rest after more → EndsByEvents more) → EndsByEvents os
  led date s st rest os h on = by h.outcome h.is h.goes_on
    where
      by : (o : ReactionOutcome) → IsOutcome n i date s st o → Then o rest os → EndsByEvents os
      by (Leads seen after) is rests = joined os seen rests.0 rests.1 (on after seen rests.0 is rests.2)
      by (StopsWith seen) is rests = absurd (no_stop st.memory s is.block is.word is.result)

  from_here : (left latest : ℕ) (st : State) (os : List Obs) → Goes latest st → latest + ticks * left ≤ until → IsRunFrom n i until left st os → EndsByEvents os
  unfolding IsRunFrom
  from_here zero latest st os g le h = ([], subst (λ d. EndsOr d os (λ e. ⊥)) (ends_here latest st g) h)
  from_here (suc left) latest st os g le h =
      let found = some_next st.pending.events g.some in
      let more : ticks * suc left ≡ ticks * left + ticks = mul-suc ticks left in
      let fires = goes_on latest left st found.0 g (omega (arith, le)) found.1 in
      led found.0.date (source_of n found.0.source) (taken st found.0) (IsRunFrom n i until left) os
      (subst (λ d. EndsOr d os (λ e. Observes n i e.date (source_of n e.source) (taken st e) (IsRunFrom n i until left) os)) fires h)
      (λ after seen rest reacts on. from_here left (latest + ticks) after rest (after_event latest st after found.0 seen g found.1 reacts) (omega (arith, le, more)) on)

  whole : (limit : ℕ) (os : List Obs) → ticks + ticks * limit ≤ until → IsRun n i until limit os → EndsByEvents os
  whole limit os le h =
      led 0 Start (first_state n) (IsRest n i until limit) os h
      (λ after seen more reacts on.
      let none : after.fired ≡ 0 = ap (λ (st : State). st.fired) reacts.leads in
      let left : limit - after.fired ≡ limit = omega (arith, none) in
      from_here limit ticks after more (after_start after seen reacts) le (subst (λ (k : ℕ). IsRunFrom n i until k after more) left on))

pub restless_ends_by_events : RestlessEndsByEvents
restless_ends_by_events n ticks until limit i os r le h = whole n ticks until i r limit os le h
