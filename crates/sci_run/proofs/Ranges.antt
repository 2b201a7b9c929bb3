-- In every reachable state the memory is in range, and the bounds are kept.
use Rattle.std.proofs.Common.{◌≡◌, ℕ, zero, suc, ◌+◌, ◌-◌, ◌*◌, ◌<◌, ◌≤◌, ◌==◌, nat_lt, Bool, true, false, ℤ, pos, negsuc, List, [], ◌∷◌, length, Option, Some, None, if◌then◌else◌, refl, sym, ap, subst, arith}
use Rattle.std.proofs.lemmas.Bool.Decides.{nat_tests}
use Rattle.sci_base.specs.declared.observation.Obs.{Obs}
use Rattle.sci_base.specs.declared.observation.EndWord.TheVariants.{Halt, Events, Empty, Until}
use Rattle.sci_base.specs.declared.observation.EndWord.{EndWord}
use Rattle.sci_net.specs.declared.Feed.{Feed}
use Rattle.sci_net.specs.declared.Source.{Source}
use Rattle.sci_net.specs.declared.Source.TheVariants.{Start, Port}
use Rattle.sci_net.specs.Parts.{Parts}
use Rattle.sci_net.specs.Net.{IsNet}
use Rattle.sci_net.specs.Sources.{sources_of, source_of}
use Rattle.sci_reaction.specs.Memory.{Columns, IsMemory, AreColumns}
use Rattle.sci_reaction.proofs.Fills.{signals_in_range}
use Rattle.sci_reaction.proofs.Next.{memory_in_range, first_in_range}
use Rattle.sci_pending.specs.Pending.{Event, Pending, next}
use Rattle.sci_run.specs.Programs.{with_delay, with_delays, firing_of, delay_of}
use Rattle.sci_run.specs.Activity.{halts}
use Rattle.sci_run.specs.Run.{State, first_state, taken, Over, Fires, in_time, Reacts, ReachableFrom, here, reacted, Reachable}
use Rattle.sci_run.specs.Laws.{AreLoopFree}
use Rattle.sci_run.proofs.Traces.{free_at}

module _ (n : Parts) (i : Columns) (net : IsNet n) (free : AreLoopFree n) (columns : AreColumns n i) where
  reacts_in_range : (date k : ℕ) (st after : State) (seen : List Obs) → IsMemory n st.memory → Reacts n i date (source_of n k) st after seen → IsMemory n after.memory
  reacts_in_range date k st after seen memory h =
      subst (λ (a : State). IsMemory n a.memory) (sym h.leads)
      (memory_in_range n st.memory (source_of n k) h.values h.memory net memory
      (signals_in_range n st.memory i (source_of n k) net (free_at n free k) memory columns h.values h.result) h.next)

  pub reaches_in_range : (until limit : ℕ) (from : State) → IsMemory n from.memory → {st : State} → {seen : List Obs} → ReachableFrom n i until limit from st seen → IsMemory n st.memory
  reaches_in_range until limit from memory here = memory
  reaches_in_range until limit from memory (reacted st after e seen more before fires h) =
      reacts_in_range e.date e.source (taken st e) after more (reaches_in_range until limit from memory before) h

  pub stands_in_range : (until limit : ℕ) (st : State) (seen : List Obs) → Reachable n i until limit st seen → IsMemory n st.memory
  stands_in_range until limit st seen stands =
      reaches_in_range until limit stands.first (reacts_in_range 0 0 (first_state n) stands.first stands.at_start (first_in_range n net) stands.started) stands.reaches

-- ---- bounds

pub over_fires : (w : EndWord) (e : Event) → Over w ≡ Fires e → ⊥
over_fires w e h = cc

in_time_fires : (until : ℕ) (f e : Event) (late : Bool) → nat_lt until f.date ≡ late → (if late then Over Until else Fires f) ≡ Fires e → e.date ≤ until
in_time_fires until f e true is h = absurd (over_fires Until e h)
in_time_fires until f e false is h =
    let same : f ≡ e = cc in
    subst (λ (v : Event). v.date ≤ until) same (grind (arith, nat_tests))

not_zero : (k : ℕ) → (suc k == 0) ≡ false
not_zero k = grind (arith, nat_tests)

when_left : (until : ℕ) (none : Bool) (x : Option Event) (e : Event) → none ≡ false → (if none then Over Events else in_time until x) ≡ Fires e → e.date ≤ until
when_left until true x e t h = absurd (over_fires Events e h)
when_left until false None e t h = absurd (over_fires Empty e h)
when_left until false (Some f) e t h = in_time_fires until f e (nat_lt until f.date) refl h

-- an event fires only where one may, and not past the bound on time
pub fires_within : (until left : ℕ) (halted : Bool) (x : Option Event) (e : Event) → (if halted then Over Halt else if left == 0 then Over Events else in_time until x) ≡ Fires e
    → (0 < left) × (e.date ≤ until)
fires_within until left true x e h = absurd (over_fires Halt e h)
fires_within until zero false x e h = absurd (over_fires Events e h)
fires_within until (suc left) false x e h = (omega arith, when_left until (suc left == 0) x e (not_zero left) h)

module _ (n : Parts) (i : Columns) (until limit : ℕ) where
  pub reaches_within : (from : State) → from.fired ≤ limit → from.now ≤ until → {st : State} → {seen : List Obs} → ReachableFrom n i until limit from st seen → (st.fired ≤ limit) × (st.now ≤ until)
  reaches_within from f t here = (f, t)
  reaches_within from f t (reacted st after e seen more before fires h) =
      let w = fires_within until (limit - st.fired) (halts n st.active) (next st.pending.events) e fires in
      let fired : after.fired ≡ st.fired + 1 = ap (λ (a : State). a.fired) h.leads in
      let now : after.now ≡ e.date = ap (λ (a : State). a.now) h.leads in
      (omega (arith, fired, w.0), omega (arith, now, w.1))

  stands_within : (st : State) (seen : List Obs) → Reachable n i until limit st seen → (st.fired ≤ limit) × (st.now ≤ until)
  stands_within st seen stands =
      let fired : stands.first.fired ≡ 0 = ap (λ (a : State). a.fired) stands.started.leads in
      let now : stands.first.now ≡ 0 = ap (λ (a : State). a.now) stands.started.leads in
      reaches_within stands.first (omega (arith, fired)) (omega (arith, now)) stands.reaches

  pub fired_within : (st : State) (seen : List Obs) → Reachable n i until limit st seen → st.fired ≤ limit
  fired_within st seen stands = (stands_within st seen stands).0

  pub now_within : (st : State) (seen : List Obs) → Reachable n i until limit st seen → st.now ≤ until
  now_within st seen stands = (stands_within st seen stands).1

  at_most_one : (t : Bool) (k : ℕ) → (if t then k + 1 else k) ≤ k + 1
  at_most_one true k = omega arith
  at_most_one false k = omega arith

  reaches_activations : (b : ℕ) (from : State) → from.activations b ≤ from.fired + 1 → {st : State} → {seen : List Obs} → ReachableFrom n i until limit from st seen
      → st.activations b ≤ st.fired + 1
  reaches_activations b from h here = h
  reaches_activations b from h (reacted st after e seen more before fires r) =
      let so_far = reaches_activations b from h before in
      let fired : after.fired ≡ st.fired + 1 = ap (λ (a : State). a.fired) r.leads in
      let one = at_most_one (r.active b) (st.activations b) in
      let is : after.activations b ≡ (if r.active b then st.activations b + 1 else st.activations b) = ap (λ (a : State). a.activations b) r.leads in
      omega (arith, so_far, fired, one, is)

  pub activations_within : (st : State) (seen : List Obs) (b : ℕ) → Reachable n i until limit st seen → st.activations b ≤ st.fired + 1
  activations_within st seen b stands =
      let one = at_most_one (stands.started.active b) 0 in
      let is : stands.first.activations b ≡ (if stands.started.active b then 0 + 1 else 0) = ap (λ (a : State). a.activations b) stands.started.leads in
      reaches_activations b stands.first (omega (arith, one, is)) stands.reaches

  -- ---- orders

  one_order : (date source : ℕ) (d : ℤ) (p : Pending) → (with_delay date source d p).programmed ≤ p.programmed + 1
  one_order date source (pos d) p = omega arith
  one_order date source (negsuc d) p = omega arith

  orders_more : (date : ℕ) (delays : Feed → ℤ) (k : ℕ) (ss : List Source) (p : Pending) → (with_delays date delays k ss p).programmed ≤ p.programmed + length ss
  orders_more date delays k [] p = omega arith
  orders_more date delays k (Start ∷ ss) p = let r = orders_more date delays (k + 1) ss p in omega (arith, r)
  orders_more date delays k (Port q ∷ ss) p =
      let r = orders_more date delays (k + 1) ss (with_delay date k (delays q) p) in
      let one = one_order date k (delays q) p in omega (arith, r, one)

  reacts_orders : (date : ℕ) (s : Source) (st after : State) (seen : List Obs) → Reacts n i date s st after seen
      → after.pending.programmed ≤ st.pending.programmed + length (sources_of n)
  reacts_orders date s st after seen h =
      subst (λ (a : State). a.pending.programmed ≤ st.pending.programmed + length (sources_of n)) (sym h.leads)
      (orders_more date (delay_of n h.values h.active) 0 (sources_of n) st.pending)

  reaches_orders : (from : State) → from.pending.programmed ≤ (from.fired + 2) * length (sources_of n) → {st : State} → {seen : List Obs}
      → ReachableFrom n i until limit from st seen → st.pending.programmed ≤ (st.fired + 2) * length (sources_of n)
  reaches_orders from h here = h
  reaches_orders from h (reacted st after e seen more before fires r) =
      let so_far = reaches_orders from h before in
      let fired : after.fired ≡ st.fired + 1 = ap (λ (a : State). a.fired) r.leads in
      let step = reacts_orders e.date (source_of n e.source) (taken st e) after more r in
      subst (λ k. after.pending.programmed ≤ (k + 2) * length (sources_of n)) (sym fired) (omega (arith, so_far, step))

  pub orders_within : (st : State) (seen : List Obs) → Reachable n i until limit st seen → st.pending.programmed ≤ (st.fired + 2) * length (sources_of n)
  orders_within st seen stands =
      let before = orders_more 0 (firing_of n) 0 (sources_of n) (record { events = []; programmed = 0 }) in
      let fired : stands.first.fired ≡ 0 = ap (λ (a : State). a.fired) stands.started.leads in
      let step = reacts_orders 0 Start (first_state n) stands.first stands.at_start stands.started in
      reaches_orders stands.first
      (subst (λ k. stands.first.pending.programmed ≤ (k + 2) * length (sources_of n)) (sym fired) (omega (arith, before, step))) stands.reaches
