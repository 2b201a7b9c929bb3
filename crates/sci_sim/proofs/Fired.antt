-- The source that fires next.
use Rattle.std.proofs.Common.{◌≡◌, ◌≤◌, ◌<◌, ℕ, ◌+◌, ◌-◌, Bool, List, inl, inr, refl, sym, ap, subst, ◌∙◌, Option, Some, None, true, false, arith}
use Rattle.sci_net.specs.Parts.{Parts}
use Rattle.sci_pending.specs.Pending.{Event, next}
use Rattle.sci_agenda.specs.Firing.{first, after_take}
use Rattle.sci_agenda.specs.Firing.{Meaning as Waiting}
use Rattle.sci_agenda.specs.Wheel.{Wheel}
use Rattle.sci_run.specs.Activity.{halts}
use Rattle.sci_run.specs.Run.{State, taken, Fires, comes_next}
use Rattle.sci_run.proofs.Ordered.{fires_next}
use Rattle.sci_run.proofs.Ranges.{fires_within}
use Rattle.sci_bank.specs.Bank.{Meaning}
use Rattle.sci_sim.specs.At.{Running, IsAt}
use Rattle.sci_sim.specs.Programming.{Keeps}
use Rattle.sci_sim.specs.Reacting.{FiresNext, start, event, ShowsFiring, HasSetOut}
use Rattle.sci_sim.proofs.Programs.{first_is, not_past, keeps_taken}

same_event : (x y : ℕ × ℕ) → Some x ≡ Some y → (x.0 ≡ y.0) × (x.1 ≡ y.1)
same_event x y h = let e : x ≡ y = cc h in (ap (λ (z : ℕ × ℕ). z.0) e, ap (λ (z : ℕ × ℕ). z.1) e)

no_event : (x : Option (ℕ × ℕ)) (d : ℕ × ℕ) → x ≡ Some d → x ≡ None → ⊥
no_event x d h k = let both : Some d ≡ None = sym h ∙ k in absurd (cc both)

-- the event that comes next
pub record EventNext (n : Parts) (until limit : ℕ) (st : State) (date source : ℕ) (from : State) : Type 0 where
  pub e : Event
  pub comes : comes_next n until (limit - st.fired) st ≡ Fires e
  pub date_is : date ≡ e.date
  pub source_is : source ≡ e.source
  pub from_is : from ≡ taken st e

pub event_next : {n : Parts} {until limit : ℕ} {b : Bool} {st from : State} {date source : ℕ} → b ≡ true → FiresNext n until limit b st date source from → EventNext n until limit st date source from
event_next began start = absurd (cc began)
event_next began (event st e comes) = record { e = e; comes = comes; date_is = refl; source_is = refl; from_is = refl }

module _ (until limit : ℕ) (r : Running) (banks : List Meaning) where
  -- before the run it is start
  pub start_fires : {b : Bool} {st from : State} {date source : ℕ} → b ≡ false → IsAt r banks st → FiresNext r.fixed.net until limit b st date source from → HasSetOut until r r banks date source from 0
  start_fires idle at start = record { source_is = refl; now = at.now; fired = at.fired; shown = at.shown; in_time = inr refl }
  start_fires idle at (event st e comes) = absurd (cc idle)

  module _ (st from : State) (date source : ℕ) (began : r.started ≡ true) (at : IsAt r banks st) (fires : FiresNext r.fixed.net until limit r.started st date source from) where
    -- and then the first event that waits
    record Waits : Type 0 where
      e : Event
      is_next : next st.pending.events ≡ Some e
      soon : e.date ≤ until
      few : st.fired < limit
      date_is : date ≡ e.date
      source_is : source ≡ e.source
      from_is : from ≡ taken st e

    waits : Waits
    waits =
        let n = r.fixed.net in
        let e = event_next began fires in
        let within = fires_within until (limit - st.fired) (halts n st.active) (next st.pending.events) e.e e.comes in
        record {
          e = e.e;
          is_next = fires_next until (limit - st.fired) (halts n st.active) (next st.pending.events) e.e e.comes;
          soon = within.1;
          few = let w = within.0 in omega (arith, w);
          date_is = e.date_is;
          source_is = e.source_is;
          from_is = e.from_is;
        }

    pub first_waits : first r.wheel.meaning.events ≡ None → ⊥
    first_waits none =
        let w = waits in
        let is : first r.wheel.meaning.events ≡ Some (w.e.date - r.offset, w.e.source) = (first_is r.fixed.net r.offset st.now r.wheel.meaning r.wheel.puts st.pending at.shown.pending w.e w.is_next).0 in
        no_event _ _ is none

    pub record IsEvent (d s : ℕ) : Type 0 where
      pub date_is : d + r.offset ≡ date
      pub source_is : s ≡ source
      pub soon : date ≤ until
      pub few : r.fired < limit
      pub fired : r.fired + 1 ≡ from.fired

    pub event_is : (d s : ℕ) → Some (d, s) ≡ first r.wheel.meaning.events → IsEvent d s
    event_is d s is =
        let w = waits in
        let n = r.fixed.net in
        let found : first r.wheel.meaning.events ≡ Some (w.e.date - r.offset, w.e.source) = (first_is n r.offset st.now r.wheel.meaning r.wheel.puts st.pending at.shown.pending w.e w.is_next).0 in
        let both = same_event (d, s) (w.e.date - r.offset, w.e.source) (is ∙ found) in
        let d_is : d ≡ w.e.date - r.offset = both.0 in
        let past = not_past n r.offset st.now r.wheel.meaning r.wheel.puts st.pending at.shown.pending w.e w.is_next in
        let behind = at.shown.pending.past in
        let soon = w.soon in
        let few = w.few in
        let fired = at.fired in
        let of_event = w.date_is in
        let more : from.fired ≡ st.fired + 1 = ap (λ (x : State). x.fired) w.from_is in
        record {
          date_is = omega (arith, d_is, past, behind, of_event);
          source_is = both.1 ∙ sym w.source_is;
          soon = omega (arith, soon, of_event);
          few = omega (arith, few, fired);
          fired = omega (arith, more, fired);
        }

    pub event_fires : (d s : ℕ) (v : Running) (wheel : Wheel) → v ≡ r → Some (d, s) ≡ first r.wheel.meaning.events → wheel.meaning ≡ after_take r.wheel.meaning → wheel.puts ≡ r.wheel.puts
        → HasSetOut until r (record v { wheel = wheel; now = d + v.offset; fired = v.fired + 1 }) banks date source from s
    event_fires d s v wheel v_is is left_is puts_is =
        let w = waits in
        let n = r.fixed.net in
        let i = event_is d s is in
        let shown = at.shown in
        let keeps = keeps_taken n r.offset st.now r.wheel.meaning r.wheel.puts st.pending shown.pending w.e w.is_next in
        let kept = subst (λ (m : Waiting). Keeps n r.offset w.e.date m wheel.puts (taken st w.e).pending) (sym left_is)
        (subst (λ p. Keeps n r.offset w.e.date (after_take r.wheel.meaning) p (taken st w.e).pending) (sym puts_is) keeps) in
        let shows : ShowsFiring r.fixed r.store banks wheel.meaning wheel.puts r.offset w.e.date (taken st w.e) =
        record { seated = shown.seated; memory = shown.memory; in_range = shown.in_range; pending = kept; counts = shown.counts } in
        let there : ShowsFiring r.fixed r.store banks wheel.meaning wheel.puts r.offset date from =
        subst (λ d. ShowsFiring r.fixed r.store banks wheel.meaning wheel.puts r.offset d from) (sym w.date_is)
        (subst (λ (x : State). ShowsFiring r.fixed r.store banks wheel.meaning wheel.puts r.offset w.e.date x) (sym w.from_is) shows) in
        record {
          source_is = i.source_is;
          now = ap (λ (x : Running). d + x.offset) v_is ∙ i.date_is;
          fired = ap (λ (x : Running). x.fired + 1) v_is ∙ i.fired;
          shown = there;
          in_time = inl i.soon;
        }
