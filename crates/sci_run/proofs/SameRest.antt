-- From states that are alike the run goes on alike.
use Rattle.std.proofs.Common.{◌≡◌, ℕ, zero, suc, ◌+◌, ◌-◌, ◌==◌, nat_lt, not, Bool, true, false, ℤ, pos, negsuc, List, [], ◌∷◌, Option, Some, None, if◌then◌else◌, refl, sym, ap, subst, ◌∙◌, arith}
use Rattle.sci_base.specs.declared.observation.Obs.{Obs}
use Rattle.sci_base.specs.declared.observation.EndWord.{EndWord}
use Rattle.sci_base.specs.declared.observation.EndWord.TheVariants.{Halt, Events, Empty, Until}
use Rattle.sci_net.specs.declared.Feed.{Feed}
use Rattle.sci_net.specs.declared.Source.{Source}
use Rattle.sci_net.specs.declared.Source.TheVariants.{Start, Port}
use Rattle.sci_net.specs.Parts.{Parts}
use Rattle.sci_net.specs.Sources.{sources_of, source_of}
use Rattle.sci_reaction.specs.Memory.{Columns}
use Rattle.sci_reaction.specs.Result.{Whole, Stopped}
use Rattle.sci_pending.specs.Pending.{Event, Pending, next, without, replaced}
use Rattle.sci_run.specs.Activity.{halts}
use Rattle.sci_run.specs.Programs.{with_delay, with_delays, delay_of}
use Rattle.sci_run.specs.Run.{State, taken, after_reaction, ReactionOutcome, Leads, StopsWith, IsOutcome, Decision, Over, Fires, in_time, comes_next, Reacts, Stops, Then, EndsOr, Observes, IsRunFrom, IsRest}
use Rattle.sci_pending.specs.Order.{Falls, due, in_order}
use Rattle.sci_run.specs.Alike.{SameMemory, AreAlike, GoOnAlike}
use Rattle.sci_run.proofs.Ordered.{falls_kept}
use Rattle.sci_run.proofs.Sorting.{put_behind, others_due, next_before, no_next, replaced_order}
use Rattle.sci_run.proofs.Unique.{result_moved, next_moved, halts_same}

without_event : Pending → Event → Pending
without_event p e = record p { events = without e.order p.events }

-- the same comes next, and what is pending without it agrees again
data SameNext (Agree : Pending → Pending → Type 0) (p q : Pending) : Type 0 where
  none : next p.events ≡ None → next q.events ≡ None → SameNext Agree p q
  some : (e f : Event) → next p.events ≡ Some e → next q.events ≡ Some f → e.date ≡ f.date → e.source ≡ f.source
      → Agree (record p { events = without e.order p.events }) (record q { events = without f.order q.events }) → SameNext Agree p q

-- ---- the run, by what it is for two lists of pending events to agree

module _ (Agree : Pending → Pending → Type 0)
    (agree_next : (p q : Pending) → Agree p q → SameNext Agree p q)
    (agree_put : (p q : Pending) (date source : ℕ) → Agree p q → Agree (replaced p date source) (replaced q date source)) where
  agree_programmed : (date source : ℕ) (d : ℤ) (p q : Pending) → Agree p q → Agree (with_delay date source d p) (with_delay date source d q)
  agree_programmed date source (pos d) p q h = agree_put p q (date + d) source h
  agree_programmed date source (negsuc d) p q h = h

  agree_all : (date : ℕ) (delays : Feed → ℤ) (k : ℕ) (ss : List Source) (p q : Pending) → Agree p q
      → Agree (with_delays date delays k ss p) (with_delays date delays k ss q)
  agree_all date delays k [] p q h = h
  agree_all date delays k (Start ∷ ss) p q h = agree_all date delays (k + 1) ss p q h
  agree_all date delays k (Port r ∷ ss) p q h =
      agree_all date delays (k + 1) ss (with_delay date k (delays r) p) (with_delay date k (delays r) q) (agree_programmed date k (delays r) p q h)

  data SameComes (p q : Pending) : Decision → Decision → Type 0 where
    over : (word : EndWord) → SameComes p q (Over word) (Over word)
    fires : (e f : Event) → e.date ≡ f.date → e.source ≡ f.source
        → Agree (record p { events = without e.order p.events }) (record q { events = without f.order q.events }) → SameComes p q (Fires e) (Fires f)

  comes_if : (p q : Pending) (t : Bool) (word : EndWord) (x y : Decision) → SameComes p q x y → SameComes p q (if t then Over word else x) (if t then Over word else y)
  comes_if p q true word x y h = over word
  comes_if p q false word x y h = h

  comes_by : (until : ℕ) (p q : Pending) → SameNext Agree p q → SameComes p q (in_time until (next p.events)) (in_time until (next q.events))
  comes_by until p q (none h g) =
      subst (λ o. SameComes p q (in_time until o) (in_time until (next q.events))) (sym h)
      (subst (λ o. SameComes p q (in_time until None) (in_time until o)) (sym g) (over Empty))
  comes_by until p q (some e f h g date source agree) =
      subst (λ o. SameComes p q (in_time until o) (in_time until (next q.events))) (sym h)
      (subst (λ o. SameComes p q (in_time until (Some e)) (in_time until o)) (sym g)
      (subst (λ d. SameComes p q (in_time until (Some e)) (if nat_lt until d then Over Until else Fires f)) date
      (comes_if p q (nat_lt until e.date) Until (Fires e) (Fires f) (fires e f date source agree))))

  module _ (n : Parts) (i : Columns) (until : ℕ) where
    record Matches (st other : State) : Type 0 where
      pub memory : SameMemory n st.memory other.memory
      pub pending : Agree st.pending other.pending
      pub fired : st.fired ≡ other.fired
      pub halts_too : halts n st.active ≡ halts n other.active

    comes_same : (left : ℕ) (st other : State) → Matches st other → SameComes st.pending other.pending (comes_next n until left st) (comes_next n until left other)
    comes_same left st other h =
        subst (λ t. SameComes st.pending other.pending (comes_next n until left st)
        (if t then Over Halt else if left == 0 then Over Events else in_time until (next other.pending.events))) h.halts_too
        (comes_if st.pending other.pending (halts n st.active) Halt _ _
        (comes_if st.pending other.pending (left == 0) Events _ _ (comes_by until st.pending other.pending (agree_next st.pending other.pending h.pending))))

    ends_moved : (p q : Pending) {x y : Decision} → SameComes p q x y → (os : List Obs) (F G : Event → Type 0)
        → ((e f : Event) → e.date ≡ f.date → e.source ≡ f.source
        → Agree (record p { events = without e.order p.events }) (record q { events = without f.order q.events }) → F e → G f)
        → EndsOr x os F → EndsOr y os G
    ends_moved p q (over word) os F G move h = h
    ends_moved p q (fires e f date source agree) os F G move h = move e f date source agree h

    module _ (date : ℕ) (s : Source) (st other : State) (same : Matches st other) where
      -- behind the same values and activity
      beyond : (after : State) (seen : List Obs) → Reacts n i date s st after seen → State
      beyond after seen h = after_reaction n date other h.values h.active h.memory

      reacts_moved : (after : State) (seen : List Obs) (h : Reacts n i date s st after seen) → Reacts n i date s other (beyond after seen h) seen
      unfolding beyond
      reacts_moved after seen h = record {
        values = h.values;
        active = h.active;
        memory = h.memory;
        result = result_moved n st.memory other.memory same.memory i s (Whole h.values) h.result;
        active_are = h.active_are;
        next = next_moved n st.memory other.memory same.memory s h.values h.memory h.next;
        leads = refl;
        observed = h.observed;
      }

      matches_beyond : (after : State) (seen : List Obs) (h : Reacts n i date s st after seen) → Matches after (beyond after seen h)
      unfolding beyond
      matches_beyond after seen h =
          subst (λ (a : State). Matches a (after_reaction n date other h.values h.active h.memory)) (sym h.leads)
          (record {
            memory = record { state = λ c l. refl; held = λ c l. refl; cursor = λ c l. refl };
            pending = agree_all date (delay_of n h.values h.active) 0 (sources_of n) st.pending other.pending same.pending;
            fired = same.fired;
            halts_too = refl;
          })

      stops_moved : (seen : List Obs) → Stops n i date s st seen → Stops n i date s other seen
      stops_moved seen h = record {
        block = h.block;
        word = h.word;
        result = result_moved n st.memory other.memory same.memory i s (Stopped h.block h.word) h.result;
        observed = h.observed;
      }

      observes_by : (rest : State → List Obs → Type 0) → ((a b : State) (os : List Obs) → Matches a b → rest a os → rest b os) → (os : List Obs)
          → (out : ReactionOutcome) → IsOutcome n i date s st out → Then out rest os → Observes n i date s other rest os
      observes_by rest move os (Leads seen after) h g = record {
        outcome = Leads seen (beyond after seen h);
        is = reacts_moved after seen h;
        goes_on = (g.0, g.1, move after (beyond after seen h) g.0 (matches_beyond after seen h) g.2);
      }
      observes_by rest move os (StopsWith seen) h g = record { outcome = StopsWith seen; is = stops_moved seen h; goes_on = g }

    from_moved : (left : ℕ) (st other : State) (os : List Obs) → Matches st other → IsRunFrom n i until left st os → IsRunFrom n i until left other os
    unfolding IsRunFrom
    from_moved zero st other os same h =
        ends_moved st.pending other.pending (comes_same 0 st other same) os (λ e. ⊥) (λ e. ⊥) (λ e f d s a none. none) h
    from_moved (suc left) st other os same h =
        ends_moved st.pending other.pending (comes_same (suc left) st other same) os
        (λ e. Observes n i e.date (source_of n e.source) (taken st e) (IsRunFrom n i until left) os)
        (λ e. Observes n i e.date (source_of n e.source) (taken other e) (IsRunFrom n i until left) os)
        (λ e f date source agree o.
        let both : Matches (taken st e) (taken other f) = record { memory = same.memory; pending = agree; fired = ap (λ k. k + 1) same.fired; halts_too = same.halts_too } in
        subst (λ d. Observes n i d (source_of n f.source) (taken other f) (IsRunFrom n i until left) os) date
        (subst (λ k. Observes n i e.date (source_of n k) (taken other f) (IsRunFrom n i until left) os) source
        (observes_by e.date (source_of n e.source) (taken st e) (taken other f) both (IsRunFrom n i until left)
        (λ a b us m r. from_moved left a b us m r) os o.outcome o.is o.goes_on)))
        h

    rest_moved : (limit : ℕ) (st other : State) (os : List Obs) → Matches st other → IsRest n i until limit st os → IsRest n i until limit other os
    rest_moved limit st other os same h =
        from_moved (limit - other.fired) st other os same (subst (λ k. IsRunFrom n i until (limit - k) st os) same.fired h)

-- ---- the same is pending

equal_at : (p : Pending) (o : Option Event) → next p.events ≡ o → SameNext (λ (a b : Pending). a ≡ b) p p
equal_at p None h = none h h
equal_at p (Some e) h = some e e h h refl refl refl

equal_next : (p q : Pending) → p ≡ q → SameNext (λ (a b : Pending). a ≡ b) p q
equal_next p q h = subst (λ r. SameNext (λ (a b : Pending). a ≡ b) p r) h (equal_at p (next p.events) refl)

pub alike_rest : (n : Parts) (i : Columns) (until limit : ℕ) (st other : State) (os : List Obs) → AreAlike n st other → IsRest n i until limit st os → IsRest n i until limit other os
alike_rest n i until limit st other os h rest =
    rest_moved (λ (a b : Pending). a ≡ b) equal_next (λ p q date source e. ap (λ (r : Pending). replaced r date source) e) n i until limit st other os
    (record { memory = h.memory; pending = h.pending; fired = h.fired; halts_too = halts_same n st.active other.active h.active }) rest

-- ---- the same is pending but for its orders

record SameOrder (p q : Pending) : Type 0 where
  pub numbered : Falls p.programmed p.events
  pub other_numbered : Falls q.programmed q.events
  pub order : in_order p.events ≡ in_order q.events

some_none : (d : ℕ × ℕ) (ds : List (ℕ × ℕ)) → d ∷ ds ≡ [] → ⊥
some_none d ds h = cc

order_by : (p q : Pending) → SameOrder p q → (x y : Option Event) → next p.events ≡ x → next q.events ≡ y → SameNext SameOrder p q
order_by p q h None None a b = none a b
order_by p q h None (Some f) a b =
    absurd (some_none (due f) (in_order (without f.order q.events)) (sym (next_before q.programmed q.events f h.other_numbered b) ∙ (sym h.order ∙ no_next p.events a)))
order_by p q h (Some e) None a b =
    absurd (some_none (due e) (in_order (without e.order p.events)) (sym (next_before p.programmed p.events e h.numbered a) ∙ (h.order ∙ no_next q.events b)))
order_by p q h (Some e) (Some f) a b =
    let same : due e ∷ in_order (without e.order p.events) ≡ due f ∷ in_order (without f.order q.events) =
    sym (next_before p.programmed p.events e h.numbered a) ∙ (h.order ∙ next_before q.programmed q.events f h.other_numbered b) in
    let head : due e ≡ due f = cc in
    let tail : in_order (without e.order p.events) ≡ in_order (without f.order q.events) = cc in
    some e f a b (ap (λ (d : ℕ × ℕ). d.0) head) (ap (λ (d : ℕ × ℕ). d.1) head)
    (record {
      numbered = falls_kept (λ x. not (x.order == e.order)) p.programmed p.events h.numbered;
      other_numbered = falls_kept (λ x. not (x.order == f.order)) q.programmed q.events h.other_numbered;
      order = tail;
    })

order_next : (p q : Pending) → SameOrder p q → SameNext SameOrder p q
order_next p q h = order_by p q h (next p.events) (next q.events) refl refl

order_put : (p q : Pending) (date source : ℕ) → SameOrder p q → SameOrder (replaced p date source) (replaced q date source)
order_put p q date source h = record {
  numbered = (omega arith, falls_kept (λ x. not (x.source == source)) p.programmed p.events h.numbered);
  other_numbered = (omega arith, falls_kept (λ x. not (x.source == source)) q.programmed q.events h.other_numbered);
  order = replaced_order p date source h.numbered
      ∙ (ap (λ ds. put_behind (date, source) (others_due source ds)) h.order ∙ sym (replaced_order q date source h.other_numbered));
}

pub same_rest : (n : Parts) (i : Columns) (until limit : ℕ) (st other : State) (os : List Obs) → GoOnAlike n st other → IsRest n i until limit st os → IsRest n i until limit other os
same_rest n i until limit st other os h rest =
    rest_moved SameOrder order_next order_put n i until limit st other os
    (record {
      memory = h.memory;
      pending = record { numbered = h.numbered; other_numbered = h.other_numbered; order = h.pending };
      fired = h.fired;
      halts_too = h.halts;
    }) rest
