-- There is at most one trace.
use Rattle.std.proofs.Common.{◌≡◌, ℕ, zero, suc, ◌+◌, ◌-◌, ◌<◌, ◌≤◌, ◌==◌, Bool, true, false, ◌&&◌, ◌||◌, ◌↔◌, inl, inr, ⊎_elim, ℤ, negsuc, List, [], ◌∷◌, ◌++◌, length, Contains, Result, if◌then◌else◌, refl, sym, ap, ap₂, subst, ◌∙◌, arith}
use Rattle.sci_base.specs.Lists.{at, listed}
use Rattle.sci_base.specs.declared.observation.Obs.{Obs}
use Rattle.sci_base.specs.declared.observation.EndWord.TheVariants.{Halt, Events}
use Rattle.sci_base.specs.declared.observation.StopWord.{StopWord}
use Rattle.sci_forms.specs.declared.ports.Port.{Port as Signal}
use Rattle.sci_forms.specs.declared.spec.Spec.{Spec}
use Rattle.sci_forms.specs.Ports.{elements}
use Rattle.sci_kinds.specs.Asks.{laid}
use Rattle.sci_kinds.specs.Table.{branch, delay, next as next_state}
use Rattle.sci_net.specs.declared.Feed.{Feed}
use Rattle.sci_net.specs.declared.Source.{Source}
use Rattle.sci_net.specs.declared.Source.TheVariants.{Start, Port}
use Rattle.sci_net.specs.Parts.{Parts, IsBlock, spec_of, wire_of}
use Rattle.sci_forms.specs.Form.{is_sensor}
use Rattle.sci_net.specs.Net.{IsNet}
use Rattle.sci_net.specs.Sources.{sources_of, source_of}
use Rattle.sci_reaction.specs.Active.{Possible}
use Rattle.sci_reaction.specs.Depends.{IsLoopFree}
use Rattle.sci_reaction.specs.Memory.{Memory, Columns, next_value}
use Rattle.sci_reaction.specs.Equations.{Signals, output_among, input_in, all_inputs, branch_on, answer, answer_of, Active, Takes, IsActivated, Gives, Meets}
use Rattle.sci_reaction.specs.Result.{Reaction, Whole, Stopped, IsResult}
use Rattle.sci_reaction.specs.Next.{IsNextMemory}
use Rattle.sci_reaction.proofs.Agreement.{agrees}
use Rattle.sci_reaction.proofs.Fair.{fair}
use Rattle.sci_reaction.proofs.OneResult.{ground, one_result}
use Rattle.sci_reaction.proofs.Next.{one_next}
use Rattle.sci_reaction.proofs.Sources.{sources_are}
use Rattle.sci_reaction.proofs.Spreading.{Spread-block}
use Rattle.sci_reaction.proofs.Lists.{cons-Contains}
use Rattle.sci_pending.specs.Pending.{Event, Pending, next, without}
use Rattle.sci_run.specs.Activity.{Activity, halts, halts_from}
use Rattle.sci_forms.specs.Form.{is_halt}
use Rattle.sci_run.specs.Programs.{with_delay, with_delays, delay_of, next_pending}
use Rattle.sci_run.specs.Observed.{header, outputs_seen, blocks_seen, stop_seen}
use Rattle.sci_run.specs.Run.{State, first_state, taken, after_reaction, ReactionOutcome, Leads, StopsWith, IsOutcome, Reacts, Decision, Over, Fires, in_time, comes_next, Then, EndsOr, Observes, IsRunFrom, IsRest, IsRun, ReachableFrom, here, reacted, Reachable}
use Rattle.sci_run.specs.Alike.{SameMemory, AreAlike}
use Rattle.sci_run.specs.Laws.{AreLoopFree}
use Rattle.sci_run.proofs.Traces.{free_at}

same_bool : (t u : Bool) → (t ≡ true → u ≡ true) → (u ≡ true → t ≡ true) → t ≡ u
same_bool true u to back = sym (to refl)
same_bool false true to back = back refl
same_bool false false to back = refl

laid_same : (ps : List Signal) (xs ys : ℕ → List ℤ) → ((k : ℕ) → 1 ≤ k → k ≤ length ps → xs k ≡ ys k) → laid ps xs ≡ laid ps ys
laid_same [] xs ys h = refl
laid_same (p ∷ ps) xs ys h =
    ap₂ (λ u v. listed (at u) (elements p) ++ v) (h 1 (omega arith) (omega arith))
    (laid_same ps (λ k. xs (suc k)) (λ k. ys (suc k)) (λ k l m. h (suc k) (omega arith) (omega (arith, m))))

-- ---- memories that are the same at the blocks of the net

module _ (n : Parts) (m other : Memory) (same : SameMemory n m other) where
  answer_moved : (i : Columns) (c mask : ℕ) (inputs : ℕ → List ℤ) → IsBlock n c → answer n other i c mask inputs ≡ answer n m i c mask inputs
  unfolding answer
  answer_moved i c mask inputs inside =
      ap₂ (λ x k. answer_of (spec_of n c) x (next_value i (spec_of n c) k) mask inputs) (sym (same.state c inside)) (sym (same.cursor c inside))

  gives_moved : (i : Columns) (s : Source) (y : Signals) (c : ℕ) (g : Result (List ℤ) StopWord) → IsBlock n c → Gives n m i s y c g → Gives n other i s y c g
  gives_moved i s y c g inside h =
      record { active = h.active; mask = h.mask; mask_is = h.mask_is; answer_is = answer_moved i c h.mask (input_in n y c) inside ∙ h.answer_is }

  meets_moved : (i : Columns) (s : Source) (y : Signals) (c : ℕ) → IsBlock n c → Meets n m i s y c → Meets n other i s y c
  meets_moved i s y c inside h =
      ⊎_elim (λ on. inl (gives_moved i s y c _ inside on)) (λ off. inr (record { idle = off.idle; held = off.held ∙ same.held c inside })) h

  pub result_moved : (i : Columns) (s : Source) (r : Reaction) → IsResult n m i s r → IsResult n other i s r
  result_moved i s (Whole y) h = λ b inside. meets_moved i s y b inside (h b inside)
  result_moved i s (Stopped b word) h =
      (h.0, λ c inside within. meets_moved i s h.0 c inside (h.1 c inside within), gives_moved i s h.0 b _ (Spread-block n s _ h.2.active) h.2)

  pub next_moved : (s : Source) (y : Signals) (after : Memory) → IsNextMemory n m s y after → IsNextMemory n other s y after
  next_moved s y after h b inside =
      ⊎_elim
      (λ on. inl (record {
        active = on.active;
        mask = on.mask;
        mask_is = on.mask_is;
        state = on.state ∙ ap (λ x. next_state (spec_of n b) x on.mask (all_inputs (spec_of n b) (input_in n y b))) (same.state b inside);
        held = on.held;
        cursor = on.cursor ∙ ap (λ k. if is_sensor (spec_of n b).kind then k + 1 else k) (same.cursor b inside);
      }))
      (λ off. inr (record {
        idle = off.idle;
        state = off.state ∙ same.state b inside;
        held = off.held ∙ same.held b inside;
        cursor = off.cursor ∙ same.cursor b inside;
      }))
      (h b inside)

-- ---- activities that are the same at the blocks of the net

module _ (n : Parts) where
  Inside : ℕ → List Spec → Type 0
  Inside b ss = (c : ℕ) → b ≤ c → c < b + length ss → IsBlock n c

  later : (b : ℕ) (x : Spec) (ss : List Spec) → Inside b (x ∷ ss) → Inside (b + 1) ss
  unfolding Inside
  later b x ss h c l m = h c (omega (arith, l)) (omega (arith, m))

  first : (b : ℕ) (x : Spec) (ss : List Spec) → Inside b (x ∷ ss) → IsBlock n b
  unfolding Inside
  first b x ss h = h b (omega arith) (omega arith)

  all_inside : Inside 1 n.specs
  unfolding Inside
  all_inside c l m = record { least = l; most = omega (arith, m) }

  module _ (active busy : Activity) (alike : (b : ℕ) → IsBlock n b → active b ≡ busy b) where
    halts_from_same : (b : ℕ) (ss : List Spec) → Inside b ss → halts_from b ss active ≡ halts_from b ss busy
    halts_from_same b [] h = refl
    halts_from_same b (x ∷ ss) h =
        ap₂ (λ t u. (t && is_halt x.kind) || u) (alike b (first b x ss h)) (halts_from_same (b + 1) ss (later b x ss h))

    pub halts_same : halts n active ≡ halts n busy
    halts_same = halts_from_same 1 n.specs all_inside

-- ---- values that are the same at the blocks of the net

module _ (n : Parts) (net : IsNet n) (s : Source) (y z : Signals)
    (value : (b : ℕ) → IsBlock n b → y b ≡ z b) (there : (b : ℕ) → IsBlock n b → Active n s y b ↔ Active n s z b) where
  inputs_same : (b : ℕ) → IsBlock n b → all_inputs (spec_of n b) (input_in n y b) ≡ all_inputs (spec_of n b) (input_in n z b)
  inputs_same b inside =
      laid_same (spec_of n b).ins (input_in n y b) (input_in n z b)
      (λ k l m. ap (λ vs. output_among (spec_of n (wire_of n b k).block).outs vs (wire_of n b k).port)
      (value (wire_of n b k).block (net.wired.wires_lead b k (record { block = inside; least = l; most = m })).block))

  takes_back : (c p : ℕ) → IsBlock n c → Takes n z c p → Takes n y c p
  unfolding branch_on
  takes_back c p inside h = ap (branch (spec_of n c)) (inputs_same c inside) ∙ h

  takes_there : (c p : ℕ) → IsBlock n c → Takes n y c p → Takes n z c p
  unfolding branch_on
  takes_there c p inside h = sym (ap (branch (spec_of n c)) (inputs_same c inside)) ∙ h

  activated_back : (b p : ℕ) → IsActivated n s z b p → IsActivated n s y b p
  activated_back b p h = record {
    within = h.within;
    how = ⊎_elim (λ f. inl f) (λ f. let inside = Spread-block n s _ f.active in inr (record {
      block = f.block;
      port = f.port;
      active = (there f.block inside).1 f.active;
      sync = f.sync;
      takes = takes_back f.block f.port inside f.takes;
      fed = f.fed;
    })) h.how;
  }

  activated_there : (b p : ℕ) → IsActivated n s y b p → IsActivated n s z b p
  activated_there b p h = record {
    within = h.within;
    how = ⊎_elim (λ f. inl f) (λ f. let inside = Spread-block n s _ f.active in inr (record {
      block = f.block;
      port = f.port;
      active = (there f.block inside).0 f.active;
      sync = f.sync;
      takes = takes_there f.block f.port inside f.takes;
      fed = f.fed;
    })) h.how;
  }

  next_back : (m after : Memory) → IsNextMemory n m s z after → IsNextMemory n m s y after
  next_back m after h b inside =
      ⊎_elim
      (λ on. inl (record {
        active = (there b inside).1 on.active;
        mask = on.mask;
        mask_is = λ p. (λ bit. activated_back b (p + 1) ((on.mask_is p).0 bit), λ a. (on.mask_is p).1 (activated_there b (p + 1) a));
        state = on.state ∙ ap (next_state (spec_of n b) (m.state b) on.mask) (sym (inputs_same b inside));
        held = on.held ∙ sym (value b inside);
        cursor = on.cursor;
      }))
      (λ off. inr (record { idle = λ a. off.idle ((there b inside).0 a); state = off.state; held = off.held; cursor = off.cursor }))
      (h b inside)

  -- ---- and what depends on them

  module _ (active busy : Activity) (alike : (b : ℕ) → IsBlock n b → active b ≡ busy b) where
    seen_same : (b : ℕ) (ss : List Spec) → Inside n b ss → blocks_seen b ss y active ≡ blocks_seen b ss z busy
    seen_same b [] h = refl
    seen_same b (x ∷ ss) h =
        let inside = first n b x ss h in
        ap₂ (λ (p q : List Obs). p ++ q)
        (ap₂ (λ t vs. if t then outputs_seen b 1 x.outs vs else []) (alike b inside) (value b inside))
        (seen_same (b + 1) ss (later n b x ss h))

    programmed_same : (date k : ℕ) (ss : List Source) → ((q : Feed) → Contains ss (Port q) → IsBlock n q.block) → (p : Pending) →
        with_delays date (delay_of n y active) k ss p ≡ with_delays date (delay_of n z busy) k ss p
    programmed_same date k [] h p = refl
    programmed_same date k (Start ∷ ss) h p = programmed_same date (k + 1) ss (λ q c. h q (cons-Contains Start ss (Port q) c)) p
    programmed_same date k (Port q ∷ ss) h p =
        let inside = h q (0, omega arith, refl) in
        let same : delay_of n y active q ≡ delay_of n z busy q = ap₂ (λ t us. if t then delay (spec_of n q.block) q.port us else negsuc 0) (alike q.block inside) (inputs_same q.block inside) in
        ap (λ d. with_delays date (delay_of n y active) (k + 1) ss (with_delay date k d p)) same
        ∙ programmed_same date (k + 1) ss (λ r c. h r (cons-Contains (Port q) ss (Port r) c)) (with_delay date k (delay_of n z busy q) p)

    pending_same : (date : ℕ) (p : Pending) → next_pending n date y active p ≡ next_pending n date z busy p
    pending_same date p = programmed_same date 0 (sources_of n) (λ q c. ((sources_are n (Port q)).0 c).0.block) p

-- ---- states that are the same at the blocks of the net

abbrev pub AlikeOutcome : Parts → ReactionOutcome → ReactionOutcome → Type 0
AlikeOutcome n (Leads seen a) (Leads other b) = (seen ≡ other) × AreAlike n a b
AlikeOutcome n (Leads seen a) (StopsWith other) = ⊥
AlikeOutcome n (StopsWith seen) (Leads other b) = ⊥
AlikeOutcome n (StopsWith seen) (StopsWith other) = seen ≡ other

module _ (n : Parts) (i : Columns) (net : IsNet n) where
  flip : (m other : Memory) → SameMemory n m other → SameMemory n other m
  flip m other h = record { state = λ c l. sym (h.state c l); held = λ c l. sym (h.held c l); cursor = λ c l. sym (h.cursor c l) }

  module _ (date : ℕ) (s : Source) (free : IsLoopFree n s) (st other : State) (same : AreAlike n st other) where
    both_lead : (a b : State) (seen ps : List Obs) → Reacts n i date s st a seen → Reacts n i date s other b ps → (seen ≡ ps) × AreAlike n a b
    both_lead a b seen ps h g =
        let back = flip st.memory other.memory same.memory in
        let moved = result_moved n other.memory st.memory back i s (Whole g.values) g.result in
        let agree : (c : ℕ) → IsBlock n c → (h.values c ≡ g.values c) × (Active n s h.values c ↔ Active n s g.values c) = λ c inside.
        let x = agrees n st.memory i s net.wired (fair n st.memory i net.typed_specs) (Possible n s) (λ d e l dep. dep.on_possible) h.values g.values
        (λ d l within. h.result d l) (λ d l within. moved d l) (ground n s free c inside) (λ may. may) in
        (x.value inside, (x.there, x.back)) in
        let value : (c : ℕ) → IsBlock n c → h.values c ≡ g.values c = λ c inside. (agree c inside).0 in
        let there : (c : ℕ) → IsBlock n c → Active n s h.values c ↔ Active n s g.values c = λ c inside. (agree c inside).1 in
        let alike : (c : ℕ) → IsBlock n c → h.active c ≡ g.active c = λ c inside. same_bool (h.active c) (g.active c)
        (λ on. (g.active_are c inside).1 ((there c inside).0 ((h.active_are c inside).0 on)))
        (λ on. (h.active_are c inside).1 ((there c inside).1 ((g.active_are c inside).0 on))) in
        let after = next_back n net s h.values g.values value there st.memory g.memory (next_moved n other.memory st.memory back s g.values g.memory g.next) in
        let one : (c : ℕ) → IsBlock n c → (h.memory.state c ≡ g.memory.state c) × (h.memory.held c ≡ g.memory.held c) × (h.memory.cursor c ≡ g.memory.cursor c) = λ c inside.
        one_next n st.memory s h.values h.memory g.memory c h.next after inside in
        let memory : SameMemory n h.memory g.memory = record { state = λ c l. (one c l).0; held = λ c l. (one c l).1; cursor = λ c l. (one c l).2 } in
        let core : AreAlike n (after_reaction n date st h.values h.active h.memory) (after_reaction n date other g.values g.active g.memory) = record {
          memory = memory;
          pending = pending_same n net s h.values g.values value there h.active g.active alike date st.pending ∙ ap (next_pending n date g.values g.active) same.pending;
          now = refl;
          fired = same.fired;
          active = alike;
          activations = λ c l. ap₂ (λ t k. if t then k + 1 else k) (alike c l) (same.activations c l);
        } in (
          h.observed ∙ (ap (λ l. header date s ∷ l) (seen_same n net s h.values g.values value there h.active g.active alike 1 n.specs (all_inside n)) ∙ sym g.observed),
          subst (λ a'. AreAlike n a' b) (sym h.leads) (subst (λ b'. AreAlike n (after_reaction n date st h.values h.active h.memory) b') (sym g.leads) core),
        )

    one_outcome : (a b : ReactionOutcome) → IsOutcome n i date s st a → IsOutcome n i date s other b → AlikeOutcome n a b
    one_outcome (Leads seen a) (Leads ps b) h g = both_lead a b seen ps h g
    one_outcome (Leads seen a) (StopsWith ps) h g =
        one_result n st.memory i s net.wired (fair n st.memory i net.typed_specs) free (Whole h.values) (Stopped g.block g.word) h.result
        (result_moved n other.memory st.memory (flip st.memory other.memory same.memory) i s (Stopped g.block g.word) g.result)
    one_outcome (StopsWith seen) (Leads ps b) h g =
        one_result n st.memory i s net.wired (fair n st.memory i net.typed_specs) free (Stopped h.block h.word) (Whole g.values) h.result
        (result_moved n other.memory st.memory (flip st.memory other.memory same.memory) i s (Whole g.values) g.result)
    one_outcome (StopsWith seen) (StopsWith ps) h g =
        let r = one_result n st.memory i s net.wired (fair n st.memory i net.typed_specs) free (Stopped h.block h.word) (Stopped g.block g.word) h.result
        (result_moved n other.memory st.memory (flip st.memory other.memory same.memory) i s (Stopped g.block g.word) g.result) in
        h.observed ∙ (ap₂ (λ b w. stop_seen date s b w) r.0 r.1 ∙ sym g.observed)

    goes_one : (rest : State → List Obs → Type 0) → ((a b : State) (os ps : List Obs) → AreAlike n a b → rest a os → rest b ps → os ≡ ps) →
        (a b : ReactionOutcome) (os ps : List Obs) → AlikeOutcome n a b → Then a rest os → Then b rest ps → os ≡ ps
    goes_one rest one (Leads seen a) (Leads qs b) os ps alike h g =
        h.1 ∙ (ap₂ (λ (u v : List Obs). u ++ v) alike.0 (one a b h.0 g.0 alike.1 h.2 g.2) ∙ sym g.1)
    goes_one rest one (Leads seen a) (StopsWith qs) os ps alike h g = absurd alike
    goes_one rest one (StopsWith seen) (Leads qs b) os ps alike h g = absurd alike
    goes_one rest one (StopsWith seen) (StopsWith qs) os ps alike h g = h ∙ (alike ∙ sym g)

    observes_one : (rest : State → List Obs → Type 0) → ((a b : State) (os ps : List Obs) → AreAlike n a b → rest a os → rest b ps → os ≡ ps) →
        (os ps : List Obs) → Observes n i date s st rest os → Observes n i date s other rest ps → os ≡ ps
    observes_one rest one os ps h g = goes_one rest one h.outcome g.outcome os ps (one_outcome h.outcome g.outcome h.is g.is) h.goes_on g.goes_on

  ends_one : (x : Decision) (F G : Event → List Obs → Type 0) → ((e : Event) (os ps : List Obs) → F e os → G e ps → os ≡ ps) → (os ps : List Obs)
      → EndsOr x os (λ e. F e os) → EndsOr x ps (λ e. G e ps) → os ≡ ps
  ends_one (Over word) F G one os ps h g = h ∙ sym g
  ends_one (Fires e) F G one os ps h g = one e os ps h g

  taken_alike : (st other : State) (e : Event) → AreAlike n st other → AreAlike n (taken st e) (taken other e)
  taken_alike st other e h = record {
    memory = h.memory;
    pending = ap (λ (p : Pending). record p { events = without e.order p.events }) h.pending;
    now = h.now;
    fired = ap (λ k. k + 1) h.fired;
    active = h.active;
    activations = h.activations;
  }

  module _ (free : AreLoopFree n) (until : ℕ) where
    comes_alike : (left : ℕ) (st other : State) → AreAlike n st other → comes_next n until left st ≡ comes_next n until left other
    comes_alike left st other h =
        ap₂ (λ t (p : Pending). if t then Over Halt else if left == 0 then Over Events else in_time until (next p.events)) (halts_same n st.active other.active h.active) h.pending

    one_from : (left : ℕ) (st other : State) (os ps : List Obs) → AreAlike n st other → IsRunFrom n i until left st os → IsRunFrom n i until left other ps → os ≡ ps
    unfolding IsRunFrom
    one_from zero st other os ps same h g =
        ends_one (comes_next n until 0 st) (λ e qs. ⊥) (λ e qs. ⊥) (λ e qs rs f k. absurd f) os ps h
        (subst (λ x. EndsOr x ps (λ e. ⊥)) (sym (comes_alike 0 st other same)) g)
    one_from (suc left) st other os ps same h g =
        ends_one (comes_next n until (suc left) st)
        (λ e qs. Observes n i e.date (source_of n e.source) (taken st e) (IsRunFrom n i until left) qs)
        (λ e qs. Observes n i e.date (source_of n e.source) (taken other e) (IsRunFrom n i until left) qs)
        (λ e qs rs f k. observes_one e.date (source_of n e.source) (free_at n free e.source) (taken st e) (taken other e) (taken_alike st other e same)
        (IsRunFrom n i until left) (λ a b us vs alike x z. one_from left a b us vs alike x z) qs rs f k)
        os ps h
        (subst (λ x. EndsOr x ps (λ e. Observes n i e.date (source_of n e.source) (taken other e) (IsRunFrom n i until left) ps)) (sym (comes_alike (suc left) st other same)) g)

    rest_alike : (limit : ℕ) (st other : State) (os ps : List Obs) → AreAlike n st other → IsRest n i until limit st os → IsRest n i until limit other ps → os ≡ ps
    rest_alike limit st other os ps same h g =
        one_from (limit - st.fired) st other os ps same h (subst (λ k. IsRunFrom n i until (limit - k) other ps) (sym same.fired) g)

    pub itself : (st : State) → AreAlike n st st
    itself st = record { memory = record { state = λ c l. refl; held = λ c l. refl; cursor = λ c l. refl }; pending = refl; now = refl; fired = refl; active = λ c l. refl; activations = λ c l. refl }

    pub one_rest : (limit : ℕ) (st : State) (os ps : List Obs) → IsRest n i until limit st os → IsRest n i until limit st ps → os ≡ ps
    one_rest limit st os ps h g = rest_alike limit st st os ps (itself st) h g

    pub one_trace : (limit : ℕ) (os ps : List Obs) → IsRun n i until limit os → IsRun n i until limit ps → os ≡ ps
    one_trace limit os ps h g =
        observes_one 0 Start (free_at n free 0) (first_state n) (first_state n) (itself (first_state n)) (IsRest n i until limit) (rest_alike limit) os ps h g

    -- ---- one state

    fires_one : (e f : Event) → Fires e ≡ Fires f → e ≡ f
    fires_one e f h = cc

    no_less : (limit : ℕ) (from : State) → {st : State} → {seen : List Obs} → ReachableFrom n i until limit from st seen → from.fired ≤ st.fired
    no_less limit from here = omega arith
    no_less limit from (reacted st after e seen more before fires h) =
        let so_far = no_less limit from before in
        let fired : after.fired ≡ st.fired + 1 = ap (λ (a : State). a.fired) h.leads in omega (arith, so_far, fired)

    reaches_one : (limit : ℕ) (from start : State) → AreAlike n from start → {st other : State} → {seen others : List Obs} → ReachableFrom n i until limit from st seen
        → ReachableFrom n i until limit start other others → st.fired ≡ other.fired → (seen ≡ others) × AreAlike n st other
    reaches_one limit from start same here here fired = (refl, same)
    reaches_one limit from start same here (reacted st after e seen more before fires h) fired =
        let least = no_less limit start before in
        let once : after.fired ≡ st.fired + 1 = ap (λ (a : State). a.fired) h.leads in
        let first = same.fired in absurd (omega (arith, least, once, first, fired))
    reaches_one limit from start same (reacted st after e seen more before fires h) here fired =
        let least = no_less limit from before in
        let once : after.fired ≡ st.fired + 1 = ap (λ (a : State). a.fired) h.leads in
        let first = same.fired in absurd (omega (arith, least, once, first, fired))
    reaches_one limit from start same (reacted st after e seen more before fires h) (reacted st' after' e' seen' more' before' fires' h') fired =
        let once : after.fired ≡ st.fired + 1 = ap (λ (a : State). a.fired) h.leads in
        let once' : after'.fired ≡ st'.fired + 1 = ap (λ (a : State). a.fired) h'.leads in
        let r = reaches_one limit from start same before before' (omega (arith, once, once', fired)) in
        let both = fires_one e e' (sym fires ∙ (ap (λ k. comes_next n until (limit - k) st) r.1.fired ∙ (comes_alike (limit - st'.fired) st st' r.1 ∙ fires'))) in
        let g = subst (λ (x : Event). Reacts n i x.date (source_of n x.source) (taken st' x) after' more') (sym both) h' in
        let s = both_lead e.date (source_of n e.source) (free_at n free e.source) (taken st e) (taken st' e) (taken_alike st st' e r.1) after after' more more' h g in
        (ap₂ (λ (u v : List Obs). u ++ v) r.0 s.0, s.1)

    pub one_state : (limit : ℕ) (st other : State) (seen others : List Obs) → Reachable n i until limit st seen → Reachable n i until limit other others → st.fired ≡ other.fired
        → (seen ≡ others) × AreAlike n st other
    one_state limit st other seen others h g fired =
        let s = both_lead 0 Start (free_at n free 0) (first_state n) (first_state n) (itself (first_state n)) h.first g.first h.at_start g.at_start h.started g.started in
        let r = reaches_one limit h.first g.first s.1 h.reaches g.reaches fired in
        (h.observed ∙ (ap₂ (λ (u v : List Obs). u ++ v) s.0 r.0 ∙ sym g.observed), r.1)
