-- A slow evaluation of a net: the values of a reaction are found by guessing an order of the blocks, and what is found is checked against
-- the definitions, so that a wrong guess gives nothing.
use Rattle.std.proofs.Common.{◌≡◌, ℕ, zero, suc, ◌+◌, ◌-◌, Bool, true, false, ◌&&◌, ◌||◌, cond, inl, inr, ⊎_elim, ℤ, List, [], ◌∷◌, ◌++◌, length, slice_index_or, Option, Some, None, Result, Ok, Err, eqb, refl, sym, ap, subst, ◌∙◌, append-nil, arith, true≢false}
use Rattle.std.proofs.lemmas.Bool.{cases_Bool, or_cases, eqb-true}
use Rattle.sci_base.specs.declared.observation.Obs.{Obs}
use Rattle.sci_base.specs.declared.observation.Obs.TheVariants.{End}
use Rattle.sci_base.specs.declared.observation.EndWord.{EndWord}
use Rattle.sci_base.specs.declared.observation.StopWord.{StopWord}
use Rattle.sci_kinds.specs.Table.{next}
use Rattle.sci_loop.proofs.Depth.{one_depth}
use Rattle.sci_net.specs.declared.Source.{Source}
use Rattle.sci_net.specs.Parts.{Parts, IsBlock, numbered, spec_of}
use Rattle.sci_forms.specs.Form.{is_sensor}
use Rattle.sci_net.specs.Sources.{source_of}
use Rattle.sci_reaction.specs.Depends.{Depends, Precedes}
use Rattle.sci_reaction.specs.Memory.{Memory, Columns}
use Rattle.sci_reaction.specs.Equations.{Signals, input_in, all_inputs, answer, Active, IsMaskOf, Meets}
use Rattle.sci_reaction.specs.Result.{Whole, Stopped, IsResult}
use Rattle.sci_reaction.specs.Next.{IsNextMemory}
use Rattle.sci_reaction.specs.Schedule.{Entry}
use Rattle.sci_reaction.specs.Pass.{Progress, applies, answer_in, with_values, at_rest}
use Rattle.sci_reaction.proofs.Lists.{and_both}
use Rattle.sci_reaction.proofs.Bits.{bits_of, bits_of-at}
use Rattle.sci_reaction.proofs.Spreading.{possible, Spread-block}
use Rattle.sci_pending.specs.Pending.{Event}
use Rattle.sci_run.specs.Observed.{values_seen, stop_seen}
use Rattle.sci_run.specs.Run.{State, first_state, taken, after_reaction, ReactionOutcome, Leads, StopsWith, IsOutcome, Decision, Over, Fires, comes_next, EndsOr, Observes, IsRunFrom, IsRest, IsRun, here, Reachable}
use Rattle.sci_run.specs.Finish.{ByEnd, Finish, ended as at_end, FinishesWith}
use Rattle.sci_run.proofs.Finish.{further}
use Rattle.sci_run.proofs.Tests.{up_to, up_to-has, listed_from, recalled, all_in, all_at, same_list, same_list-is, joins, active_in, justified, closed, active_to, active_from, activated_test, activated_to, activated_from}

irreflexive : (n : Parts) (s : Source) (b : ℕ) → Precedes n s b b → ⊥
irreflexive n s b p =
    let same = one_depth (Depends n s) b p.depth p.later_depth p.has p.later_has in ⊎_elim (λ lt. omega (arith, lt, same)) (λ eq. omega (arith, eq.1)) p.less

abbrev memory_of : List (List ℤ) → List (List ℤ) → List ℕ → Memory
memory_of states helds cursors =
    record { state = λ b. numbered [] states b; held = λ b. numbered [] helds b; cursor = λ b. numbered 0 cursors b }

module _ (n : Parts) (i : Columns) where
  abbrev all_blocks : List ℕ
  all_blocks = up_to (length n.specs)

  -- ---- one reaction, from a memory

  module _ (m : Memory) (s : Source) (y : Signals) (act : List ℕ) where
    abbrev gives : Result (List ℤ) StopWord → List ℤ → Bool
    gives (Ok vs) ws = same_list vs ws
    gives (Err word) ws = false

    abbrev mask_of : ℕ → ℕ
    mask_of b = bits_of (λ k. activated_test n s y act b (k + 1)) (spec_of n b).evtin

    abbrev pub is_met : ℕ → Bool
    is_met b =
        cond (active_in n s y act b) (gives (answer n m i b (mask_of b) (input_in n y b)) (y b)) (same_list (y b) (m.held b))

    abbrev pub is_known : Bool
    is_known = justified n s y act && closed n s y act

    gives-is : (r : Result (List ℤ) StopWord) (ws : List ℤ) → gives r ws ≡ true → r ≡ Ok ws
    gives-is (Ok vs) ws h = ap (λ v. Ok v) (same_list-is vs ws h)
    gives-is (Err word) ws h = absurd (true≢false (sym h))

    mask_of-is : (b : ℕ) → IsBlock n b → justified n s y act ≡ true → closed n s y act ≡ true → IsMaskOf n s y b (mask_of b)
    mask_of-is b inside j c p =
        let bits = bits_of-at (λ k. activated_test n s y act b (k + 1)) (spec_of n b).evtin p in (
          (λ h. let r = bits.0 h in let l = r.0 in
              activated_to n s y act b (p + 1) j (record { block = inside; least = omega arith; most = omega (arith, l) }) r.1),
          λ a. bits.1 (let l = a.within.most in omega (arith, l), activated_from n s y act b (p + 1) c a),
        )

    meets_to : (b : ℕ) → IsBlock n b → is_known ≡ true → is_met b ≡ true → Meets n m i s y b
    meets_to b inside k h =
        let known = and_both (justified n s y act) (closed n s y act) k in
        ⊎_elim
        (λ on.
        let t = sym (ap (λ q. cond q (gives (answer n m i b (mask_of b) (input_in n y b)) (y b)) (same_list (y b) (m.held b))) on) ∙ h in
        inl (record {
          active = active_to n s y act b known.0 on;
          mask = mask_of b;
          mask_is = mask_of-is b inside known.0 known.1;
          answer_is = gives-is _ (y b) t;
        }))
        (λ off. inr (record {
          idle = λ a. true≢false (sym (active_from n s y act known.1 a) ∙ off);
          held = same_list-is (y b) (m.held b)
              (sym (ap (λ q. cond q (gives (answer n m i b (mask_of b) (input_in n y b)) (y b)) (same_list (y b) (m.held b))) off) ∙ h);
        }))
        (cases_Bool (active_in n s y act b))

    -- ---- with values

    abbrev pub is_whole : Bool
    is_whole = is_known && all_in is_met all_blocks

    whole_to : is_whole ≡ true → IsResult n m i s (Whole y)
    whole_to h =
        let t = and_both is_known (all_in is_met all_blocks) h in
        λ b inside. meets_to b inside t.0 (all_at is_met all_blocks b t.1 (up_to-has (length n.specs) b inside.least inside.most))

    abbrev state_after : ℕ → List ℤ
    state_after b = cond (active_in n s y act b) (next (spec_of n b) (m.state b) (mask_of b) (all_inputs (spec_of n b) (input_in n y b))) (m.state b)

    abbrev held_after : ℕ → List ℤ
    held_after b = cond (active_in n s y act b) (y b) (m.held b)

    abbrev cursor_after : ℕ → ℕ
    cursor_after b = cond (active_in n s y act b) (cond (is_sensor (spec_of n b).kind) (m.cursor b + 1) (m.cursor b)) (m.cursor b)

    -- worked out once
    abbrev pub memory_after : Memory
    memory_after =
        memory_of (listed_from state_after 1 (length n.specs)) (listed_from held_after 1 (length n.specs)) (listed_from cursor_after 1 (length n.specs))

    next_to : is_whole ≡ true → IsNextMemory n m s y memory_after
    next_to h b inside =
        let known = and_both (justified n s y act) (closed n s y act) (and_both is_known (all_in is_met all_blocks) h).0 in
        let states = recalled state_after [] (length n.specs) b inside.least inside.most in
        let helds = recalled held_after [] (length n.specs) b inside.least inside.most in
        let cursors = recalled cursor_after 0 (length n.specs) b inside.least inside.most in
        ⊎_elim
        (λ on. inl (record {
          active = active_to n s y act b known.0 on;
          mask = mask_of b;
          mask_is = mask_of-is b inside known.0 known.1;
          state = states ∙ ap (λ q. cond q (next (spec_of n b) (m.state b) (mask_of b) (all_inputs (spec_of n b) (input_in n y b))) (m.state b)) on;
          held = helds ∙ ap (λ q. cond q (y b) (m.held b)) on;
          cursor = cursors ∙ ap (λ q. cond q (cond (is_sensor (spec_of n b).kind) (m.cursor b + 1) (m.cursor b)) (m.cursor b)) on;
        }))
        (λ off. inr (record {
          idle = λ a. true≢false (sym (active_from n s y act known.1 a) ∙ off);
          state = states ∙ ap (λ q. cond q (next (spec_of n b) (m.state b) (mask_of b) (all_inputs (spec_of n b) (input_in n y b))) (m.state b)) off;
          held = helds ∙ ap (λ q. cond q (y b) (m.held b)) off;
          cursor = cursors ∙ ap (λ q. cond q (cond (is_sensor (spec_of n b).kind) (m.cursor b + 1) (m.cursor b)) (m.cursor b)) off;
        }))
        (cases_Bool (active_in n s y act b))

    -- ---- with a stop at b, where all other blocks have their values

    abbrev pub is_stop : ℕ → Bool
    is_stop b = (is_known && active_in n s y act b) && all_in (λ c. eqb c b || is_met c) all_blocks

    stop_to : (b : ℕ) (word : StopWord) → answer n m i b (mask_of b) (input_in n y b) ≡ Err word → is_stop b ≡ true → IsResult n m i s (Stopped b word)
    stop_to b word none h =
        let t = and_both (is_known && active_in n s y act b) (all_in (λ c. eqb c b || is_met c) all_blocks) h in
        let k = and_both is_known (active_in n s y act b) t.0 in
        let known = and_both (justified n s y act) (closed n s y act) k.0 in
        let active = active_to n s y act b known.0 k.1 in (
          y,
          λ c inside within. ⊎_elim
              (λ same. absurd (irreflexive n s b (subst (λ d. Precedes n s d b) (eqb-true c b same) (within (possible n s _ (subst (Active n s y) (sym (eqb-true c b same)) active))))))
              (λ other. meets_to c inside k.0 other)
              (or_cases (eqb c b) (is_met c) (all_at (λ d. eqb d b || is_met d) all_blocks c t.1 (up_to-has (length n.specs) c inside.least inside.most))),
          record {
            active = active;
            mask = mask_of b;
            mask_is = mask_of-is b (Spread-block n s _ active) known.0 known.1;
            answer_is = none;
          },
        )

    activity : is_whole ≡ true → (b : ℕ) → (active_in n s y act b ≡ true → Active n s y b) × (Active n s y b → active_in n s y act b ≡ true)
    activity h b =
        let known = and_both (justified n s y act) (closed n s y act) (and_both is_known (all_in is_met all_blocks) h).0 in
        (λ on. active_to n s y act b known.0 on, λ a. active_from n s y act known.1 a)

  -- ---- what a reaction comes to, where it is found

  module _ (date : ℕ) (s : Source) (st : State) where
    abbrev Found : Option ReactionOutcome → Type 0
    Found None = Unit {0}
    Found (Some out) = IsOutcome n i date s st out

    abbrev led : Signals → List ℕ → ReactionOutcome
    led y act =
        Leads (values_seen n date s y (active_in n s y act)) (after_reaction n date st y (active_in n s y act) (memory_after st.memory s y act))

    abbrev stopped_at : Signals → List ℕ → ℕ → Result (List ℤ) StopWord → Option ReactionOutcome → Option ReactionOutcome
    stopped_at y act b (Ok vs) others = others
    stopped_at y act b (Err word) others =
        cond (is_stop st.memory s y act b) (Some (StopsWith (stop_seen date s b word))) others

    abbrev stopped_in : Signals → List ℕ → List ℕ → Option ReactionOutcome
    stopped_in y act [] = None
    stopped_in y act (b ∷ bs) = stopped_at y act b (answer n st.memory i b (mask_of st.memory s y act b) (input_in n y b)) (stopped_in y act bs)

    abbrev found : Signals → List ℕ → Option ReactionOutcome
    found y act = cond (is_whole st.memory s y act) (Some (led y act)) (stopped_in y act act)

    found_stop : (y : Signals) (act : List ℕ) (b : ℕ) (r : Result (List ℤ) StopWord) (others : Option ReactionOutcome) → answer n st.memory i b (mask_of st.memory s y act b) (input_in n y b) ≡ r
        → Found others → Found (stopped_at y act b r others)
    found_stop y act b (Ok vs) others e h = h
    found_stop y act b (Err word) others e h =
        ⊎_elim
        (λ on. subst (λ q. Found (cond q (Some (StopsWith (stop_seen date s b word))) others)) (sym on)
        (record { block = b; word = word; result = stop_to st.memory s y act b word e on; observed = refl }))
        (λ off. subst (λ q. Found (cond q (Some (StopsWith (stop_seen date s b word))) others)) (sym off) h)
        (cases_Bool (is_stop st.memory s y act b))

    found_in : (y : Signals) (act bs : List ℕ) → Found (stopped_in y act bs)
    found_in y act [] = tt
    found_in y act (b ∷ bs) = found_stop y act b (answer n st.memory i b (mask_of st.memory s y act b) (input_in n y b)) (stopped_in y act bs) refl (found_in y act bs)

    found_is : (y : Signals) (act : List ℕ) → Found (found y act)
    found_is y act =
        ⊎_elim
        (λ on. subst (λ q. Found (cond q (Some (led y act)) (stopped_in y act act))) (sym on)
        (record {
          values = y;
          active = active_in n s y act;
          memory = memory_after st.memory s y act;
          result = whole_to st.memory s y act on;
          active_are = λ b inside. activity st.memory s y act on b;
          next = next_to st.memory s y act on;
          leads = refl;
          observed = refl;
        }))
        (λ off. subst (λ q. Found (cond q (Some (led y act)) (stopped_in y act act))) (sym off) (found_in y act act))
        (cases_Bool (is_whole st.memory s y act))

  -- ---- the values that are tried: one after the other, in the order of a guess

  abbrev tried : Memory → Progress → Entry → Result (List ℤ) StopWord → Progress
  tried m w e (Ok vs) = with_values w e.block vs
  tried m w e (Err word) = w

  abbrev swept : Memory → List Entry → Progress → Progress
  swept m [] w = w
  swept m (e ∷ es) w = swept m es (cond (applies n w e) (tried m w e (answer_in n m i w e)) w)

  abbrev grown_by : Source → Signals → List ℕ → List ℕ → List ℕ
  grown_by s y [] act = act
  grown_by s y (b ∷ bs) act = grown_by s y bs (cond (active_in n s y act b) act (cond (joins n s y act b) (b ∷ act) act))

  abbrev grown : Source → Signals → ℕ → List ℕ → List ℕ
  grown s y zero act = act
  grown s y (suc k) act = grown s y k (grown_by s y all_blocks act)

  abbrev signals_of : List (List ℤ) → Signals
  signals_of vss b = numbered [] vss b

  abbrev with_values_found : (date : ℕ) → Source → State → Signals → Option ReactionOutcome
  with_values_found date s st y = found date s st y (grown s y (length n.specs) [])

  -- ---- the run, with a guess for each source

  module _ (guesses : List (List Entry)) (until : ℕ) where
    abbrev tried_values : ℕ → State → Signals
    tried_values k st = signals_of (listed_from (swept st.memory (slice_index_or guesses k []) (at_rest st.memory)).values 1 (length n.specs))

    abbrev reaction : (date source : ℕ) → State → Option ReactionOutcome
    reaction date k st = with_values_found date (source_of n k) st (tried_values k st)

    abbrev with_more : List Obs → Option (List Obs) → Option (List Obs)
    with_more seen None = None
    with_more seen (Some more) = Some (seen ++ more)

    abbrev on_outcome : Option ReactionOutcome → (State → Option (List Obs)) → Option (List Obs)
    on_outcome None rest = None
    on_outcome (Some (Leads seen after)) rest = with_more seen (rest after)
    on_outcome (Some (StopsWith seen)) rest = Some seen

    abbrev ends_or : Decision → (Event → Option (List Obs)) → Option (List Obs)
    ends_or (Over word) fires = Some (End word ∷ [])
    ends_or (Fires e) fires = fires e

    abbrev run_from : ℕ → State → Option (List Obs)
    run_from zero st = ends_or (comes_next n until 0 st) (λ e. None)
    run_from (suc left) st = ends_or (comes_next n until (suc left) st) (λ e. on_outcome (reaction e.date e.source (taken st e)) (run_from left))

    abbrev pub run : ℕ → Option (List Obs)
    run limit = on_outcome (reaction 0 0 (first_state n)) (λ after. run_from (limit - after.fired) after)

    -- ---- and what it gives is the run

    abbrev pub Traced : (List Obs → Type 0) → Option (List Obs) → Type 0
    Traced P None = Unit {0}
    Traced P (Some os) = P os

    observed : (date : ℕ) (s : Source) (st : State) (out : Option ReactionOutcome) (R : State → List Obs → Type 0) (rest : State → Option (List Obs)) →
        Found date s st out → ((after : State) → Traced (R after) (rest after)) → Traced (Observes n i date s st R) (on_outcome out rest)
    observed date s st None R rest is goes = tt
    observed date s st (Some (Leads seen after)) R rest is goes = with_rest (rest after) (goes after)
      where
        with_rest : (more : Option (List Obs)) → Traced (R after) more → Traced (Observes n i date s st R) (with_more seen more)
        with_rest None h = tt
        with_rest (Some os) h = record { outcome = Leads seen after; is = is; goes_on = (os, refl, h) }
    observed date s st (Some (StopsWith seen)) R rest is goes = record { outcome = StopsWith seen; is = is; goes_on = refl }

    ended : (x : Decision) (fires : Event → Option (List Obs)) (F : Event → List Obs → Type 0) → ((e : Event) → Traced (F e) (fires e)) → Traced (λ os. EndsOr x os (λ e. F e os)) (ends_or x fires)
    ended (Over word) fires F goes = refl
    ended (Fires e) fires F goes = goes e

    reaction_is : (date k : ℕ) (st : State) → Found date (source_of n k) st (reaction date k st)
    reaction_is date k st =
        let y : Signals = tried_values k st in
        found_is date (source_of n k) st y (grown (source_of n k) y (length n.specs) [])

    from_is : (left : ℕ) (st : State) → Traced (IsRunFrom n i until left st) (run_from left st)
    unfolding IsRunFrom
    from_is zero st = ended (comes_next n until 0 st) (λ e. None) (λ e os. ⊥) (λ e. tt)
    from_is (suc left) st =
        ended (comes_next n until (suc left) st) (λ e. on_outcome (reaction e.date e.source (taken st e)) (run_from left))
        (λ e os. Observes n i e.date (source_of n e.source) (taken st e) (IsRunFrom n i until left) os)
        (λ e. observed e.date (source_of n e.source) (taken st e) (reaction e.date e.source (taken st e)) (IsRunFrom n i until left) (run_from left)
        (reaction_is e.date e.source (taken st e)) (from_is left))

    run_is : (limit : ℕ) → Traced (IsRun n i until limit) (run limit)
    run_is limit =
        observed 0 (source_of n 0) (first_state n) (reaction 0 0 (first_state n)) (IsRest n i until limit) (λ after. run_from (limit - after.fired) after)
        (reaction_is 0 0 (first_state n)) (λ after. from_is (limit - after.fired) after)

    -- what the evaluation finds is the trace
    pub is_run : (limit : ℕ) (os : List Obs) → run limit ≡ Some os → IsRun n i until limit os
    is_run limit os h = subst (Traced (IsRun n i until limit)) h (run_is limit)

    -- ---- the state behind so many events, and what has been observed there

    abbrev at_start : Option ReactionOutcome → Option (State × List Obs)
    at_start (Some (Leads seen after)) = Some (after, seen)
    at_start _ = None

    abbrev led_on : List Obs → Option ReactionOutcome → Option (State × List Obs)
    led_on seen (Some (Leads more after)) = Some (after, seen ++ more)
    led_on seen _ = None

    abbrev fired_on : State → List Obs → Decision → Option (State × List Obs)
    fired_on st seen (Over word) = None
    fired_on st seen (Fires e) = led_on seen (reaction e.date e.source (taken st e))

    abbrev one_more : (limit : ℕ) → Option (State × List Obs) → Option (State × List Obs)
    one_more limit None = None
    one_more limit (Some r) = fired_on r.0 r.1 (comes_next n until (limit - r.0.fired) r.0)

    abbrev pub reached : (limit events : ℕ) → Option (State × List Obs)
    reached limit zero = at_start (reaction 0 0 (first_state n))
    reached limit (suc k) = one_more limit (reached limit k)

    abbrev IsReached : (limit : ℕ) → Option (State × List Obs) → Type 0
    IsReached limit None = Unit {0}
    IsReached limit (Some r) = Reachable n i until limit r.0 r.1

    start_is : (limit : ℕ) (out : Option ReactionOutcome) → Found 0 (source_of n 0) (first_state n) out → IsReached limit (at_start out)
    start_is limit None h = tt
    start_is limit (Some (Leads seen after)) h =
        record { first = after; at_start = seen; later = []; started = h; reaches = here; observed = sym (append-nil seen) }
    start_is limit (Some (StopsWith seen)) h = tt

    led_on_is : (limit : ℕ) (st : State) (seen : List Obs) (e : Event) (out : Option ReactionOutcome) → Reachable n i until limit st seen
        → comes_next n until (limit - st.fired) st ≡ Fires e → Found e.date (source_of n e.source) (taken st e) out → IsReached limit (led_on seen out)
    led_on_is limit st seen e None stands fires h = tt
    led_on_is limit st seen e (Some (Leads more after)) stands fires h = further n i until limit st after e seen more stands fires h
    led_on_is limit st seen e (Some (StopsWith more)) stands fires h = tt

    fired_on_is : (limit : ℕ) (st : State) (seen : List Obs) (x : Decision) → Reachable n i until limit st seen → comes_next n until (limit - st.fired) st ≡ x
        → IsReached limit (fired_on st seen x)
    fired_on_is limit st seen (Over word) stands is = tt
    fired_on_is limit st seen (Fires e) stands is =
        led_on_is limit st seen e (reaction e.date e.source (taken st e)) stands is (reaction_is e.date e.source (taken st e))

    one_more_is : (limit : ℕ) (r : Option (State × List Obs)) → IsReached limit r → IsReached limit (one_more limit r)
    one_more_is limit None h = tt
    one_more_is limit (Some r) h = fired_on_is limit r.0 r.1 (comes_next n until (limit - r.0.fired) r.0) h refl

    reached_is : (limit events : ℕ) → IsReached limit (reached limit events)
    reached_is limit zero = start_is limit (reaction 0 0 (first_state n)) (reaction_is 0 0 (first_state n))
    reached_is limit (suc k) = one_more_is limit (reached limit k) (reached_is limit k)

    -- ---- the last state

    abbrev pub EndsThere : (limit : ℕ) → EndWord → List Obs → (State → Type 0) → Option (State × List Obs) → Type 0
    EndsThere limit word os P None = ⊥
    EndsThere limit word os P (Some r) = (comes_next n until (limit - r.0.fired) r.0 ≡ Over word) × (r.1 ++ End word ∷ [] ≡ os) × P r.0

    ends_by : (limit : ℕ) (word : EndWord) (os : List Obs) (P : State → Type 0) (r : Option (State × List Obs)) → IsReached limit r → EndsThere limit word os P r
        → FinishesWith n i until limit (ByEnd word) os P
    ends_by limit word os P None stands h = absurd h
    ends_by limit word os P (Some r) stands h = (r.0, subst (Finish n i until limit r.0 (ByEnd word)) h.1 (at_end r.0 word r.1 stands h.0), h.2)

    pub finishes : (limit events : ℕ) (word : EndWord) (os : List Obs) (P : State → Type 0) → EndsThere limit word os P (reached limit events)
        → FinishesWith n i until limit (ByEnd word) os P
    finishes limit events word os P h = ends_by limit word os P (reached limit events) (reached_is limit events) h
