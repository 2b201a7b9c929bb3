-- How many observations a run has at most.
use Rattle.std.proofs.Common.{◌≡◌, ◌≤◌, ◌+◌, ◌-◌, ◌*◌, min, ℕ, zero, suc, ℤ, List, [], ◌∷◌, length, take, drop, refl, ap, ◌∙◌, arith, Bool, true, false, if◌then◌else◌}
use Rattle.std.proofs.lemmas.List.{length-append, length-take}
use Rattle.sci_base.specs.declared.observation.Obs.{Obs}
use Rattle.sci_forms.specs.declared.ports.Port.{Port as Output}
use Rattle.sci_forms.specs.declared.spec.Spec.{Spec}
use Rattle.sci_forms.specs.Ports.{elements, total}
use Rattle.sci_net.specs.declared.Source.{Source}
use Rattle.sci_net.specs.declared.Source.TheVariants.{Start}
use Rattle.sci_net.specs.Parts.{Parts}
use Rattle.sci_net.specs.Net.{all_elements}
use Rattle.sci_net.specs.Sources.{source_of}
use Rattle.sci_reaction.specs.Equations.{Signals}
use Rattle.sci_reaction.specs.Memory.{Columns}
use Rattle.sci_pending.specs.Pending.{Event}
use Rattle.sci_run.specs.Activity.{Activity}
use Rattle.sci_run.specs.Observed.{elements_seen, outputs_seen, blocks_seen}
use Rattle.sci_run.specs.Run.{State, first_state, taken, ReactionOutcome, Leads, StopsWith, IsOutcome, Decision, Over, Fires, comes_next, Then, Observes, EndsOr, IsRunFrom, IsRest, IsRun}

elements_length : (b p e : ℕ) (vs : List ℤ) → length (elements_seen b p e vs) ≡ length vs
elements_length b p e [] = refl
elements_length b p e (v ∷ vs) = ap suc (elements_length b p (e + 1) vs)

both_within : (all x y e m t : ℕ) → all ≡ x + y → x ≡ min e m → y ≤ t → all ≤ e + t
both_within all x y e m t split first rest = omega (arith, split, first, rest)

outputs_length : (b p : ℕ) (os : List Output) (vs : List ℤ) → length (outputs_seen b p os vs) ≤ total os
outputs_length b p [] vs = omega arith
outputs_length b p (o ∷ os) vs =
    both_within _ _ _ (elements o) (length vs) (total os) (length-append (elements_seen b p 1 (take (elements o) vs)) (outputs_seen b (p + 1) os (drop (elements o) vs)))
    (elements_length b p 1 (take (elements o) vs) ∙ length-take (elements o) vs) (outputs_length b (p + 1) os (drop (elements o) vs))

where_length : (test : Bool) (xs : List Obs) (n : ℕ) → length xs ≤ n → length (if test then xs else []) ≤ n
where_length true xs n h = h
where_length false xs n h = omega arith

two_within : (all x y m n : ℕ) → all ≡ x + y → x ≤ m → y ≤ n → all ≤ m + n
two_within all x y m n split first rest = omega (arith, split, first, rest)

blocks_length : (b : ℕ) (ss : List Spec) (y : Signals) (active : Activity) → length (blocks_seen b ss y active) ≤ all_elements ss
blocks_length b [] y active = omega arith
blocks_length b (s ∷ ss) y active =
    two_within _ _ _ (total s.outs) (all_elements ss) (length-append (if active b then outputs_seen b 1 s.outs (y b) else []) (blocks_seen (b + 1) ss y active))
    (where_length (active b) (outputs_seen b 1 s.outs (y b)) (total s.outs) (outputs_length b 1 s.outs (y b))) (blocks_length (b + 1) ss y active)

module _ (n : Parts) (i : Columns) (until : ℕ) (small : all_elements n.specs ≤ 65536) where
  -- a reaction has its header and a value for each element at most, or two observations
  then_short : (date : ℕ) (s : Source) (st : State) (rest : State → List Obs → Type 0) (os : List Obs) (m : ℕ) → 2 ≤ m → ((after : State) (more : List Obs) → rest after more → length more + 65537 ≤ m)
      → (o : ReactionOutcome) → IsOutcome n i date s st o → Then o rest os → length os ≤ m
  then_short date s st rest os m least onward (Leads seen after) is h =
      let first = ap length is.observed in
      let values = blocks_length 1 n.specs is.values is.active in
      let split = ap length h.1 in
      let both = length-append seen h.0 in
      let behind = onward after h.0 h.2 in
      omega (arith, small, first, values, split, both, behind)
  then_short date s st rest os m least onward (StopsWith seen) is h =
      let split = ap length h in
      let first = ap length is.observed in
      omega (arith, least, split, first)

  ends_short : (x : Decision) (os : List Obs) (F : Event → Type 0) (m : ℕ) → 1 ≤ m → ((e : Event) → F e → length os ≤ m) → EndsOr x os F → length os ≤ m
  ends_short (Over word) os F m least fires h = let one = ap length h in omega (arith, least, one)
  ends_short (Fires e) os F m least fires h = fires e h

  from_short : (left : ℕ) (st : State) (os : List Obs) → IsRunFrom n i until left st os → length os ≤ 65537 * left + 2
  unfolding IsRunFrom
  from_short zero st os h = ends_short (comes_next n until 0 st) os (λ e. ⊥) 2 (omega arith) (λ e none. absurd none) h
  from_short (suc left) st os h =
      ends_short (comes_next n until (suc left) st) os (λ e. Observes n i e.date (source_of n e.source) (taken st e) (IsRunFrom n i until left) os) (65537 * suc left + 2) (omega arith)
      (λ e o. then_short e.date (source_of n e.source) (taken st e) (IsRunFrom n i until left) os (65537 * suc left + 2) (omega arith)
      (λ after more r. let k = from_short left after more r in omega (arith, k)) o.outcome o.is o.goes_on) h

  -- so a run has no more than these, by how many events may fire
  pub run_short : (limit : ℕ) (os : List Obs) → IsRun n i until limit os → length os ≤ 65537 * (limit + 1) + 2
  run_short limit os h =
      then_short 0 Start (first_state n) (IsRest n i until limit) os (65537 * (limit + 1) + 2) (omega arith)
      (λ after more r. let k = from_short (limit - after.fired) after more r in omega (arith, k)) h.outcome h.is h.goes_on
