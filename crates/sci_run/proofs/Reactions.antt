-- What is observed has a header for each reaction.
use Rattle.std.proofs.Common.{◌≡◌, ℕ, ◌+◌, Bool, true, false, pos, ℤ, List, [], ◌∷◌, ◌++◌, take, drop, if◌then◌else◌, refl, ap, ◌∙◌, arith}
use Rattle.sci_base.specs.declared.observation.Obs.{Obs}
use Rattle.sci_base.specs.declared.observation.Obs.TheVariants.{Stop}
use Rattle.sci_base.specs.declared.observation.StopWord.{StopWord}
use Rattle.sci_forms.specs.declared.ports.Port.{Port as Signal}
use Rattle.sci_forms.specs.declared.spec.Spec.{Spec}
use Rattle.sci_forms.specs.Ports.{elements}
use Rattle.sci_net.specs.declared.Source.{Source}
use Rattle.sci_net.specs.declared.Source.TheVariants.{Start, Port}
use Rattle.sci_net.specs.Parts.{Parts}
use Rattle.sci_net.specs.Sources.{source_of}
use Rattle.sci_reaction.specs.Memory.{Columns}
use Rattle.sci_reaction.specs.Equations.{Signals}
use Rattle.sci_run.specs.Activity.{Activity}
use Rattle.sci_run.specs.Observed.{header, elements_seen, outputs_seen, blocks_seen, values_seen, stop_seen, is_header, reactions}
use Rattle.sci_run.specs.Run.{State, first_state, taken, Reacts, ReachableFrom, here, reacted, Reachable}

pub reactions_joined : (xs ys : List Obs) → reactions (xs ++ ys) ≡ reactions xs + reactions ys
reactions_joined [] ys = omega arith
reactions_joined (o ∷ os) ys = one (is_header o) (reactions_joined os ys)
  where
    one : (t : Bool) → reactions (os ++ ys) ≡ reactions os + reactions ys
        → (if t then reactions (os ++ ys) + 1 else reactions (os ++ ys)) ≡ (if t then reactions os + 1 else reactions os) + reactions ys
    one true h = omega (arith, h)
    one false h = h

both_none : (xs ys : List Obs) → reactions xs ≡ 0 → reactions ys ≡ 0 → reactions (xs ++ ys) ≡ 0
both_none xs ys h g = let j = reactions_joined xs ys in omega (arith, j, h, g)

no_element : (b p e : ℕ) (vs : List ℤ) → reactions (elements_seen b p e vs) ≡ 0
no_element b p e [] = refl
no_element b p e (v ∷ vs) = no_element b p (e + 1) vs

no_output : (b p : ℕ) (os : List Signal) (vs : List ℤ) → reactions (outputs_seen b p os vs) ≡ 0
no_output b p [] vs = refl
no_output b p (o ∷ os) vs = both_none (elements_seen b p 1 (take (elements o) vs)) _ (no_element b p 1 (take (elements o) vs)) (no_output b (p + 1) os (drop (elements o) vs))

where_active : (t : Bool) (xs : List Obs) → reactions xs ≡ 0 → reactions (if t then xs else []) ≡ 0
where_active true xs h = h
where_active false xs h = refl

no_block : (b : ℕ) (ss : List Spec) (y : Signals) (active : Activity) → reactions (blocks_seen b ss y active) ≡ 0
no_block b [] y active = refl
no_block b (s ∷ ss) y active =
    both_none (if active b then outputs_seen b 1 s.outs (y b) else []) _ (where_active (active b) (outputs_seen b 1 s.outs (y b)) (no_output b 1 s.outs (y b)))
    (no_block (b + 1) ss y active)

headed : (date : ℕ) (s : Source) (os : List Obs) → reactions os ≡ 0 → reactions (header date s ∷ os) ≡ 1
headed date Start os h = omega (arith, h)
headed date (Port q) os h = omega (arith, h)

values_counted : (n : Parts) (date : ℕ) (s : Source) (y : Signals) (active : Activity) → reactions (values_seen n date s y active) ≡ 1
values_counted n date s y active = headed date s (blocks_seen 1 n.specs y active) (no_block 1 n.specs y active)

pub stop_counted : (date : ℕ) (s : Source) (b : ℕ) (word : StopWord) → reactions (stop_seen date s b word) ≡ 1
stop_counted date s b word = headed date s (Stop word (pos b) (pos 0) ∷ []) refl

module _ (n : Parts) (i : Columns) (until limit : ℕ) where
  reacts_counted : (date : ℕ) (s : Source) (st after : State) (seen : List Obs) → Reacts n i date s st after seen → reactions seen ≡ 1
  reacts_counted date s st after seen h = ap reactions h.observed ∙ values_counted n date s h.values h.active

  later_counted : (from : State) {st : State} {seen : List Obs} → ReachableFrom n i until limit from st seen → st.fired ≡ from.fired + reactions seen
  later_counted from here = omega arith
  later_counted from (reacted st after e seen more before fires h) =
      let so_far = later_counted from before in
      let one = reacts_counted e.date (source_of n e.source) (taken st e) after more h in
      let fired : after.fired ≡ st.fired + 1 = ap (λ (a : State). a.fired) h.leads in
      let joined = reactions_joined seen more in
      omega (arith, so_far, one, fired, joined)

  pub counted : (st : State) (seen : List Obs) → Reachable n i until limit st seen → reactions seen ≡ st.fired + 1
  counted st seen stands =
      let one = reacts_counted 0 Start (first_state n) stands.first stands.at_start stands.started in
      let fired : stands.first.fired ≡ 0 = ap (λ (a : State). a.fired) stands.started.leads in
      let later = later_counted stands.first stands.reaches in
      let joined = ap reactions stands.observed ∙ reactions_joined stands.at_start stands.later in
      omega (arith, one, fired, later, joined)
