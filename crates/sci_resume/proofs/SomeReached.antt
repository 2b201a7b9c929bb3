-- A run is saved behind each of its reactions but the last.
use Rattle.std.proofs.Common.{◌≡◌, ℕ, ◌+◌, ◌<◌, ◌≤◌, ⊎_elim, inl, inr, List, [], ◌∷◌, ◌++◌, refl, ap, arith}
use Rattle.std.proofs.lemmas.Bool.{cases_lt}
use Rattle.sci_base.specs.declared.observation.Obs.{Obs}
use Rattle.sci_base.specs.declared.observation.Obs.TheVariants.{End}
use Rattle.sci_net.specs.Parts.{Parts}
use Rattle.sci_net.specs.Sources.{source_of}
use Rattle.sci_reaction.specs.Memory.{Columns}
use Rattle.sci_net.specs.declared.Source.TheVariants.{Start}
use Rattle.sci_run.specs.Finish.{Ending, Finish, ended, stopped, stopped_at_start}
use Rattle.sci_run.specs.Observed.{reactions, stop_seen}
use Rattle.sci_run.specs.Run.{State, ReachableFrom, here, reacted, Reachable}
use Rattle.sci_run.proofs.Reactions.{reactions_joined, stop_counted, counted}
use Rattle.sci_run.proofs.Finish.{run_is_over}
use Rattle.sci_run.proofs.Traces.{some_trace}
use Rattle.sci_save.proofs.Reached.{reached_is_saved}
use Rattle.sci_resume.specs.Laws.{SomeReached}

-- the run stands behind its k-th reaction
record StandsThere (n : Parts) (i : Columns) (until limit k : ℕ) : Type 0 where
  state : State
  seen : List Obs
  reachable : Reachable n i until limit state seen
  counted : reactions seen ≡ k

module _ (n : Parts) (i : Columns) (until limit k : ℕ) where
  -- of a state that is reached, each reaction before it had one
  on_the_way : (first : State) (at_start : List Obs) → ((st : State) (later : List Obs) → ReachableFrom n i until limit first st later → Reachable n i until limit st (at_start ++ later))
      → {st : State} → {later : List Obs} → ReachableFrom n i until limit first st later → 1 ≤ k → k ≤ reactions (at_start ++ later) → reactions at_start ≡ 1 → StandsThere n i until limit k
  on_the_way first at_start whole here some few one =
      let joined = reactions_joined at_start [] in
      record { state = first; seen = at_start ++ []; reachable = whole first [] here; counted = omega (arith, joined, some, few, one) }
  on_the_way first at_start whole (reacted st after e seen more before fires h) some few one =
      let stands = whole after (seen ++ more) (reacted st after e seen more before fires h) in
      let so_far = counted n i until limit st (at_start ++ seen) (whole st seen before) in
      let all = counted n i until limit after (at_start ++ (seen ++ more)) stands in
      let fired : after.fired ≡ st.fired + 1 = ap (λ (a : State). a.fired) h.leads in
      ⊎_elim
      (λ less. on_the_way first at_start whole before some (omega (arith, less, so_far, all, fired)) one)
      (λ same. record { state = after; seen = at_start ++ (seen ++ more); reachable = stands; counted = omega (arith, same, few) })
      (cases_lt k (reactions (at_start ++ (seen ++ more))))

  behind : (st : State) (seen : List Obs) → Reachable n i until limit st seen → 1 ≤ k → k ≤ reactions seen → StandsThere n i until limit k
  behind st seen stands some few =
      let first : Reachable n i until limit stands.first (stands.at_start ++ []) = record { first = stands.first; at_start = stands.at_start; later = []; started = stands.started; reaches = here; observed = refl } in
      let fired : stands.first.fired ≡ 0 = ap (λ (a : State). a.fired) stands.started.leads in
      let one = counted n i until limit stands.first (stands.at_start ++ []) first in
      let joined = reactions_joined stands.at_start [] in
      let seen_is = ap reactions stands.observed in
      on_the_way stands.first stands.at_start
      (λ st later reaches. record { first = stands.first; at_start = stands.at_start; later = later; started = stands.started; reaches = reaches; observed = refl })
      stands.reaches some (omega (arith, few, seen_is)) (omega (arith, one, joined, fired))

  finished : {st : State} → {how : Ending} → {os : List Obs} → Finish n i until limit st how os → 1 ≤ k → k < reactions os → StandsThere n i until limit k
  finished (ended st word seen stands is) some more =
      let joined = reactions_joined seen (End word ∷ []) in
      behind st seen stands some (omega (arith, joined, more))
  finished (stopped st e block word seen stands fires h) some more =
      let joined = reactions_joined seen (stop_seen e.date (source_of n e.source) block word) in
      let one = stop_counted e.date (source_of n e.source) block word in
      behind st seen stands some (omega (arith, joined, one, more))
  finished (stopped_at_start block word h) some more = let one = stop_counted 0 Start block word in absurd (omega (arith, one, some, more))

pub some_reached : SomeReached
some_reached n i until limit k net free columns early few some =
    let run = some_trace n i net free until limit in
    ⊎_elim
    (λ more.
    let over = (run_is_over n i until limit run.0).0 run.1 in
    let there = finished n i until limit k over.2 some more in
    let saved = reached_is_saved n i until limit there.state there.seen net free columns early few there.reachable in
    inl (saved.0, record { observed = run.0; run = run.1; more = more; state = there.state; seen = there.seen; reachable = there.reachable; counted = there.counted; saved = saved.1 }))
    (λ all. inr (reactions run.0, record { observed = run.0; run = run.1; few = all; counted = refl }))
    (cases_lt k (reactions run.0))
