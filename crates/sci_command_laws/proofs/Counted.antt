-- The sum of what the banks have counted is that of all active blocks.
use Rattle.std.proofs.Common.{◌≡◌, ◌≤◌, ℕ, suc, ◌+◌, ◌*◌, ◌==◌, List, [], ◌∷◌, length, Bool, true, false, if◌then◌else◌, arith}
use Rattle.sci_base.specs.declared.observation.Obs.{Obs}
use Rattle.sci_forms.specs.declared.Kind.{Kind}
use Rattle.sci_forms.specs.declared.spec.Spec.{Spec}
use Rattle.sci_forms.specs.Numbers.{number_of}
use Rattle.sci_net.specs.Parts.{Parts}
use Rattle.sci_net.specs.Net.{IsNet}
use Rattle.sci_reaction.specs.Memory.{Columns}
use Rattle.sci_run.specs.Counts.{activations_from, activations_of_kind, all_activations}
use Rattle.sci_run.specs.Run.{State, first_state, Reachable}
use Rattle.sci_run.specs.Finish.{Ending, Finish, ended, stopped, stopped_at_start}
use Rattle.sci_run.proofs.Ranges.{fired_within, activations_within}
use Rattle.sci_bank.specs.Bank.{Meaning}
use Rattle.sci_bank.specs.Library.{bank_of, IsFull, total_outs}
use Rattle.sci_sim.specs.Steps.{IsFiring, start, event}
use Rattle.sci_sim.proofs.Totals.{together, sum_least, sum_most}
use Rattle.sci_answers.specs.Counts.{CountsStopped}
use Rattle.sci_command_laws.specs.Counted.{AreStoppedWithin, CountsAddUp, StoppedCountsAddUp}

within : (p : Spec → Bool) (b : ℕ) (ss : List Spec) (activations : ℕ → ℕ) → ((c : ℕ) → activations c ≤ 1000001) → activations_from p b ss activations ≤ 1000001 * length ss
within p b [] activations each = omega arith
within p b (s ∷ ss) activations each =
    let rest = within p (b + 1) ss activations each in
    by_test (p s) rest
  where
    by_test : (t : Bool) → activations_from p (b + 1) ss activations ≤ 1000001 * length ss
        → (if t then activations b else 0) + activations_from p (b + 1) ss activations ≤ 1000001 * suc (length ss)
    by_test true rest = let first = each b in omega (arith, first, rest)
    by_test false rest = omega (arith, rest)

-- ---- of a run that is over

module _ (n : Parts) (i : Columns) (until limit : ℕ) (net : IsNet n) (small : limit ≤ 1000000) where
  few_where : (st : State) → ((b : ℕ) → st.activations b ≤ 1000001) → all_activations n st ≤ 18446744073709551615
  few_where st each =
      let few = net.wired.few in
      let most = within (λ s. true) 1 n.specs st.activations each in
      omega (arith, few, most)

  few_at : (st : State) (seen : List Obs) → Reachable n i until limit st seen → all_activations n st ≤ 18446744073709551615
  few_at st seen reachable =
      few_where st
      (λ b. let fired = fired_within n i until limit st seen reachable in
      let active = activations_within n i until limit st seen b reachable in
      omega (arith, small, fired, active))

  few_behind : {st : State} {how : Ending} {os : List Obs} → Finish n i until limit st how os → all_activations n st ≤ 18446744073709551615
  few_behind (ended st word seen reachable next) = few_at st seen reachable
  few_behind (stopped st e block word seen reachable next result) = few_at st seen reachable
  few_behind (stopped_at_start block word result) = few_where (first_state n) (λ b. omega arith)

  total_is : (banks : List Meaning) {st : State} {how : Ending} {os : List Obs} → IsFull banks → Finish n i until limit st how os
      → ((k : Kind) → (bank_of banks k).outs ≡ activations_of_kind n st k) → total_outs banks ≡ all_activations n st
  total_is banks {st} full over counts =
      let least = sum_least n st.activations banks full (λ k. let count = counts k in omega (arith, count)) in
      let most = sum_most n st.activations banks full (λ k. let count = counts k in omega (arith, count)) in
      let few = few_behind over in
      omega (arith, least, most, few)

  few_from : {seen : List Obs} {date source : ℕ} {from : State} → IsFiring n i until limit seen date source from → all_activations n from ≤ 18446744073709551615
  few_from start = few_where (first_state n) (λ b. omega arith)
  few_from (event st e seen reachable next) = few_at st seen reachable

  total_within : (banks : List Meaning) → IsFull banks → (h : CountsStopped n i until limit banks) → AreStoppedWithin n h.source h.from banks
  total_within banks full h = record {
    least = let least = sum_least n h.from.activations banks full (λ k. let count = h.least k in omega (arith, count)) in let few = few_from h.fires in omega (arith, least, few);
    most = λ possible may.
        let one : ℕ → ℕ = λ b. if possible b then 1 else 0 in
        let both = λ (k : Kind). together (λ s. number_of s.kind == number_of k) 1 n.specs h.from.activations one in
        let sum = sum_most n (λ b. h.from.activations b + one b) banks full (λ k. let count = h.most possible may k in let parted = both k in omega (arith, count, parted)) in
        let parted = together (λ s. true) 1 n.specs h.from.activations one in
        omega (arith, sum, parted);
  }

pub stopped_counts_add_up : StoppedCountsAddUp
stopped_counts_add_up n i until limit banks net small full h = total_within n i until limit net small banks full h

pub counts_add_up : CountsAddUp
counts_add_up n i until limit banks net small full h = total_is n i until limit net small banks full h.over h.counts
