-- What the banks have counted behind a run.
use Rattle.std.proofs.Common.{◌≡◌, ◌≤◌, ◌+◌, ◌*◌, ◌==◌, min, ℕ, suc, List, [], ◌∷◌, length, Bool, true, false, if◌then◌else◌, inl, inr, sym, subst, arith}
use Rattle.sci_base.specs.declared.observation.Obs.{Obs}
use Rattle.sci_forms.specs.declared.Kind.{Kind}
use Rattle.sci_forms.specs.declared.spec.Spec.{Spec}
use Rattle.sci_forms.specs.Numbers.{number_of}
use Rattle.sci_net.specs.Parts.{Parts}
use Rattle.sci_net.specs.Net.{IsNet}
use Rattle.sci_reaction.specs.Memory.{Columns}
use Rattle.sci_run.specs.Counts.{activations_from, activations_of_kind}
use Rattle.sci_run.specs.Run.{State, first_state, Reachable}
use Rattle.sci_run.specs.Finish.{Ending, Finish, ended, stopped, stopped_at_start}
use Rattle.sci_run.proofs.Ranges.{fired_within, activations_within}
use Rattle.sci_bank.specs.Bank.{Meaning}
use Rattle.sci_bank.specs.Library.{bank_of}
use Rattle.sci_store.specs.Store.{active_of}
use Rattle.sci_sim.specs.At.{Running}
use Rattle.sci_sim.specs.Steps.{IsFiring, start, event, IsFinished}
use Rattle.sci_sim.specs.declared.end.RunEnd.{RunEnd}
use Rattle.sci_sim.specs.declared.end.RunEnd.TheVariants.{End as Ended, Stop as Stopped}
use Rattle.sci_answers.specs.Counts.{CountsRun}

-- ---- no run has more activations than a bank can count

one_within : (t : Bool) (x rest l : ℕ) → x ≤ 1000001 → rest ≤ 1000001 * l → (if t then x else 0) + rest ≤ 1000001 * suc l
one_within true x rest l one more = omega (arith, one, more)
one_within false x rest l one more = omega (arith, more)

-- each block is active in at most so many reactions
all_within : (counts : Spec → Bool) (b : ℕ) (ss : List Spec) (activations : ℕ → ℕ) → ((c : ℕ) → activations c ≤ 1000001) → activations_from counts b ss activations ≤ 1000001 * length ss
all_within counts b [] activations each = omega arith
all_within counts b (s ∷ ss) activations each =
    one_within (counts s) (activations b) (activations_from counts (b + 1) ss activations) (length ss) (each b) (all_within counts (b + 1) ss activations each)

kind_within : (n : Parts) (st : State) (k : Kind) → IsNet n → ((b : ℕ) → st.activations b ≤ 1000001) → activations_of_kind n st k ≤ 18446744073709551615
kind_within n st k net each =
    let few = net.wired.few in
    let all : activations_of_kind n st k ≤ 1000001 * length n.specs = all_within (λ s. number_of s.kind == number_of k) 1 n.specs st.activations each in
    omega (arith, few, all)

module _ (n : Parts) (i : Columns) (until limit : ℕ) (net : IsNet n) (small : limit ≤ 1000000) where
  few_at : (st : State) (seen : List Obs) (k : Kind) → Reachable n i until limit st seen → activations_of_kind n st k ≤ 18446744073709551615
  few_at st seen k reachable =
      kind_within n st k net
      (λ b. let fired = fired_within n i until limit st seen reachable in
      let active = activations_within n i until limit st seen b reachable in
      omega (arith, small, fired, active))

  few_behind : {st : State} {how : Ending} {os : List Obs} → (k : Kind) → Finish n i until limit st how os → activations_of_kind n st k ≤ 18446744073709551615
  few_behind k (ended st word seen reachable next) = few_at st seen k reachable
  few_behind k (stopped st e block word seen reachable next result) = few_at st seen k reachable
  few_behind k (stopped_at_start block word result) = kind_within n (first_state n) k net (λ b. omega arith)

  few_before : {seen : List Obs} {date source : ℕ} {from : State} → (k : Kind) → IsFiring n i until limit seen date source from → activations_of_kind n from k ≤ 18446744073709551615
  few_before k start = kind_within n (first_state n) k net (λ b. omega arith)
  few_before k (event st e seen reachable fires) = few_at st seen k reachable

exactly : (outs active : ℕ) → active ≤ 18446744073709551615 → outs ≡ min active 18446744073709551615 → outs ≡ active
exactly outs active few is = omega (arith, few, is)

at_least : (outs active : ℕ) → active ≤ 18446744073709551615 → min active 18446744073709551615 ≤ outs → active ≤ outs
at_least outs active few least = omega (arith, few, least)

at_most : (outs active : ℕ) → outs ≤ min active 18446744073709551615 → outs ≤ active
at_most outs active most = omega (arith, most)

-- ---- behind a run

counts_by : (i : Columns) (until limit : ℕ) (r : Running) (banks : List Meaning) (os : List Obs) (end : RunEnd) → IsNet r.fixed.net → limit ≤ 1000000 → IsFinished i until limit r banks os end
    → CountsRun r.fixed.net i until limit banks
counts_by i until limit r banks os (Ended word) net small h =
    let n = r.fixed.net in
    inl (record {
      last = h.0;
      word = word;
      observed = os;
      over = h.1;
      counts = λ k. exactly (bank_of banks k).outs (activations_of_kind n h.0 k) (few_behind n i until limit net small k h.1) (h.2.shown.counts k);
    })
counts_by i until limit r banks os (Stopped word) net small h =
    let n = r.fixed.net in
    let s = h.4 in
    inr (record {
      before = s.before;
      date = s.date;
      source = s.source;
      from = s.from;
      fires = s.fires;
      block = s.stopped.block;
      word = word;
      stops = s.stopped.stops;
      least = λ k. at_least (bank_of banks k).outs (activations_of_kind n s.from k) (few_before n i until limit net small k s.fires) (s.stopped.counts.least k);
      most = λ possible may k. at_most (bank_of banks k).outs (activations_of_kind n s.from k + active_of n possible k) (s.stopped.counts.most possible may k);
    })

-- the net whose run it is, by another name
pub run_counts : (n : Parts) (i : Columns) (until limit : ℕ) (r : Running) (banks : List Meaning) (os : List Obs) (end : RunEnd) → IsFinished i until limit r banks os end → r.fixed.net ≡ n → IsNet n → limit ≤ 1000000
    → CountsRun n i until limit banks
run_counts n i until limit r banks os end h same net small =
    subst (λ (m : Parts). CountsRun m i until limit banks) same (counts_by i until limit r banks os end (subst IsNet (sym same) net) small h)
