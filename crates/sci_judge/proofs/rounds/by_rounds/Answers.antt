use Rattle.std.proofs.Common.{◌≡◌, ℕ, ◌+◌, ◌<◌, ◌++◌, List, All, length, sym, ap, subst, subst₂, ◌∙◌, ◌==◌, arith, vec_len, Vec, length-append}
use Rattle.std.specs.declared.alloc.Global.{Global}
use Rattle.std.specs.List.Sorted.{IsPermutation}
use Rattle.sci_loop.specs.declared.table.DepTable.{DepTable}
use Rattle.sci_loop.specs.Table.{IsTable}
use Rattle.sci_loop.specs.Lists.{plain}
use Rattle.std.proofs.lemmas.List.Sorted.{IsNonDecreasingBy-from_sort}
use Rattle.sci_rounds.specs.Rounds.{IsBehindRounds}
use Rattle.std.specs.List.{filter}
use Rattle.sci_judge.specs.declared.rounds.BlockRound.{BlockRound}
use Rattle.sci_judge.proofs.Ranking.{in_round, ranked_behind, depths_more, no_rounds}
use Rattle.sci_judge.specs.Rounds.{ranked, IsStage, IsStageOf, AreWaiting, count_at}
use Rattle.sci_judge.proofs.Rounding.{AreInRounds, first_stage, sorted_stage, next_behind, rounds_more, all_rounds, fewer_left, written_back, some_there, none_there, stage_few, ready_depth}
use Rattle.sci_reaction.specs.Depends.{HasDepth}
use Rattle.sci_judge.proofs.rounds.by_rounds.Goals as goal

pub waiting-requires-clause-below : goal.waiting-requires-clause-below
waiting-requires-clause-below c =
    subst (λ m. All (λ b. b < m) c.args.table.now.members.items) (ap (λ m. m + 1) (sym c.len.ensures))
    c.requires.below

pub open_counts-requires-clause-below : goal.open_counts-requires-clause-below
open_counts-requires-clause-below c =
    subst (λ m. All (λ b. b < m) c.args.table.now.members.items) (ap (λ m. m + 1) (sym c.len.ensures))
    c.requires.below

pub first_round-requires : goal.first_round-requires
first_round-requires c =
    let below : All (λ b. b < length c.deref-2.result.now) c.args.table.now.members.items =
    subst (λ m. All (λ b. b < m) c.args.table.now.members.items)
    (ap (λ m. m + 1) (sym c.len.ensures) ∙ sym c.in_ok-counts.ensures.len ∙ sym c.deref-2.ensures.len)
    c.requires.below in
    subst (All (λ b. b < length c.deref-2.result.now)) (sym c.deref.ensures.value) below

pub loop-alloc-init : goal.loop-alloc-init
loop-alloc-init c =
    let n = c.args.net.now in
    let t = c.args.table.now in
    let counts = c.in_ok-counts.counts.items in
    record {
      long = c.in_ok-counts.ensures.len;
      stage = subst (λ (ds : List BlockRound). IsStage t (ranked ds) c.in_ok-ready.ready.items counts) (sym c.new-done.ensures.items)
          (first_stage t c.requires.table counts c.in_ok-ready.ready.items c.in_ok-counts.ensures.counts
          (subst₂ (λ (xs ms : List ℕ). c.in_ok-ready.ready.items ≡ filter (λ b. count_at xs b == 0) ms) c.deref-2.ensures.value c.deref.ensures.value c.in_ok-ready.ensures));
      rounds = λ s of free. no_rounds n s _ c.new-done.ensures.items;
      few = omega arith;
    }

-- fewer rounds than blocks
pub overflow_add-depth : goal.overflow_add-depth
overflow_add-depth c =
    let few = stage_few c.args.table.now c.requires.table (ranked c.loop-alloc.done.items) c.loop-alloc.ready.items c.loop-alloc.counts.items c.loop-alloc.invariant.stage in
    let both = length-append (ranked c.loop-alloc.done.items) c.loop-alloc.ready.items in
    let some = some_there c.is_empty.result (vec_len c.loop-alloc.ready) c.is_empty.ensures c.loop-alloc-test.true in
    omega (arith, few, both, some, c.loop-alloc.ready.ok.0, c.loop-alloc.invariant.few, c.args.table.now.members.ok.0)

-- the stage that a round begins with
begins : (t : DepTable) (ok : IsTable t) (done ready sorted round counts slice : List ℕ) (lists seen : List (Vec ℕ Global)) (count : ℕ) → seen ≡ lists → round ≡ sorted → slice ≡ counts
    → length slice ≡ count → All (λ b. b < count) t.members.items → AreWaiting t count (plain lists) → IsPermutation ready sorted → IsStage t done ready counts
    → IsStageOf t (plain seen) done round slice
begins t ok done ready sorted round counts slice lists seen count same_lists same_round same_counts long below waits moved stage = record {
  table = ok;
  below = subst (λ m. All (λ b. b < m) t.members.items) (sym long) below;
  waiting = subst₂ (λ m (ls : List (Vec ℕ Global)). AreWaiting t m (plain ls)) (sym long) (sym same_lists) waits;
  stage = subst₂ (λ (rs xs : List ℕ). IsStage t done rs xs) (sym same_round) (sym same_counts) (sorted_stage t ok done ready sorted counts moved stage);
}

pub round-requires : goal.round-requires
round-requires c =
    let t = c.args.table.now in
    let below : All (λ b. b < c.len.result + 1) t.members.items =
    subst (λ m. All (λ b. b < m) t.members.items) (ap (λ m. m + 1) (sym c.len.ensures)) c.requires.below in (
      t,
      begins t c.requires.table (ranked c.loop-alloc.done.items) c.loop-alloc.ready.items c.sort_unstable.new.self.items _ c.loop-alloc.counts.items _ _ _ (c.len.result + 1)
          c.deref-in-loop-alloc.ensures.value c.deref-in-loop-alloc-2.ensures.value c.deref_mut.ensures.value (c.deref_mut.ensures.len ∙ c.loop-alloc.invariant.long) below c.in_ok-waiting.ensures
          c.sort_unstable.ensures.permutation c.loop-alloc.invariant.stage,
    )

pub loop-alloc-smaller : goal.loop-alloc-smaller
loop-alloc-smaller c =
    let done = ranked c.loop-alloc.done.items in
    let sorted = c.sort_unstable.new.self.items in
    let some = some_there c.is_empty.result (vec_len c.loop-alloc.ready) c.is_empty.ensures c.loop-alloc-test.true in
    let same = c.sort_unstable.ensures.len in
    let t = c.args.table.now in
    let below : All (λ b. b < c.len.result + 1) t.members.items =
    subst (λ m. All (λ b. b < m) t.members.items) (ap (λ m. m + 1) (sym c.len.ensures)) c.requires.below in
    fewer_left t c.requires.table done sorted c.in_ok-ready-2.ready.items (ranked c.round.new.done.items) c.round.new.counts
    (omega (arith, some, same, c.sort_unstable.new.self.ok.0)) (ranked_behind c.loop-alloc.done.items c.round.new.done.items (c.loop-alloc.depth + 1) c.deref-in-loop-alloc-2.result.now sorted c.in_ok-ready-2.ensures.done c.deref-in-loop-alloc-2.ensures.value)
    (c.in_ok-ready-2.ensures.stage t (begins t c.requires.table done c.loop-alloc.ready.items sorted _ c.loop-alloc.counts.items _ _ _ (c.len.result + 1) c.deref-in-loop-alloc.ensures.value
    c.deref-in-loop-alloc-2.ensures.value c.deref_mut.ensures.value (c.deref_mut.ensures.len ∙ c.loop-alloc.invariant.long) below c.in_ok-waiting.ensures c.sort_unstable.ensures.permutation
    c.loop-alloc.invariant.stage))

pub loop-alloc-preserved : goal.loop-alloc-preserved
loop-alloc-preserved c =
    let n = c.args.net.now in
    let t = c.args.table.now in
    let done = ranked c.loop-alloc.done.items in
    let sorted = c.sort_unstable.new.self.items in
    let stage = sorted_stage t c.requires.table done c.loop-alloc.ready.items sorted c.loop-alloc.counts.items c.sort_unstable.ensures.permutation c.loop-alloc.invariant.stage in
    let below : All (λ b. b < c.len.result + 1) t.members.items =
    subst (λ m. All (λ b. b < m) t.members.items) (ap (λ m. m + 1) (sym c.len.ensures)) c.requires.below in
    let more = ranked_behind c.loop-alloc.done.items c.round.new.done.items (c.loop-alloc.depth + 1) c.deref-in-loop-alloc-2.result.now sorted c.in_ok-ready-2.ensures.done c.deref-in-loop-alloc-2.ensures.value in
    let some = some_there c.is_empty.result (vec_len c.loop-alloc.ready) c.is_empty.ensures c.loop-alloc-test.true in
    let same = c.sort_unstable.ensures.len in
    let long : length (ranked c.round.new.done.items) ≡ length done + length sorted = ap length more ∙ length-append done sorted in
    record {
      long = c.loop-alloc.invariant.long;
      stage = subst (λ (xs : List ℕ). IsStage t (ranked c.round.new.done.items) c.in_ok-ready-2.ready.items xs)
          (sym (written_back c.loop-alloc.counts.len c.round.new.counts c.loop-alloc.counts.items (c.round.auto.counts ∙ ap length c.deref_mut.ensures.value) c.loop-alloc.counts.ok.0))
          (c.in_ok-ready-2.ensures.stage t (begins t c.requires.table done c.loop-alloc.ready.items sorted _ c.loop-alloc.counts.items _ _ _ (c.len.result + 1) c.deref-in-loop-alloc.ensures.value
          c.deref-in-loop-alloc-2.ensures.value c.deref_mut.ensures.value (c.deref_mut.ensures.len ∙ c.loop-alloc.invariant.long) below c.in_ok-waiting.ensures c.sort_unstable.ensures.permutation
          c.loop-alloc.invariant.stage));
      rounds = λ s of free. let before = c.loop-alloc.invariant.rounds s of free in record {
        behind = subst (IsBehindRounds n s (c.loop-alloc.depth + 1)) (sym more) (next_behind n s t of done sorted c.loop-alloc.counts.items stage c.loop-alloc.depth before.behind);
        rounds = subst (AreInRounds n s) (sym more)
            (rounds_more n s t of done sorted c.loop-alloc.counts.items stage c.loop-alloc.depth before.behind (IsNonDecreasingBy-from_sort (λ x. x) sorted c.sort_unstable.ensures.sorted) before.rounds);
        depths = subst (λ (rs : List BlockRound). All (λ (r : BlockRound). HasDepth n s r.block r.depth) rs)
            (sym (c.in_ok-ready-2.ensures.done ∙ ap (λ (xs : List ℕ). c.loop-alloc.done.items ++ in_round (c.loop-alloc.depth + 1) xs) c.deref-in-loop-alloc-2.ensures.value))
            (depths_more n s c.loop-alloc.done.items (c.loop-alloc.depth + 1) sorted before.depths
            (λ b h. ready_depth n s t of done sorted c.loop-alloc.counts.items stage free c.loop-alloc.depth before.behind b h));
      };
      few = omega (arith, long, some, same, c.sort_unstable.new.self.ok.0, c.loop-alloc.invariant.few);
    }

pub returns-clause-rounds : goal.returns-clause-rounds
returns-clause-rounds c =
    let none = none_there c.is_empty.result (vec_len c.loop-alloc.ready) c.is_empty.ensures c.loop-alloc-test.false in
    λ s of free. all_rounds c.args.net.now s c.args.table.now (ranked c.loop-alloc.done.items) c.loop-alloc.ready.items c.loop-alloc.counts.items of free
    c.loop-alloc.invariant.stage (omega (arith, none, c.loop-alloc.ready.ok.0)) (c.loop-alloc.invariant.rounds s of free).rounds

pub returns-clause-depths : goal.returns-clause-depths
returns-clause-depths c = λ s of free. (c.loop-alloc.invariant.rounds s of free).depths
