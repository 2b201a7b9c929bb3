use Rattle.std.proofs.Common.{◌≡◌, ◌++◌, take, drop}
use Rattle.sci_loop.specs.declared.table.DepTable.{DepTable}
use Rattle.sci_loop.specs.Lists.{plain}
use Rattle.sci_judge.specs.Rounds.{ranked, IsStage, IsStageOf}
use Rattle.sci_judge.proofs.Ranking.{in_round}
use Rattle.sci_judge.proofs.rounds.round.Given as goal

abbrev pub invariant-loop-block : goal.invariant-loop-block
invariant-loop-block l = record {
  done : l.done.items ≡ l.initial.done.items ++ in_round l.depth (take l.block-index l.round);
  stage : (t : DepTable) → IsStageOf t (plain l.waiting) (ranked l.initial.done.items) l.round l.initial.counts
      → IsStage t (ranked l.done.items) (drop l.block-index l.round ++ l.next.items) l.counts;
}
