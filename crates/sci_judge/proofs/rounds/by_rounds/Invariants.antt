use Rattle.std.proofs.Common.{◌≡◌, ◌-◌, ◌≤◌, length, vec_len}
use Rattle.sci_net.specs.declared.Source.{Source}
use Rattle.sci_reaction.specs.Depends.{IsLoopFree}
use Rattle.sci_dep.specs.Tables.{IsTableOf}
use Rattle.sci_judge.specs.Rounds.{ranked, IsStage}
use Rattle.sci_judge.proofs.Ranking.{AreRoundsTo}
use Rattle.sci_judge.proofs.rounds.by_rounds.Given as goal

abbrev pub invariant-loop-alloc : goal.invariant-loop-alloc
invariant-loop-alloc l = record {
  long : vec_len l.counts ≡ l.count;
  stage : IsStage l.table (ranked l.done.items) l.ready.items l.counts.items;
  rounds : (s : Source) → IsTableOf l.net s l.table → IsLoopFree l.net s → AreRoundsTo l.net s l.depth l.done.items;
  few : l.depth ≤ length (ranked l.done.items);
}

abbrev pub decreases-loop-alloc : goal.decreases-loop-alloc
decreases-loop-alloc l = length l.table.members.items - length (ranked l.done.items)
