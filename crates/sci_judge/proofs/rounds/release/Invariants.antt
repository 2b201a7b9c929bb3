use Rattle.std.proofs.Common.{◌≡◌, ◌++◌, ◌==◌, take}
use Rattle.std.specs.List.{filter}
use Rattle.sci_judge.specs.Rounds.{count_at, IsReleased}
use Rattle.sci_judge.proofs.rounds.release.Given as goal

abbrev pub invariant-loop-block : goal.invariant-loop-block
invariant-loop-block l = record {
  counts : IsReleased (take l.block-index l.waiting) l.initial.counts l.counts;
  ready : l.ready.items ≡ l.initial.ready.items ++ filter (λ b. count_at l.initial.counts b == 1) (take l.block-index l.waiting);
}
