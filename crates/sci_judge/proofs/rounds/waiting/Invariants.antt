use Rattle.std.proofs.Common.{◌≡◌, vec_len}
use Rattle.sci_loop.specs.Lists.{plain}
use Rattle.sci_judge.proofs.Waiting.{AreWaitingTo}
use Rattle.sci_judge.proofs.rounds.waiting.Given as goal

abbrev pub invariant-loop-at : goal.invariant-loop-at
invariant-loop-at l = record {
  len : vec_len l.lists ≡ l.count;
  lists : AreWaitingTo l.table l.at l.count (plain l.lists.items);
}
