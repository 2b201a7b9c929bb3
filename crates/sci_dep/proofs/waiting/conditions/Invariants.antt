use Rattle.std.proofs.Common.{◌≡◌, ◌+◌, [], length, vec_len, replicate}
use Rattle.sci_loop.specs.Lists.{plain, Adds}
use Rattle.sci_dep.specs.Building.{PutUpto}
use Rattle.sci_dep.proofs.waiting.conditions.Given as goal

abbrev pub invariant-loop-at : goal.invariant-loop-at
invariant-loop-at l = record {
  len : vec_len l.lists ≡ length l.net.specs + 1;
  adds : Adds (PutUpto l.net l.at) (replicate (length l.net.specs + 1) []) (plain l.lists.items);
}
