use Rattle.std.proofs.Common.{◌≡◌, ◌+◌, [], length, vec_len, replicate}
use Rattle.sci_loop.specs.Lists.{plain, Adds}
use Rattle.sci_inherit.specs.Followers.{Upto, TargetGiven}
use Rattle.sci_inherit.proofs.followers.targets.Given as goal

abbrev pub invariant-loop-at : goal.invariant-loop-at
invariant-loop-at l = record {
  len : vec_len l.targets ≡ length l.net.specs + 1;
  adds : Adds (Upto (TargetGiven l.net) l.at) (replicate (length l.net.specs + 1) []) (plain l.targets.items);
}
