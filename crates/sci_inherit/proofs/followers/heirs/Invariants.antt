use Rattle.std.proofs.Common.{◌≡◌, ◌+◌, [], length, vec_len, replicate}
use Rattle.sci_loop.specs.Lists.{plain, Adds}
use Rattle.sci_inherit.specs.Followers.{Upto, HeirGiven}
use Rattle.sci_inherit.proofs.followers.heirs.Given as goal

abbrev pub invariant-loop-at : goal.invariant-loop-at
invariant-loop-at l = record {
  len : vec_len l.heirs ≡ length l.net.specs + 1;
  adds : Adds (Upto (HeirGiven l.net) l.at) (replicate (length l.net.specs + 1) []) (plain l.heirs.items);
}
