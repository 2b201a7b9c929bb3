use Rattle.std.proofs.Common.{◌≡◌, ◌+◌, vec_len}
use Rattle.sci_loop.specs.Lists.{plain}
use Rattle.sci_inherit.specs.Gather.{AreEach, AreOnward}
use Rattle.sci_inherit.proofs.gather.onward.Given as goal

abbrev pub invariant-loop-at : goal.invariant-loop-at
invariant-loop-at l = record {
  count : l.walk.count ≡ l.initial.walk.count;
  len : vec_len l.onward ≡ l.at + 1;
  each : AreEach (AreOnward l.net) (plain l.onward.items);
}
