use Rattle.std.proofs.Common.{◌≡◌, ◌+◌, length, vec_len}
use Rattle.sci_loop.specs.Lists.{plain, Adds}
use Rattle.sci_inherit.specs.Followers.{Upto, InputTargets}
use Rattle.sci_inherit.proofs.followers.push_inputs.Given as goal

abbrev pub invariant-loop-at : goal.invariant-loop-at
invariant-loop-at l = record {
  len : vec_len l.targets ≡ length l.net.specs + 1;
  adds : Adds (Upto (InputTargets l.net l.block) l.at) (plain l.initial.targets.items) (plain l.targets.items);
}
