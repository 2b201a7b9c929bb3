use Rattle.std.proofs.Common.{◌≡◌, ◌+◌, length, vec_len}
use Rattle.sci_loop.specs.Lists.{plain, Adds}
use Rattle.sci_inherit.specs.Followers.{Upto, InputGives}
use Rattle.sci_inherit.proofs.followers.push_to_sources.Given as goal

abbrev pub invariant-loop-at : goal.invariant-loop-at
invariant-loop-at l = record {
  len : vec_len l.heirs ≡ length l.net.specs + 1;
  adds : Adds (Upto (InputGives l.net l.block) l.at) (plain l.initial.heirs.items) (plain l.heirs.items);
}
