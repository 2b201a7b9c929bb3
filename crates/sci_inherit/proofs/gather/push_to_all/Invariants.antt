use Rattle.std.proofs.Common.{◌≡◌, take, vec_len}
use Rattle.std.specs.Prelude.{Contains}
use Rattle.sci_loop.specs.Lists.{plain}
use Rattle.sci_inherit.specs.Gather.{Pushes}
use Rattle.sci_inherit.proofs.gather.push_to_all.Given as goal

abbrev pub invariant-loop-block : goal.invariant-loop-block
invariant-loop-block l = record {
  len : vec_len l.lists ≡ vec_len l.initial.lists;
  pushes : Pushes (Contains (take l.block-index l.blocks)) l.feed (plain l.initial.lists.items) (plain l.lists.items);
}
