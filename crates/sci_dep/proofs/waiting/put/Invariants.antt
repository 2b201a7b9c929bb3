use Rattle.std.proofs.Common.{◌≡◌, take, vec_len}
use Rattle.sci_loop.specs.Lists.{plain, Adds}
use Rattle.sci_dep.specs.Building.{IsPutTo}
use Rattle.sci_dep.proofs.waiting.put.Given as goal

abbrev pub invariant-loop-block : goal.invariant-loop-block
invariant-loop-block l = record {
  len : vec_len l.lists ≡ vec_len l.initial.lists;
  adds : Adds (IsPutTo (take l.block-index l.reached) l.condition) (plain l.initial.lists.items) (plain l.lists.items);
}
