use Rattle.std.proofs.Common.{◌≡◌, take, vec_len}
use Rattle.sci_loop.specs.Lists.{plain, Adds}
use Rattle.sci_sched.specs.Marks.{IsPutTo}
use Rattle.sci_sched.proofs.marks.put.Given as goal

abbrev pub invariant-loop-block : goal.invariant-loop-block
invariant-loop-block l = record {
  len : vec_len l.conditions ≡ vec_len l.initial.conditions;
  adds : Adds (IsPutTo (take l.block-index l.reached) l.condition) (plain l.initial.conditions.items) (plain l.conditions.items);
}
