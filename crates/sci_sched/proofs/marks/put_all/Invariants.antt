use Rattle.std.proofs.Common.{◌≡◌, take, vec_len}
use Rattle.sci_loop.specs.Lists.{plain, Adds}
use Rattle.sci_sched.specs.Marks.{PutOnward}
use Rattle.sci_sched.proofs.marks.put_all.Given as goal

abbrev pub invariant-loop-condition : goal.invariant-loop-condition
invariant-loop-condition l = record {
  len : vec_len l.conditions ≡ vec_len l.initial.conditions;
  adds : Adds (PutOnward (plain l.onward) (take l.condition-index l.blocks)) (plain l.initial.conditions.items) (plain l.conditions.items);
}
