use Rattle.std.proofs.Common.{◌≡◌, length, take, map}
use Rattle.sci_base.specs.Lists.{at}
use Rattle.sci_span.proofs.inputs.copy_singles.Given as goal

abbrev pub invariant-loop-k : goal.invariant-loop-k
invariant-loop-k l = record {
  copied : take l.k l.ins ≡ map (at l.values) (take l.k l.places);
  room : length l.ins ≡ length l.initial.ins;
}
