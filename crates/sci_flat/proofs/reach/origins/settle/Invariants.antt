use Rattle.sci_flat.specs.Origins.{AreSettled, Climb}
use Rattle.sci_flat.proofs.reach.origins.settle.Given as goal

abbrev pub invariant-loop-turn : goal.invariant-loop-turn
invariant-loop-turn l = record {
  settled : AreSettled l.fn.port l.fn.origin l.fn.origins.items l.origins.items;
  climb : Climb l.fn.origins.items l.fn.port l.at;
}
