use Rattle.std.proofs.Common.{length}
use Rattle.sci_sim.proofs.Planning.{AreMade}
use Rattle.sci_sim.proofs.rows.rows.Given as goal

abbrev pub invariant-loop-entries : goal.invariant-loop-entries
invariant-loop-entries l = AreMade l.kept.fixed (length l.yielded) l.made.items
