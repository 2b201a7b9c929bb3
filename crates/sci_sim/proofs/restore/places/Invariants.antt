use Rattle.std.proofs.Common.{◌≡◌, take}
use Rattle.sci_sim.proofs.restore.places.Given as goal

abbrev pub invariant-loop-cursor : goal.invariant-loop-cursor
invariant-loop-cursor l = l.places.items ≡ take l.cursor-index l.cursors
