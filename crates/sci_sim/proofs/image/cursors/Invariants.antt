use Rattle.std.proofs.Common.{◌≡◌, take}
use Rattle.sci_sim.proofs.image.cursors.Given as goal

abbrev pub invariant-loop-cursor : goal.invariant-loop-cursor
invariant-loop-cursor l = l.cursors.items ≡ take l.cursor-index l.taken
