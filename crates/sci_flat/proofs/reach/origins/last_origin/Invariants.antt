use Rattle.std.proofs.Common.{◌<◌, length}
use Rattle.sci_flat.specs.Origins.{Climb}
use Rattle.sci_flat.proofs.reach.origins.last_origin.Given as goal

abbrev pub invariant-loop-turn : goal.invariant-loop-turn
invariant-loop-turn l = record { climb : Climb l.origins l.fn.port l.at; inside : l.at < length l.origins }
