use Rattle.std.proofs.Common.{map, take}
use Rattle.sci_goto.specs.Phase.{no_tags, gathered}
use Rattle.sci_goto.specs.Placed.{standing_of}
use Rattle.sci_goto.specs.Givers.{IsJoined}
use Rattle.sci_goto.proofs.givers.Givers.of.Given as goal

abbrev pub invariant-loop-n : goal.invariant-loop-n
invariant-loop-n l = IsJoined l.givers (map standing_of (take l.n l.tags)) (gathered no_tags (map standing_of (take l.n l.tags)))
