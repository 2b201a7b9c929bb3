use Rattle.std.proofs.Common.{List, map, take}
use Rattle.sci_goto.specs.Phase.{Giving}
use Rattle.sci_goto.specs.Placed.{standing_of}
use Rattle.sci_goto.specs.Givers.{HoldsGivers, takings, Serve}
use Rattle.sci_goto.proofs.served.servings.Given as goal

abbrev pub invariant-loop-n : goal.invariant-loop-n
invariant-loop-n l =
    (gs : List Giving) → HoldsGivers l.givers (map standing_of l.tags) gs → Serve (map standing_of l.tags) gs (takings (map standing_of (take l.n l.tags))) l.servings.items
