-- What an answer says of a tree.
use Rattle.std.specs.Prelude.{Result, Ok, Err}
use Rattle.sci_diagram.specs.Objects.{Objects}
use Rattle.sci_net.specs.Parts.{Parts}
use Rattle.sci_base.specs.declared.stop.Stop.{Stop}
use Rattle.sci_base.specs.Stops.{StopsBy}
use Rattle.sci_flat.specs.Flat.{IsFlatNet}
use Rattle.sci_flat.specs.Refused.{Breaks}

-- the flat net of the tree, or the first rule that it breaks; want of memory may come at any time
abbrev pub IsFlattened : Objects → Result Parts Stop → Type 0
IsFlattened t (Ok n) = IsFlatNet t n
IsFlattened t (Err e) = StopsBy (Breaks t) e
