use Rattle.std.proofs.Common.{arith}
use Rattle.sci_diagram.specs.Objects.{diagram_view}
use Rattle.sci_flat.proofs.Reading.{ready_of}
use Rattle.sci_diagram_table.proofs.drawn.flat_of.Goals as goal

pub flatten-requires : goal.flatten-requires
flatten-requires c = ready_of _ (diagram_view c.in-Ok.diagram) c.in-Ok.ensures (omega (arith, c.requires))
