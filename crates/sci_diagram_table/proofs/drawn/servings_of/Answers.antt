use Rattle.std.proofs.Common.{arith}
use Rattle.sci_diagram.specs.Objects.{diagram_view}
use Rattle.sci_blocks.proofs.Lawful.{read_law}
use Rattle.sci_diagram_table.proofs.drawn.servings_of.Goals as goal

pub serve-requires : goal.serve-requires
serve-requires c = record { short = read_law c.args.bytes.now (diagram_view c.in-Ok.diagram) (omega (arith, c.requires)) c.in-Ok.ensures }
