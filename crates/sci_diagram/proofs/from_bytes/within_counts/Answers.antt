use Rattle.std.proofs.Common.{arith}
use Rattle.sci_diagram.specs.Objects.{diagram_view}
use Rattle.sci_diagram.proofs.Few.{blocks_few, links_few}
use Rattle.sci_diagram.proofs.from_bytes.within_counts.Goals as goal

pub count_blocks-blocks-requires : goal.count_blocks-blocks-requires
count_blocks-blocks-requires c = omega (arith, blocks_few (diagram_view c.args.d), c.requires.few)

pub too_many-requires : goal.too_many-requires
too_many-requires c = omega (arith, blocks_few (diagram_view c.args.d), c.requires.few, c.count_blocks-blocks.ensures)

pub count_links-links-requires : goal.count_links-links-requires
count_links-links-requires c = omega (arith, links_few (diagram_view c.args.d), c.requires.few)

pub too_many-requires-then-links-from : goal.too_many-requires-then-links-from
too_many-requires-then-links-from c = omega (arith, links_few (diagram_view c.args.d), c.requires.few, c.count_links-links.ensures)
