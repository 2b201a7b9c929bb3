use Rattle.sci_graph_table.proofs.Sizes.{sized_empty}
use Rattle.sci_graph_table.proofs.linked.show.Goals as goal

pub loop-word-init : goal.loop-word-init
loop-word-init g c = sized_empty _ _ _ c.in-Ok.ensures.empty
