use Rattle.sci_graph_table.proofs.Below.{below_at}
use Rattle.sci_graph_table.proofs.walks.successors.Goals as goal

pub returns : goal.returns
returns c = below_at _ _ c.loop-each.invariant
