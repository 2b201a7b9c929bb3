use Rattle.std.proofs.Common.{sym}
use Rattle.sci_graph_table.proofs.linked.remove.Goals as goal

pub remove-requires : goal.remove-requires
remove-requires c = (c.in-Some._list, sym c.in-Some.ensures)
