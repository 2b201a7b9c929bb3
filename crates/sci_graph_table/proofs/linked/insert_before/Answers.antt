use Rattle.std.proofs.Common.{sym}
use Rattle.sci_graph_table.proofs.linked.insert_before.Goals as goal

pub insert_before-requires-clause-used : goal.insert_before-requires-clause-used
insert_before-requires-clause-used c = (c.in-Some._list, sym c.in-Some.ensures)
