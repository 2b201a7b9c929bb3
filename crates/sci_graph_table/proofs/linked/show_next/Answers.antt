use Rattle.std.proofs.Common.{sym}
use Rattle.sci_graph_table.proofs.linked.show_next.Goals as goal

pub next-next-requires : goal.next-next-requires
next-next-requires g c = (c.in-Some._list, sym c.in-Some.ensures)
