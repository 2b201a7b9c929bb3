use Rattle.sci_graph_table.specs.Sized.{IsSized}
use Rattle.sci_graph_table.proofs.linked.show.Given as goal

abbrev pub invariant-loop-word : goal.invariant-loop-word
invariant-loop-word g l = IsSized l.links l.lists l.nodes
