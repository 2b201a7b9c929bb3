use Rattle.sci_flat.specs.Chain.{AllWithin}
use Rattle.sci_graph_table.proofs.graphs.steps.Given as goal

abbrev pub invariant-loop-each : goal.invariant-loop-each
invariant-loop-each l = AllWithin l.count l.steps.items
