use Rattle.std.specs.Prelude.{◌<◌, All}
use Rattle.sci_graph_table.proofs.graphs.numbers.Given as goal

abbrev pub invariant-loop-each : goal.invariant-loop-each
invariant-loop-each l = All (λ n. n < l.count) l.numbers.items
