use Rattle.std.specs.Prelude.{◌≡◌}
use Rattle.sci_graph_table.proofs.walks.show_walk.Given as goal

abbrev pub invariant-loop-each : goal.invariant-loop-each
invariant-loop-each g l = l.walk.count ≡ l.count
