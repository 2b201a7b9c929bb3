use Rattle.std.specs.Prelude.{◌<◌, All}
use Rattle.sci_graph_table.proofs.walks.successors.Given as goal

abbrev pub invariant-loop-each : goal.invariant-loop-each
invariant-loop-each l = All (λ v. All (λ q. q < l.count) v.items) l.lists.items
