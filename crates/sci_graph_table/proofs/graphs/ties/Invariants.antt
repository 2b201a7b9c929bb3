use Rattle.std.specs.Prelude.{All}
use Rattle.sci_infer.specs.Classes.{IsWithin}
use Rattle.sci_graph_table.proofs.graphs.ties.Given as goal

abbrev pub invariant-loop-each : goal.invariant-loop-each
invariant-loop-each l = All (IsWithin l.count) l.ties.items
