use Rattle.std.proofs.Common.{◌≡◌, drop, ◌++◌, ◌+◌, ◌*◌}
use Rattle.c_ast.specs.View.{statements_of}
use Rattle.c_ast.specs.Events.{block_events}
use Rattle.c_ast.proofs.Sizes.{size_of, sizes_of}
use Rattle.c_rules.proofs.events.+events.Given as goal

abbrev pub invariant-block-loop-s : goal.invariant-block-loop-s
invariant-block-loop-s l = l.list.items ++ block_events (statements_of (drop l.s-index l.statements)) ≡ l.initial.list.items ++ block_events (statements_of l.statements)

abbrev pub decreases-statement : goal.decreases-statement
decreases-statement l = 2 * size_of l.s.now

abbrev pub decreases-block : goal.decreases-block
decreases-block l = 2 * sizes_of l.statements.now + 1
