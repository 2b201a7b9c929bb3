use Rattle.std.proofs.Common.{drop, ◌+◌, ◌*◌}
use Rattle.c_ast.specs.View.{statements_of}
use Rattle.c_ast.specs.Spelling.{block_rows}
use Rattle.c_ast.proofs.Sizes.{size_of, sizes_of}
use Rattle.c_print.proofs.Steps.{Towards}
use Rattle.c_print.proofs.printer.Printer.+print.Given as goal

abbrev pub invariant-block-loop-s : goal.invariant-block-loop-s
invariant-block-loop-s g l =
    Towards g.S.Sink.state l.fn.self.out l.fn.self.failed l.self.out l.self.failed
    (block_rows l.fn.depth (statements_of l.list)) (block_rows l.fn.depth (statements_of (drop l.s-index l.list)))

abbrev pub decreases-statement : goal.decreases-statement
decreases-statement g l = 3 * size_of l.s.now

abbrev pub decreases-block : goal.decreases-block
decreases-block g l = 3 * sizes_of l.list.now + 1

abbrev pub decreases-otherwise : goal.decreases-otherwise
decreases-otherwise g l = 3 * sizes_of l.list.now + 2
