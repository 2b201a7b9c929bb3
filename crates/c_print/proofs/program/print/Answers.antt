use Rattle.std.proofs.Common.{sym}
use Rattle.c_print.proofs.Steps.{written, broken}
use Rattle.c_print.proofs.program.print.Goals as goal

pub returns-then-printer : goal.returns-then-printer
returns-then-printer g c =
    let last = c.out-1.given.1 (sym c.program.ensures.same) in
    rw last (broken (record {}) (rw c.if-printer.true at c.program.ensures))

pub returns-else-printer : goal.returns-else-printer
returns-else-printer g c =
    let last = c.out-1.given.1 (sym c.program.ensures.same) in
    rw last (written tt (rw c.if-printer.false at c.program.ensures))
