use Rattle.std.proofs.Common.{◌*◌}
use Rattle.std.specs.Prelude.{replicate}
use Rattle.c_print.specs.Goes.{Goes}
use Rattle.c_print.proofs.printer.Printer.blanks.Given as goal

abbrev pub invariant-loop : goal.invariant-loop
invariant-loop g l = Goes g.S.Sink.state l.fn.self.out l.fn.self.failed l.self.out l.self.failed (replicate (2 * l.counter) 32)
