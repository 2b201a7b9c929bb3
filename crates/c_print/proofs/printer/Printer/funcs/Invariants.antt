use Rattle.std.proofs.Common.{drop}
use Rattle.std.specs.Prelude.{map}
use Rattle.std.specs.List.{flat_map}
use Rattle.c_ast.specs.View.{function_of}
use Rattle.c_ast.specs.Spelling.{function_rows}
use Rattle.c_print.proofs.Steps.{Towards}
use Rattle.c_print.proofs.printer.Printer.funcs.Given as goal

abbrev pub invariant-loop-func : goal.invariant-loop-func
invariant-loop-func g l =
    Towards g.S.Sink.state l.fn.self.out l.fn.self.failed l.self.out l.self.failed
    (flat_map function_rows (map function_of l.funcs)) (flat_map function_rows (map function_of (drop l.func-index l.funcs)))
