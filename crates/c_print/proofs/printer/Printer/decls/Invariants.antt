use Rattle.std.proofs.Common.{drop}
use Rattle.std.specs.Prelude.{map}
use Rattle.c_ast.specs.View.{declared_of}
use Rattle.c_ast.specs.Spelling.{declared_row}
use Rattle.c_print.proofs.Steps.{Towards}
use Rattle.c_print.proofs.printer.Printer.decls.Given as goal

abbrev pub invariant-loop-decl : goal.invariant-loop-decl
invariant-loop-decl g l =
    Towards g.S.Sink.state l.fn.self.out l.fn.self.failed l.self.out l.self.failed
    (map declared_row (map declared_of l.decls)) (map declared_row (map declared_of (drop l.decl-index l.decls)))
