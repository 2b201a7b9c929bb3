use Rattle.std.proofs.Common.{None}
use Rattle.c_ast.specs.declared.Decl.{Decl}
use Rattle.c_print.proofs.Wholes.{decl_goes}
use Rattle.c_print.proofs.printer.Printer.decls.Goals as goal

pub loop-decl-preserved : goal.loop-decl-preserved
loop-decl-preserved g c =
    let blank : Decl = record { name = record { letter = 0; number = 0 }; size = None } in
    decl_goes c.args.decls.now c.loop-decl.decl-index blank c.loop-decl-test.true c.loop-decl.invariant c.decl.ensures
