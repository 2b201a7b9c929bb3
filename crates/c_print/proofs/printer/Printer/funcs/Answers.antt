use Rattle.c_print.proofs.Wholes.{func_goes, func_fits}
use Rattle.c_ast.specs.Bounds.{IsFunction}
use Rattle.c_print.proofs.printer.Printer.funcs.Goals as goal

pub func-requires : goal.func-requires
func-requires g c = func_fits IsFunction c.args.funcs.now c.loop-func.func-index c.func-item.result c.loop-func-test.true c.func-item.is c.requires

pub loop-func-preserved : goal.loop-func-preserved
loop-func-preserved g c = func_goes c.args.funcs.now c.loop-func.func-index c.func-item.result c.loop-func-test.true c.func-item.is c.loop-func.invariant c.func.ensures
