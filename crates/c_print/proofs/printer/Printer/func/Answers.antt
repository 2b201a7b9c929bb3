use Rattle.c_print.proofs.Steps.{goes_then}
use Rattle.c_print.proofs.Wholes.{function_goes}
use Rattle.c_ast.specs.Bounds.{IsBody}
use Rattle.c_print.proofs.printer.Printer.func.Goals as goal

pub block-requires : goal.block-requires
unfolding IsBody
block-requires g c = rw c.deref.ensures.value c.requires.1

pub returns : goal.returns
returns g c = function_goes c.args.func.now c.deref.result.now c.deref.ensures.value (goes_then c.text.ensures (goes_then c.name.ensures c.text-2.ensures)) c.block.ensures c.text-3.ensures
