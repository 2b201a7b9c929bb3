use Rattle.c_print.proofs.Wholes.{main_goes}
use Rattle.c_ast.specs.Bounds.{IsBody}
use Rattle.c_print.proofs.printer.Printer.main.Goals as goal

pub block-requires : goal.block-requires
unfolding IsBody
block-requires g c = c.requires

pub returns : goal.returns
returns g c = main_goes c.args.body.now c.text.ensures c.block.ensures c.text-2.ensures
