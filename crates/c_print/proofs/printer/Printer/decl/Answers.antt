use Rattle.c_print.proofs.Steps.{goes_then}
use Rattle.c_print.proofs.Wholes.{scalar_goes, array_goes}
use Rattle.c_print.proofs.printer.Printer.decl.Goals as goal

pub returns-in-None : goal.returns-in-None
returns-in-None g c = scalar_goes c.args.decl.now c.in-None.is (goes_then c.text.ensures (goes_then c.name.ensures c.text-in-None.ensures))

pub returns-in-Some : goal.returns-in-Some
returns-in-Some g c = array_goes c.args.decl.now c.in-Some.size c.in-Some.is (goes_then c.text.ensures (goes_then c.name.ensures (goes_then c.text-in-Some.ensures (goes_then c.counted.ensures c.text-in-Some-2.ensures))))
