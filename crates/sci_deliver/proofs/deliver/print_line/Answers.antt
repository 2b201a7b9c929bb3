use Rattle.sci_print.specs.Numbers.{numbers_line}
use Rattle.sci_deliver.proofs.Giving.{told_written, told_cut}
use Rattle.sci_deliver.proofs.Silent.{numbers_some}
use Rattle.sci_deliver.proofs.deliver.print_line.Goals as goal

pub returns-in-Ok : goal.returns-in-Ok
returns-in-Ok g c = told_written (numbers_line c.args.word.now c.args.numbers.now) _ _ _ (numbers_some c.args.word.now c.args.numbers.now c.requires) c.in-Ok.ensures

pub returns-in-Err : goal.returns-in-Err
returns-in-Err g c = told_cut (numbers_line c.args.word.now c.args.numbers.now) _ _ _ _ _ (numbers_some c.args.word.now c.args.numbers.now c.requires) c.in-Err.ensures c.say_write_fault.ensures
