use Rattle.std.proofs.Common.{rules}
use Rattle.c_ast.specs.View.{whole_of}
use Rattle.c_ast.specs.Spelling.{spelling}
use Rattle.sci_deliver.proofs.Giving.{flushed, not_flushed}
use Rattle.sci_deliver.proofs.deliver.give_code.Goals as goal

pub returns-in_err-print : goal.returns-in_err-print
returns-in_err-print g c = not_flushed (spelling (whole_of c.args.program.now)) c.print.result c.from_residual.result _ _ c.in_err-print.was (search rules) c.print.ensures

pub returns : goal.returns
returns g c = flushed (spelling (whole_of c.args.program.now)) c.print.result c.flush.result _ c.in_ok-print.was c.print.ensures c.flush.ensures.written c.flush.ensures.all
