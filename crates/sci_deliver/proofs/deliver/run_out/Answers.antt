use Rattle.std.proofs.Common.{pos, Ok, refl}
use Rattle.sci_trace.specs.Lines.{text}
use Rattle.c_ast.specs.View.{whole_of}
use Rattle.c_mean.specs.Meaning.{meaning}
use Rattle.sci_deliver.proofs.Giving.{flushed}
use Rattle.sci_deliver.proofs.deliver.run_out.Goals as goal

pub returns-in-Err : goal.returns-in-Err
returns-in-Err g c =
    let ran = meaning (whole_of c.args.program.now) c.args.inputs.now (pos c.args.until) (pos c.args.limit) in
    let given = flushed (text ran.seen) (Ok tt) c.flush.result tt refl c.in_ok-end.ensures.by.0 c.flush.ensures.written c.flush.ensures.all in
    rw c.in-Err.is at given
