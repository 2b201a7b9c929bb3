use Rattle.std.proofs.Common.{rules}
use Rattle.sci_io.proofs.Advance.{then_writes, stopped, same_text}
use Rattle.sci_trace.specs.Lines.{numbers}
use Rattle.sci_ranges_tell.proofs.lines.put_line.Goals as goal

pub returns-in_err-put : goal.returns-in_err-put
returns-in_err-put g c = stopped c.args.word.now (numbers c.args.values.now) c.put.result c.from_residual.result _ _ c.in_err-put.was (search rules) (same_text c.as_bytes.ensures.value c.put.ensures.written)

pub returns : goal.returns
returns g c = then_writes c.args.word.now (numbers c.args.values.now) c.put.result c.put_numbers.result _ c.in_ok-put.was (same_text c.as_bytes.ensures.value c.put.ensures.written) c.put_numbers.ensures
