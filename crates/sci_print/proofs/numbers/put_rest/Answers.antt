use Rattle.std.proofs.Common.{rules, codes}
use Rattle.sci_io.proofs.Advance.{then_writes, stopped, same_text}
use Rattle.sci_print.specs.Numbers.{all_spaced}
use Rattle.sci_print.proofs.numbers.put_rest.Goals as goal

pub returns-in_err-put_numbers : goal.returns-in_err-put_numbers
returns-in_err-put_numbers g c = stopped (all_spaced c.args.numbers.now) (codes "\n") c.put_numbers.result c.from_residual.result _ _ c.in_err-put_numbers.was (search rules) c.put_numbers.ensures

pub returns : goal.returns
returns g c = then_writes (all_spaced c.args.numbers.now) (codes "\n") c.put_numbers.result c.put.result _ c.in_ok-put_numbers.was c.put_numbers.ensures (same_text c.as_bytes.ensures.value c.put.ensures.written)
