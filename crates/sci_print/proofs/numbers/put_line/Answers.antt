use Rattle.std.proofs.Common.{rules, codes, ◌++◌}
use Rattle.sci_io.proofs.Advance.{then_writes, stopped, same_text}
use Rattle.sci_print.specs.Numbers.{all_spaced, numbers_line}
use Rattle.sci_print.proofs.numbers.put_line.Goals as goal

pub returns-in_err-put : goal.returns-in_err-put
unfolding numbers_line
returns-in_err-put g c = stopped c.args.word.now (all_spaced c.args.numbers.now ++ codes "\n") c.put.result c.from_residual.result _ _ c.in_err-put.was (search rules) (same_text c.as_bytes.ensures.value c.put.ensures.written)

pub returns : goal.returns
unfolding numbers_line
returns g c = then_writes c.args.word.now (all_spaced c.args.numbers.now ++ codes "\n") c.put.result c.put_rest.result _ c.in_ok-put.was (same_text c.as_bytes.ensures.value c.put.ensures.written) c.put_rest.ensures
