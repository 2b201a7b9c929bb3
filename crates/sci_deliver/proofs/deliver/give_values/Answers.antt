use Rattle.std.proofs.Common.{rules}
use Rattle.sci_print.specs.Values.{values_text}
use Rattle.sci_deliver.proofs.Giving.{flushed, not_flushed}
use Rattle.sci_deliver.proofs.deliver.give_values.Goals as goal

pub returns-in_err-write_values : goal.returns-in_err-write_values
returns-in_err-write_values g c = not_flushed (values_text c.args.dump.now c.args.tick) c.write_values.result c.from_residual.result _ _ c.in_err-write_values.was (search rules) c.write_values.ensures

pub returns : goal.returns
returns g c = flushed (values_text c.args.dump.now c.args.tick) c.write_values.result c.flush.result _ c.in_ok-write_values.was c.write_values.ensures c.flush.ensures.written c.flush.ensures.all
