use Rattle.std.proofs.Common.{rules}
use Rattle.sci_range_commands.specs.Prepared.{ranged_text}
use Rattle.sci_range_commands.proofs.Giving.{flushed, not_flushed}
use Rattle.sci_range_commands.proofs.deliver.give_table.Goals as goal

pub returns-in_err-write_table : goal.returns-in_err-write_table
returns-in_err-write_table g c = not_flushed (ranged_text c.args.ranged.now) c.write_table.result c.from_residual.result _ _ c.in_err-write_table.was (search rules) c.write_table.ensures

pub returns : goal.returns
returns g c = flushed (ranged_text c.args.ranged.now) c.write_table.result c.flush.result _ c.in_ok-write_table.was c.write_table.ensures c.flush.ensures.written c.flush.ensures.all
