use Rattle.std.proofs.Common.{rules}
use Rattle.sci_io.proofs.Advance.{then_writes, stopped}
use Rattle.sci_sched.specs.Plain.{row_of}
use Rattle.sci_sched.specs.Text.{source_text, entries_text, row_text}
use Rattle.sci_sched.proofs.write.put_row.Goals as goal

pub returns-in_err-put_source : goal.returns-in_err-put_source
unfolding row_text
returns-in_err-put_source g c =
    stopped (source_text c.args.source) (entries_text (row_of c.args.row.now)) c.put_source.result c.from_residual.result _ _ c.in_err-put_source.was (search rules) c.put_source.ensures

pub returns : goal.returns
unfolding row_text
returns g c =
    then_writes (source_text c.args.source) (entries_text (row_of c.args.row.now)) c.put_source.result c.put_entries.result _ c.in_ok-put_source.was c.put_source.ensures c.put_entries.ensures
