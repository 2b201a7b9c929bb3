use Rattle.std.proofs.Common.{rules, ◌++◌}
use Rattle.sci_io.proofs.Advance.{then_writes, stopped}
use Rattle.sci_ranges_text.specs.Text.{ranges_text, states_text, stops_text, idle_text, last_word, is_open}
use Rattle.sci_ranges_pass.specs.Pass.{is_possible}
use Rattle.sci_ranges_marks.specs.View.{marks_of}
use Rattle.sci_ranges_find.specs.View.{ranges_of}
use Rattle.sci_ranges_tell.specs.Told.{plain_table}
use Rattle.sci_ranges_tell.proofs.table.write_table.Goals as goal

pub returns-in_err-put_ranges : goal.returns-in_err-put_ranges
returns-in_err-put_ranges g c =
    stopped (ranges_text c.args.net.now (plain_table c.args.net.now (ranges_of c.args.table.now))) (states_text c.args.net.now (plain_table c.args.net.now (ranges_of c.args.table.now)) ++ (stops_text c.args.net.now (plain_table c.args.net.now (ranges_of c.args.table.now)) ++ (idle_text c.args.net.now (is_possible (marks_of c.args.marks.now)) ++ last_word (is_open c.args.net.now (plain_table c.args.net.now (ranges_of c.args.table.now)))))) c.put_ranges.result c.from_residual.result _ _ c.in_err-put_ranges.was (search rules) c.put_ranges.ensures

pub returns : goal.returns
returns g c =
    then_writes (ranges_text c.args.net.now (plain_table c.args.net.now (ranges_of c.args.table.now))) (states_text c.args.net.now (plain_table c.args.net.now (ranges_of c.args.table.now)) ++ (stops_text c.args.net.now (plain_table c.args.net.now (ranges_of c.args.table.now)) ++ (idle_text c.args.net.now (is_possible (marks_of c.args.marks.now)) ++ last_word (is_open c.args.net.now (plain_table c.args.net.now (ranges_of c.args.table.now)))))) c.put_ranges.result c.put_states_on.result _ c.in_ok-put_ranges.was c.put_ranges.ensures c.put_states_on.ensures
