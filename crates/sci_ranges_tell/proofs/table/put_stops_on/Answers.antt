use Rattle.std.proofs.Common.{rules, ◌++◌}
use Rattle.sci_io.proofs.Advance.{then_writes, stopped}
use Rattle.sci_ranges_text.specs.Text.{stops_text, idle_text, last_word, is_open}
use Rattle.sci_ranges_pass.specs.Pass.{is_possible}
use Rattle.sci_ranges_marks.specs.View.{marks_of}
use Rattle.sci_ranges_find.specs.View.{ranges_of}
use Rattle.sci_ranges_tell.specs.Told.{plain_table}
use Rattle.sci_ranges_tell.proofs.table.put_stops_on.Goals as goal

pub returns-in_err-put_stops : goal.returns-in_err-put_stops
returns-in_err-put_stops g c =
    stopped (stops_text c.args.net.now (plain_table c.args.net.now (ranges_of c.args.table.now))) (idle_text c.args.net.now (is_possible (marks_of c.args.marks.now)) ++ last_word (is_open c.args.net.now (plain_table c.args.net.now (ranges_of c.args.table.now)))) c.put_stops.result c.from_residual.result _ _ c.in_err-put_stops.was (search rules) c.put_stops.ensures

pub returns : goal.returns
returns g c =
    then_writes (stops_text c.args.net.now (plain_table c.args.net.now (ranges_of c.args.table.now))) (idle_text c.args.net.now (is_possible (marks_of c.args.marks.now)) ++ last_word (is_open c.args.net.now (plain_table c.args.net.now (ranges_of c.args.table.now)))) c.put_stops.result c.put_end.result _ c.in_ok-put_stops.was c.put_stops.ensures c.put_end.ensures
