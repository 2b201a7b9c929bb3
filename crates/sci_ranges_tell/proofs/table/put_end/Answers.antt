use Rattle.std.proofs.Common.{rules, ap}
use Rattle.sci_io.proofs.Advance.{then_writes, stopped, same_text}
use Rattle.sci_ranges_text.specs.Text.{idle_text, last_word, is_open}
use Rattle.sci_ranges_pass.specs.Pass.{is_possible}
use Rattle.sci_ranges_marks.specs.View.{marks_of}
use Rattle.sci_ranges_find.specs.View.{ranges_of}
use Rattle.sci_ranges_tell.specs.Told.{plain_table}
use Rattle.sci_ranges_tell.proofs.table.put_end.Goals as goal

pub returns-in_err-put_idles : goal.returns-in_err-put_idles
returns-in_err-put_idles g c =
    stopped (idle_text c.args.net.now (is_possible (marks_of c.args.marks.now))) (last_word (is_open c.args.net.now (plain_table c.args.net.now (ranges_of c.args.table.now)))) c.put_idles.result c.from_residual.result _ _ c.in_err-put_idles.was (search rules) c.put_idles.ensures

pub returns : goal.returns
returns g c =
    then_writes (idle_text c.args.net.now (is_possible (marks_of c.args.marks.now))) (last_word (is_open c.args.net.now (plain_table c.args.net.now (ranges_of c.args.table.now)))) c.put_idles.result c.put_word.result _ c.in_ok-put_idles.was c.put_idles.ensures (same_text (ap last_word c.may_stop.ensures) c.put_word.ensures)
