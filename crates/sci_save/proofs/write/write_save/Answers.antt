use Rattle.std.proofs.Common.{rules}
use Rattle.sci_io.proofs.Advance.{then_writes, stopped}
use Rattle.sci_save.specs.Saved.{saved_of}
use Rattle.sci_save.specs.Text.{head_text, lines_text, saved_text}
use Rattle.sci_save.proofs.Writing.{one_cursor_each, all_sources}
use Rattle.sci_save.proofs.write.write_save.Goals as goal

pub put_lines-requires-clause-cursors : goal.put_lines-requires-clause-cursors
put_lines-requires-clause-cursors g c = one_cursor_each c.args.net.now.specs c.args.image.now.cursors.items c.requires.cursors

pub put_lines-requires-clause-sources : goal.put_lines-requires-clause-sources
put_lines-requires-clause-sources g c = all_sources c.args.net.now c.args.image.now.now c.args.image.now.pending.items c.requires.pending.near

pub returns-in_err-put_stands : goal.returns-in_err-put_stands
unfolding saved_text
returns-in_err-put_stands g c =
    let m = saved_of c.args.image.now in
    stopped (head_text m) (lines_text c.args.net.now m) c.put_stands.result c.from_residual.result _ _ c.in_err-put_stands.was (search rules) c.put_stands.ensures

pub returns : goal.returns
unfolding saved_text
returns g c =
    let m = saved_of c.args.image.now in
    then_writes (head_text m) (lines_text c.args.net.now m) c.put_stands.result c.put_lines.result _ c.in_ok-put_stands.was c.put_stands.ensures c.put_lines.ensures
