use Rattle.std.proofs.Common.{rules, ◌+◌, drop, subst, List, ℕ, ℤ, get_or, ap, ◌∙◌, Vec}
use Rattle.std.specs.declared.alloc.Global.{Global}
use Rattle.sci_io.specs.Taken.{UnderWay}
use Rattle.sci_io.proofs.Advance.{cut_off, next_front, same_text}
use Rattle.sci_net.specs.Parts.{rows_of}
use Rattle.sci_save.specs.Text.{row_text, rows_text}
use Rattle.sci_save.proofs.Writing.{rows-drop}
use Rattle.sci_save.proofs.write.put_rows.Goals as goal

pub returns-in_err-put_row : goal.returns-in_err-put_row
returns-in_err-put_row g c =
    let i = c.loop-at.at in
    let word = c.args.word.now in
    let rows = c.args.rows.now in
    let v = c.index-rows-at.result in
    let due = subst (λ (l : List ℕ). UnderWay (g.S.Sink.state c.args.out.now) (g.S.Sink.state c.loop-at.out) (rows_text word 1 (rows_of rows)) l) (rows-drop word rows i v c.loop-at-test.true) c.loop-at.invariant in
    cut_off (row_text word (i + 1) (get_or rows i v).items) (rows_text word (i + 1 + 1) (rows_of (drop (i + 1) rows))) c.put_row.result c.from_residual.result _ _ c.in_err-put_row.was (search rules) due
    (same_text (ap (row_text word (i + 1)) (c.deref.ensures.value ∙ ap (λ (w : Vec ℤ Global). w.items) c.index-rows-at.is)) c.put_row.ensures)

pub loop-at-preserved : goal.loop-at-preserved
loop-at-preserved g c =
    let i = c.loop-at.at in
    let word = c.args.word.now in
    let rows = c.args.rows.now in
    let v = c.index-rows-at.result in
    let due = subst (λ (l : List ℕ). UnderWay (g.S.Sink.state c.args.out.now) (g.S.Sink.state c.loop-at.out) (rows_text word 1 (rows_of rows)) l) (rows-drop word rows i v c.loop-at-test.true) c.loop-at.invariant in
    next_front (row_text word (i + 1) (get_or rows i v).items) (rows_text word (i + 1 + 1) (rows_of (drop (i + 1) rows))) c.put_row.result _ c.in_ok-put_row.was due
    (same_text (ap (row_text word (i + 1)) (c.deref.ensures.value ∙ ap (λ (w : Vec ℤ Global). w.items) c.index-rows-at.is)) c.put_row.ensures)
