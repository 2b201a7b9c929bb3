use Rattle.std.proofs.Common.{rules, ◌+◌, ◌<◌, drop, subst, List, ℕ, get_or, length, ap, ◌∙◌, arith}
use Rattle.std.specs.Prelude.{codes}
use Rattle.sci_io.specs.Taken.{UnderWay}
use Rattle.sci_io.proofs.Advance.{cut_off, next_front, same_text}
use Rattle.sci_forms.specs.declared.spec.Spec.{Spec}
use Rattle.sci_net.specs.Parts.{no_spec}
use Rattle.sci_net.proofs.Numbered.{numbered_next}
use Rattle.sci_save.specs.Text.{row_text, rows_text, cursor_row, cursor_rows}
use Rattle.sci_save.proofs.Writing.{cursors-drop}
use Rattle.sci_save.proofs.write.put_cursors.Goals as goal

pub returns-in_err-put_cursor : goal.returns-in_err-put_cursor
returns-in_err-put_cursor g c =
    let i = c.loop-block.block in
    let ss = c.args.net.now.specs in
    let cs = c.args.cursors.now in
    let word = codes "cursor" in
    let here : i < length ss = subst (λ m. i < m) c.len-block-end.ensures c.loop-block-test.true in
    let there : i < length cs = omega (arith, here, c.requires) in
    let due = subst (λ (l : List ℕ). UnderWay (g.S.Sink.state c.args.out.now) (g.S.Sink.state c.loop-block.out) (rows_text word 1 (cursor_rows ss cs)) l) (cursors-drop word ss cs i no_spec 0 here there) c.loop-block.invariant in
    cut_off (row_text word (i + 1) (cursor_row (get_or ss i no_spec) (get_or cs i 0))) (rows_text word (i + 1 + 1) (cursor_rows (drop (i + 1) ss) (drop (i + 1) cs))) c.put_cursor.result c.from_residual.result _ _ c.in_err-put_cursor.was (search rules) due
    (same_text (ap (λ (s : Spec). row_text word (i + 1) (cursor_row s (get_or cs i 0))) (c.spec.ensures.value ∙ numbered_next no_spec ss i)) c.put_cursor.ensures)

pub loop-block-preserved : goal.loop-block-preserved
loop-block-preserved g c =
    let i = c.loop-block.block in
    let ss = c.args.net.now.specs in
    let cs = c.args.cursors.now in
    let word = codes "cursor" in
    let here : i < length ss = subst (λ m. i < m) c.len-block-end.ensures c.loop-block-test.true in
    let there : i < length cs = omega (arith, here, c.requires) in
    let due = subst (λ (l : List ℕ). UnderWay (g.S.Sink.state c.args.out.now) (g.S.Sink.state c.loop-block.out) (rows_text word 1 (cursor_rows ss cs)) l) (cursors-drop word ss cs i no_spec 0 here there) c.loop-block.invariant in
    next_front (row_text word (i + 1) (cursor_row (get_or ss i no_spec) (get_or cs i 0))) (rows_text word (i + 1 + 1) (cursor_rows (drop (i + 1) ss) (drop (i + 1) cs))) c.put_cursor.result _ c.in_ok-put_cursor.was due
    (same_text (ap (λ (s : Spec). row_text word (i + 1) (cursor_row s (get_or cs i 0))) (c.spec.ensures.value ∙ numbered_next no_spec ss i)) c.put_cursor.ensures)
