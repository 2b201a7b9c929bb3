use Rattle.std.proofs.Common.{rules, ap, ◌++◌, List, ℕ, ℤ, Vec}
use Rattle.std.specs.declared.alloc.Global.{Global}
use Rattle.std.specs.Prelude.{codes}
use Rattle.sci_io.proofs.Advance.{then_writes, stopped, same_text}
use Rattle.sci_net.specs.Parts.{rows_of}
use Rattle.sci_save.specs.Text.{rows_text, cursor_rows}
use Rattle.sci_save.proofs.write.put_blocks.Goals as goal

pub returns-in_err-put_rows : goal.returns-in_err-put_rows
returns-in_err-put_rows g c =
    let m = c.args.image.now in
    let a = rows_text (codes "state") 1 (rows_of m.states.items) in
    let b = rows_text (codes "held") 1 (rows_of m.held.items) in
    let d = rows_text (codes "cursor") 1 (cursor_rows c.args.net.now.specs m.cursors.items) in
    stopped a (b ++ d) c.put_rows.result c.from_residual.result _ _ c.in_err-put_rows.was (search rules)
    (same_text (ap (λ (xs : List (Vec ℤ Global)). rows_text (codes "state") 1 (rows_of xs)) c.deref.ensures.value) c.put_rows.ensures)

pub returns-in_err-put_rows-2 : goal.returns-in_err-put_rows-2
returns-in_err-put_rows-2 g c =
    let m = c.args.image.now in
    let a = rows_text (codes "state") 1 (rows_of m.states.items) in
    let b = rows_text (codes "held") 1 (rows_of m.held.items) in
    let d = rows_text (codes "cursor") 1 (cursor_rows c.args.net.now.specs m.cursors.items) in
    then_writes a (b ++ d) c.put_rows.result c.from_residual-in_err-put_rows-2.result _ c.in_ok-put_rows.was
    (same_text (ap (λ (xs : List (Vec ℤ Global)). rows_text (codes "state") 1 (rows_of xs)) c.deref.ensures.value) c.put_rows.ensures)
    (stopped b d c.put_rows-2.result c.from_residual-in_err-put_rows-2.result _ _ c.in_err-put_rows-2.was (search rules)
    (same_text (ap (λ (xs : List (Vec ℤ Global)). rows_text (codes "held") 1 (rows_of xs)) c.deref-2.ensures.value) c.put_rows-2.ensures))

pub returns : goal.returns
returns g c =
    let m = c.args.image.now in
    let a = rows_text (codes "state") 1 (rows_of m.states.items) in
    let b = rows_text (codes "held") 1 (rows_of m.held.items) in
    let d = rows_text (codes "cursor") 1 (cursor_rows c.args.net.now.specs m.cursors.items) in
    then_writes a (b ++ d) c.put_rows.result c.put_cursors.result _ c.in_ok-put_rows.was
    (same_text (ap (λ (xs : List (Vec ℤ Global)). rows_text (codes "state") 1 (rows_of xs)) c.deref.ensures.value) c.put_rows.ensures)
    (then_writes b d c.put_rows-2.result c.put_cursors.result _ c.in_ok-put_rows-2.was
    (same_text (ap (λ (xs : List (Vec ℤ Global)). rows_text (codes "held") 1 (rows_of xs)) c.deref-2.ensures.value) c.put_rows-2.ensures)
    (same_text (ap (λ (xs : List ℕ). rows_text (codes "cursor") 1 (cursor_rows c.args.net.now.specs xs)) c.deref-3.ensures.value) c.put_cursors.ensures))
