use Rattle.std.proofs.Common.{◌≡◌, ◌<◌, ◌≤◌, ◌+◌, ◌++◌, ◌∷◌, [], length, subst, ap, ◌∙◌, ℤ, Ok, Vec, arith}
use Rattle.std.specs.declared.alloc.Global.{Global}
use Rattle.std.proofs.lemmas.Result.{err_from_is_err_and}
use Rattle.std.proofs.lemmas.List.{map_push}
use Rattle.sci_forms.specs.declared.spec.Spec.{Spec}
use Rattle.sci_net.specs.Parts.{rows_of, no_spec}
use Rattle.sci_net.proofs.Numbered.{numbered_next}
use Rattle.sci_trace.specs.Columns.{columns_view}
use Rattle.sci_save.specs.Bounds.{word_of, bounds_of}
use Rattle.sci_save.specs.Reading.{Fails, row_at, rows_at}
use Rattle.sci_save.proofs.Loops.{rows_go_on, rows_break, rows_end}
use Rattle.sci_save.proofs.rows.rows.Goals as goal

pub returns-in_err-row : goal.returns-in_err-row
returns-in_err-row c =
    let p = err_from_is_err_and c.from_residual.result c.from_residual.ensures.1 in
    let b = c.loop-block.block in
    let ss = c.args.net.now.specs in
    let cols = columns_view c.args.columns.now in
    let part = c.args.part in
    let here : b < length ss = subst (λ m. b < m) c.len-block-end.ensures c.loop-block-test.true in
    let same = c.spec.ensures.value ∙ numbered_next no_spec ss b in
    let fails = subst (λ (s : Spec). Fails c.in_err-row.field-0.0 (row_at (word_of part) (b + 1) (bounds_of part cols s) c.loop-block.rest.now)) same c.in_err-row.ensures in
    rw (p.1, p.2) (rows_break c.in_err-row.field-0.0 (rows_of c.loop-block.rows.items) part cols (b + 1) ss b no_spec c.loop-block.rest.now (rows_at part cols 1 ss c.args.bytes.now) here fails c.loop-block.invariant)

pub loop-block-preserved : goal.loop-block-preserved
loop-block-preserved c =
    let b = c.loop-block.block in
    let ss = c.args.net.now.specs in
    let cols = columns_view c.args.columns.now in
    let part = c.args.part in
    let row = c.in_ok-row.row in
    let here : b < length ss = subst (λ m. b < m) c.len-block-end.ensures c.loop-block-test.true in
    let same = c.spec.ensures.value ∙ numbered_next no_spec ss b in
    let read = subst (λ (s : Spec). row_at (word_of part) (b + 1) (bounds_of part cols s) c.loop-block.rest.now ≡ Ok (row.items, c.in_ok-row.behind.now)) same c.in_ok-row.ensures in
    let e : rows_of c.push.new.self.items ≡ rows_of c.loop-block.rows.items ++ row.items ∷ [] = ap (rows_of {A = ℤ}) c.in_ok-push.ensures.items ∙ map_push (λ (v : Vec ℤ Global). v.items) c.loop-block.rows.items row in
    rw e (rows_go_on (rows_of c.loop-block.rows.items) part cols (b + 1) ss b no_spec c.loop-block.rest.now row.items c.in_ok-row.behind.now (rows_at part cols 1 ss c.args.bytes.now) here read c.loop-block.invariant)

pub returns : goal.returns
returns c =
    let ss = c.args.net.now.specs in
    let cols = columns_view c.args.columns.now in
    let over : length ss ≤ c.loop-block.block = omega (arith, c.loop-block-test.false, c.len-block-end.ensures) in
    rows_end (rows_of c.loop-block.rows.items) c.args.part cols (c.loop-block.block + 1) ss c.loop-block.block c.loop-block.rest.now (rows_at c.args.part cols 1 ss c.args.bytes.now) over c.loop-block.invariant
