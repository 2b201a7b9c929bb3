use Rattle.std.proofs.Common.{◌≡◌, ◌<◌, ◌≤◌, List, Vec, Global, length, get_or, sym, subst, ◌∙◌, ap, arith}
use Rattle.std.specs.List.{All}
use Rattle.sci_reaction.specs.declared.entry.Entry.{Entry}
use Rattle.sci_cgen_base.proofs.LaidLemmas.{row_read, entries_within}
use Rattle.sci_cgen_base.proofs.block_layouts.scheduled.Goals as goal

pub mark_row-requires : goal.mark_row-requires
mark_row-requires c =
    let n = c.args.net.now in
    let rows = c.args.schedule.now.rows.items in
    let i = c.loop-row.row-index in
    let row = c.row-item.result in
    let same = c.deref-row-items.ensures.value in
    let within : i < length rows = omega (arith, c.loop-row-test.true, ap length same) in
    let is : row ≡ get_or rows i row = c.row-item.is ∙ ap (λ (vs : List (Vec Entry Global)). get_or vs i row) same in
    let marks = c.deref_mut.result.now in
    let long : length marks ≡ length n.specs = ap length c.deref_mut.ensures.value ∙ c.loop-row.invariant.long in
    subst (All (λ (e : Entry). (1 ≤ e.block) × (e.block ≤ length marks))) (sym c.deref.ensures.value)
    (entries_within n row.items (length marks) (row_read n rows i row c.requires within is) long)
