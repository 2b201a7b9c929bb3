use Rattle.std.proofs.Common.{◌≤◌, All, List, ℕ, length, sym, ap, ◌∙◌, subst}
use Rattle.sci_net.specs.Parts.{rows_of}
use Rattle.sci_net.specs.Sources.{source_of}
use Rattle.sci_reaction.specs.Kept.{entries_of}
use Rattle.sci_reaction.specs.declared.entry.Entry.{Entry}
use Rattle.sci_ranges_rows.specs.Marks.{dead_of, acts_in}
use Rattle.sci_ranges_marks.proofs.Marked.{rows_more, rows_all, row_at_place, blocks_below}
use Rattle.sci_ranges_marks.proofs.marking.mark_rows.Goals as goal

pub mark_row-requires : goal.mark_row-requires
mark_row-requires c =
    let n = c.args.net.now in
    let row = row_at_place n c.args.rows.now c.loop-k.k c.index-rows-k.result c.requires c.loop-k-test.true c.index-rows-k.is in
    let all = blocks_below n (source_of n c.loop-k.k) c.index-rows-k.result.entries.items row in
    subst (λ (es : List Entry). All (λ (e : Entry). e.block ≤ c.len.result) es) (sym c.entries.ensures)
    (subst (λ (m : ℕ). All (λ (e : Entry). e.block ≤ m) c.index-rows-k.result.entries.items) (sym c.len.ensures) all)

pub loop-k-preserved : goal.loop-k-preserved
loop-k-preserved c =
    let n = c.args.net.now in
    let dead = dead_of (rows_of c.args.dead.now) in
    ap rows_of c.in_ok-push.ensures.items
    ∙ rows_more (acts_in dead (length n.specs)) c.args.rows.now c.loop-k.k c.index-rows-k.result c.loop-k.acts.items c.in_ok-mark_row.field-0 c.loop-k-test.true c.index-rows-k.is
    (c.in_ok-mark_row.ensures ∙ (ap (λ (m : ℕ). acts_in dead m (entries_of c.entries.result.now)) c.len.ensures ∙ ap (λ (es : List Entry). acts_in dead (length n.specs) (entries_of es)) c.entries.ensures))
    c.loop-k.invariant

pub returns : goal.returns
returns c =
    rows_all (acts_in (dead_of (rows_of c.args.dead.now)) (length c.args.net.now.specs)) c.args.rows.now c.loop-k.k c.loop-k.acts.items c.loop-k-test.false c.loop-k.invariant
