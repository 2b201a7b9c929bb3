use Rattle.std.proofs.Common.{length, All, ap, subst, sym, ◌∙◌}
use Rattle.sci_net.specs.Parts.{IsBlock}
use Rattle.sci_net.specs.Sources.{source_of}
use Rattle.sci_sched.specs.Rows.{AreEntries}
use Rattle.sci_sched.proofs.Building.{is_source, row_is}
use Rattle.sci_sched.proofs.Marking.{possible_blocks}
use Rattle.sci_sched.proofs.rows.row.Goals as goal

pub entries-requires-clause-blocks : goal.entries-requires-clause-blocks
entries-requires-clause-blocks c =
    let n = c.args.net.now in
    subst (All (IsBlock n)) (sym c.deref-2.ensures.value) (possible_blocks n (source_of n c.args.at) c.args.outline.now.blocks.items c.requires.outline.blocks.exactly)

pub entries-requires-clause-depths : goal.entries-requires-clause-depths
entries-requires-clause-depths c = ap length c.deref-3.ensures.value ∙ (c.requires.outline.depths.one_each ∙ sym (ap length c.deref-2.ensures.value))

pub returns-clause-row : goal.returns-clause-row
returns-clause-row c =
    let n = c.args.net.now in let r = c.args.reach.now in let es = c.in_ok-row.row.items in let o = c.args.outline.now in
    row_is n r (source_of n c.args.at) c.mark.new.self o.blocks.items o.depths.items es c.requires.reach (is_source n c.args.at c.requires.at) c.in_ok-mark.ensures.marks c.requires.outline.blocks c.requires.outline.depths
    (subst (λ bs. AreEntries n r c.mark.new.self bs es) c.deref-2.ensures.value c.in_ok-row.ensures.entries) (c.in_ok-row.ensures.depths ∙ c.deref-3.ensures.value)
