use Rattle.std.proofs.Common.{ℕ, ◌<◌, ◌^◌, List, All, length, get_or, refl, subst, sym, ap, ◌∙◌}
use Rattle.std.specs.List.{sum_by}
use Rattle.sci_net.specs.Sources.{source_of}
use Rattle.sci_reaction.specs.Depends.{HasDepth}
use Rattle.sci_dep.specs.Tables.{IsTableOf}
use Rattle.sci_sched.specs.Depths.{AreDepthsOf}
use Rattle.sci_sched.specs.Outlines.{AreOrdered}
use Rattle.sci_sched.proofs.Building.{is_source}
use Rattle.sci_sched.proofs.Sized.{blocks_counted, given_few, outline_is}
use Rattle.sci_sched.proofs.outline.outline_of.Goals as goal

-- the blocks that the walk has found are the possible blocks of the source
pub ordered-requires-clause-table : goal.ordered-requires-clause-table
ordered-requires-clause-table c =
    let n = c.args.net.now in
    subst (λ v. IsTableOf n v c.in_ok-table.table) (sym c.source.ensures) (c.in_ok-table.ensures (source_of n c.args.at) c.in_ok-possible.ensures.possible)

pub guards_by-guards-requires-clause-blocks : goal.guards_by-guards-requires-clause-blocks
guards_by-guards-requires-clause-blocks c =
    let n = c.args.net.now in let s = source_of n c.args.at in let bs = c.in_ok-blocks.field-0.blocks.items in
    let is : AreOrdered n s bs = subst (λ v. AreOrdered n v bs) c.source.ensures c.in_ok-blocks.ensures.ok in
    subst (All (λ b. b < length c.args.counts.now)) (sym c.deref.ensures.value) (blocks_counted n c.well_formed-2.ensures s bs is (is_source n c.args.at c.requires.at) c.args.reach.now c.requires.reach c.args.counts.now c.requires.counts)

pub guards_by-guards-requires-clause-small : goal.guards_by-guards-requires-clause-small
guards_by-guards-requires-clause-small c =
    let n = c.args.net.now in let s = source_of n c.args.at in let bs = c.in_ok-blocks.field-0.blocks.items in
    let is : AreOrdered n s bs = subst (λ v. AreOrdered n v bs) c.source.ensures c.in_ok-blocks.ensures.ok in
    subst (λ (xs : List ℕ). sum_by (λ b. get_or c.args.counts.now b 0) xs < 2 ^ 63) (sym c.deref.ensures.value)
    (given_few n c.well_formed-2.ensures s bs is (is_source n c.args.at c.requires.at) c.args.reach.now c.requires.reach c.args.counts.now c.requires.counts)

pub returns-clause-ok : goal.returns-clause-ok
returns-clause-ok c =
    let n = c.args.net.now in let s = source_of n c.args.at in let bs = c.in_ok-blocks.field-0.blocks.items in
    let is : AreOrdered n s bs = subst (λ v. AreOrdered n v bs) c.source.ensures c.in_ok-blocks.ensures.ok in
    outline_is n c.well_formed-2.ensures s bs is (is_source n c.args.at c.requires.at) c.args.reach.now c.requires.reach c.args.counts.now
    (record { blocks = c.in_ok-blocks.field-0.blocks; depths = c.in_ok-blocks.field-0.depths; guards = c.guards_by-guards.result }) c.requires.counts refl
    (subst (λ v. AreDepthsOf (HasDepth n v) bs c.in_ok-blocks.field-0.depths.items) c.source.ensures c.in_ok-blocks.ensures.depths)
    (c.guards_by-guards.ensures ∙ ap (λ xs. sum_by (λ b. get_or c.args.counts.now b 0) xs) c.deref.ensures.value)
