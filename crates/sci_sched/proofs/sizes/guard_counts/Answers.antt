use Rattle.std.proofs.Common.{◌≡◌, ℕ, ◌+◌, ◌<◌, ◌^◌, List, All, length, get_or, subst, sym, ap, arith}
use Rattle.std.proofs.lemmas.List.{with_items_is}
use Rattle.sci_net.specs.declared.Feed.{Feed}
use Rattle.sci_sched.specs.Outlines.{CountsTo, AddsBranches}
use Rattle.sci_sched.proofs.Sized.{branches_known, counts_small, counts_next}
use Rattle.sci_sched.proofs.sizes.guard_counts.Goals as goal

pub count_branches-requires-clause-blocks : goal.count_branches-requires-clause-blocks
count_branches-requires-clause-blocks c =
    let same = ap length c.deref_mut.ensures.value in
    let long : length c.deref_mut.result.now ≡ length c.args.net.now.specs + 1 = omega (arith, same, c.loop-at.invariant.long, c.requires.one_each.branches) in
    subst (All (λ (q : Feed). q.block < length c.deref_mut.result.now)) (sym c.branches.ensures)
    (branches_known c.args.net.now c.well_formed-2.ensures c.args.reach.now c.requires (c.loop-at.at + 1) (length c.deref_mut.result.now) long)

pub count_branches-requires-clause-small : goal.count_branches-requires-clause-small
count_branches-requires-clause-small c =
    let qs = c.branches.result.now in
    subst (λ (cs : List ℕ). (x : ℕ) → get_or cs x 0 + length qs < 2 ^ 63) (sym c.deref_mut.ensures.value)
    (counts_small c.args.net.now c.well_formed-2.ensures c.args.reach.now c.requires c.loop-at.at c.loop-at.counts.items qs (c.loop-at.at + 1) c.loop-at.invariant c.branches.ensures)

pub loop-at-preserved : goal.loop-at-preserved
loop-at-preserved c =
    let r = c.args.reach.now in let k = c.loop-at.at in
    let qs = c.branches.result.now in
    let old = c.loop-at.counts in let new = c.count_branches.new.counts in
    let adds = subst (λ (cs : List ℕ). AddsBranches qs cs new) c.deref_mut.ensures.value c.count_branches.ensures in
    let inside = c.loop-at-test.true in
    subst (CountsTo r (k + 1)) (sym (with_items_is old new (omega (arith, adds.long, old.ok.0))))
    (counts_next c.args.net.now c.well_formed-2.ensures r c.requires k old.items new qs (omega (arith, inside, c.loop-at.auto.at-end, c.len-at-end.ensures, c.requires.one_each.branches)) c.branches.ensures c.loop-at.invariant adds)
