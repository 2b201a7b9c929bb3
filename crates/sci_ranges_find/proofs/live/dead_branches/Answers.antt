use Rattle.std.proofs.Common.{List, Bool, Vec, sym, subst}
use Rattle.std.specs.declared.alloc.Global.{Global}
use Rattle.sci_ranges_marks.specs.Branches.{AreFewBranches}
use Rattle.sci_ranges_find.proofs.Branching.{first_few, few_more}
use Rattle.sci_ranges_find.proofs.live.dead_branches.Goals as goal

pub loop-block-init : goal.loop-block-init
loop-block-init c = first_few c.new-dead.result.items c.push.new.self.items c.new.result c.new-dead.ensures.items c.new.ensures.items c.in_ok-push.ensures.items

pub loop-block-preserved : goal.loop-block-preserved
loop-block-preserved c =
    subst (λ (dead : List (Vec Bool Global)). AreFewBranches dead) (sym c.in_ok-push-2.ensures.items)
    (few_more c.loop-block.dead.items c.in_ok-branches.branches c.in_ok-branches.ensures c.loop-block.invariant)
