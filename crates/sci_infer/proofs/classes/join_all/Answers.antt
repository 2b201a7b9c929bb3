use Rattle.std.proofs.Common.{take, arith}
use Rattle.sci_infer.proofs.Trees.{across_none, across_next}
use Rattle.sci_infer.proofs.classes.join_all.Goals as goal

pub loop-tie-init : goal.loop-tie-init
loop-tie-init c = across_none c.args.parents.now.items (take 0 c.args.ties.now) c.requires.forest (λ i j h. omega (arith, h.1))

pub loop-tie-preserved : goal.loop-tie-preserved
loop-tie-preserved c =
    across_next c.args.parents.now.items c.loop-tie.parents.items c.join.new.parents.items c.args.ties.now c.loop-tie.tie-index (record { left = 0; right = 0 })
    c.loop-tie-test.true c.loop-tie.invariant c.join.ensures
