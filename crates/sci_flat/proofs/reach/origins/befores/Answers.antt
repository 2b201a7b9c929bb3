use Rattle.std.proofs.Common.{refl, ap, arith, rules}
use Rattle.std.proofs.Math.ListN.{set}
use Rattle.sci_flat.specs.declared.reach.origins.Before.{Before}
use Rattle.sci_flat.specs.Successors.{to_at}
use Rattle.sci_flat.proofs.ReachFilling.{to_within}
use Rattle.sci_flat.proofs.Origins.{befores_none, befores_more}
use Rattle.sci_flat.proofs.reach.origins.befores.Goals as goal

pub loop-step-init : goal.loop-step-init
loop-step-init c = befores_none c.args.steps.now c.args.ports c.in_ok-befores.befores.items (c.in_ok-befores.ensures.items_if_clones_equal (search rules))

pub index-requires : goal.index-requires
index-requires c =
    let inside = to_within c.args.ports c.args.steps.now c.loop-step.step-index (0, 0) (omega arith) c.requires in
    omega (arith, inside, c.loop-step.befores.ok, c.loop-step.invariant.long)

pub index_mut-requires : goal.index_mut-requires
index_mut-requires c =
    let inside = to_within c.args.ports c.args.steps.now c.loop-step.step-index (0, 0) (omega arith) c.requires in
    omega (arith, inside, c.loop-step.befores.ok, c.loop-step.invariant.long)

pub loop-step-preserved : goal.loop-step-preserved
loop-step-preserved c =
    let es = c.args.steps.now in
    let n = c.loop-step.step-index in
    let inside = to_within c.args.ports es n (0, 0) (omega arith) c.requires in
    befores_more es c.args.ports n (to_at es n) c.loop-step.befores.items (set c.loop-step.befores.items (to_at es n) c.stepped.result) c.index.result.now inside refl c.index.ensures
    (ap (λ (b : Before). set c.loop-step.befores.items (to_at es n) b) c.stepped.ensures) c.loop-step.invariant
