use Rattle.std.proofs.Common.{arith, ◌<◌, refl}
use Rattle.sci_cgen_blocks.specs.Recipes.{extremes}
use Rattle.sci_cgen_blocks.proofs.Kept.{step_done}
use Rattle.sci_cgen_blocks.proofs.arithmetic_kinds.push_extremes.Goals as goal

pub loop-port-preserved : goal.loop-port-preserved
loop-port-preserved c =
    let lt : c.loop-port.port < c.args.count = omega arith in
    step_done (extremes c.args.op) _ _ _ _ _ _ _ lt c.in_ok-push.ensures.items c.in_ok-compared.ensures (λ m. refl) c.loop-port.invariant
