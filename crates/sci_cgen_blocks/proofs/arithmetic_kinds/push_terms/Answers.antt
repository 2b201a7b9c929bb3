use Rattle.std.proofs.Common.{arith, ◌<◌, length, refl}
use Rattle.sci_cgen_blocks.specs.Recipes.{terms}
use Rattle.sci_cgen_blocks.proofs.Kept.{step_done}
use Rattle.sci_cgen_blocks.proofs.arithmetic_kinds.push_terms.Goals as goal

pub loop-port-preserved : goal.loop-port-preserved
loop-port-preserved c =
    let lt : c.loop-port.port < length c.args.s.now.ins = omega arith in
    step_done (terms c.args.s.now) _ _ _ _ _ _ _ lt c.in_ok-push.ensures.items c.in_ok-term.ensures (λ m. refl) c.loop-port.invariant
