use Rattle.std.proofs.Common.{arith, ◌<◌, refl}
use Rattle.sci_cgen_blocks.specs.Recipes.{patterns_joined}
use Rattle.sci_cgen_blocks.proofs.Kept.{pair_done}
use Rattle.sci_cgen_blocks.proofs.logical_kinds.push_patterns.Goals as goal

pub loop-port-preserved : goal.loop-port-preserved
loop-port-preserved c =
    let lt : c.loop-port.port < c.args.n = omega arith in
    pair_done (patterns_joined c.args.ty c.args.join) _ _ _ _ _ _ _ _ _ _ lt c.in_ok-push.ensures.items c.in_ok-push-2.ensures.items
    c.in_ok-taken.ensures c.in_ok-joined.ensures (λ m. refl) c.loop-port.invariant
