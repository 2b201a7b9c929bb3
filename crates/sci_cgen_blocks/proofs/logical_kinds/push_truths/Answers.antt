use Rattle.std.proofs.Common.{arith, ◌<◌, refl}
use Rattle.sci_cgen_blocks.specs.Terms.{along}
use Rattle.sci_cgen_blocks.specs.Recipes.{truth, counted, changed}
use Rattle.sci_cgen_blocks.proofs.Kept.{step_done}
use Rattle.sci_cgen_blocks.proofs.logical_kinds.push_truths.Goals as goal

pub loop-port-preserved : goal.loop-port-preserved
loop-port-preserved c =
    let lt : c.loop-port.port < c.args.n = omega arith in
    step_done (λ j m. changed (counted (λ k. truth (along k)) j m)) _ _ _ _ _ _ _ lt c.in_ok-push.ensures.items c.in_ok-truth_counted.ensures (λ m. refl) c.loop-port.invariant
