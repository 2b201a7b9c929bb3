use Rattle.sci_flat.proofs.Walking.{fan_more}
use Rattle.sci_flat.proofs.steps.through.fan_in.Goals as goal

pub loop-k-preserved : goal.loop-k-preserved
loop-k-preserved c =
    fan_more (λ k. (k, c.in-Some.target)) c.args.first c.loop-k.k c.args.steps.now.items c.loop-k.steps.items c.push.new.self.items c.loop-k.invariant c.in_ok-push.ensures.items
