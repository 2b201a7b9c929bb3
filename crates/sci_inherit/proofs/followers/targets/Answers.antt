use Rattle.std.proofs.Common.{◌≡◌, ◌∙◌, ℕ, ◌+◌, ◌-◌, subst, arith, length, replicate, []}
use Rattle.sci_loop.specs.Lists.{plain, Adds}
use Rattle.sci_inherit.specs.Followers.{TargetGiven}
use Rattle.sci_inherit.proofs.Giving.{upto-next}
use Rattle.sci_inherit.proofs.Linked.{targets_are}
use Rattle.sci_inherit.proofs.followers.targets.Goals as goal

pub loop-at-preserved : goal.loop-at-preserved
loop-at-preserved c =
    let n = c.args.net.now in
    let at = c.loop-at.at in
    let e : (at + 1) - 1 ≡ at = omega arith in
    record {
      len = c.in_ok-push_inputs.ensures.len ∙ c.loop-at.invariant.len;
      adds = upto-next (TargetGiven n) at (replicate (length n.specs + 1) []) (plain c.loop-at.targets.items) (plain c.push_inputs.new.targets.items) c.loop-at.invariant.adds
          (subst (λ (k : ℕ). Adds (TargetGiven n k) (plain c.loop-at.targets.items) (plain c.push_inputs.new.targets.items)) e c.in_ok-push_inputs.ensures.targets);
    }

pub returns-clause-targets : goal.returns-clause-targets
returns-clause-targets c =
    let n = c.args.net.now in
    let all : c.loop-at.at ≡ length n.specs = omega (arith, c.len-at-end.ensures, c.loop-at-test.false, c.loop-at.auto.at-end) in
    targets_are n (length n.specs + 1) c.loop-at.at (plain c.loop-at.targets.items) c.well_formed-2.ensures all c.loop-at.invariant.adds
