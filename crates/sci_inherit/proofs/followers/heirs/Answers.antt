use Rattle.std.proofs.Common.{◌≡◌, ◌∙◌, ℕ, ◌+◌, ◌-◌, subst, arith, length, replicate, []}
use Rattle.sci_loop.specs.Lists.{plain, Adds}
use Rattle.sci_inherit.specs.Followers.{HeirGiven}
use Rattle.sci_inherit.proofs.Giving.{upto-next}
use Rattle.sci_inherit.proofs.Linked.{heirs_are}
use Rattle.sci_inherit.proofs.followers.heirs.Goals as goal

pub loop-at-preserved : goal.loop-at-preserved
loop-at-preserved c =
    let n = c.args.net.now in
    let at = c.loop-at.at in
    let e : (at + 1) - 1 ≡ at = omega arith in
    record {
      len = c.in_ok-push_heir.ensures.len ∙ c.loop-at.invariant.len;
      adds = upto-next (HeirGiven n) at (replicate (length n.specs + 1) []) (plain c.loop-at.heirs.items) (plain c.push_heir.new.heirs.items) c.loop-at.invariant.adds
          (subst (λ (k : ℕ). Adds (HeirGiven n k) (plain c.loop-at.heirs.items) (plain c.push_heir.new.heirs.items)) e c.in_ok-push_heir.ensures.heirs);
    }

pub returns-clause-heirs : goal.returns-clause-heirs
returns-clause-heirs c =
    let n = c.args.net.now in
    let all : c.loop-at.at ≡ length n.specs = omega (arith, c.len-at-end.ensures, c.loop-at-test.false, c.loop-at.auto.at-end) in
    heirs_are n (length n.specs + 1) c.loop-at.at (plain c.loop-at.heirs.items) all c.loop-at.invariant.adds
