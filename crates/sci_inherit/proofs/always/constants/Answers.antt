use Rattle.std.proofs.Common.{◌≡◌, ℕ, ◌+◌, ◌-◌, sym, subst, arith, length}
use Rattle.sci_inherit.specs.Gather.{AreConstants}
use Rattle.sci_inherit.proofs.Sourced.{constants_none}
use Rattle.sci_inherit.proofs.always.constants.Goals as goal

pub loop-at-init : goal.loop-at-init
loop-at-init c = subst (AreConstants c.args.net.now 0) (sym c.new-constants.ensures.items) (constants_none c.args.net.now)

pub push_constant-requires-clause-constants : goal.push_constant-requires-clause-constants
push_constant-requires-clause-constants c =
    let e : c.loop-at.at ≡ (c.loop-at.at + 1) - 1 = omega arith in
    subst (λ (k : ℕ). AreConstants c.args.net.now k c.loop-at.constants.items) e c.loop-at.invariant

pub loop-at-preserved : goal.loop-at-preserved
loop-at-preserved c = c.in_ok-push_constant.ensures

pub returns : goal.returns
returns c =
    let all : c.loop-at.at ≡ length c.args.net.now.specs = omega (arith, c.len-at-end.ensures, c.loop-at-test.false, c.loop-at.auto.at-end) in
    subst (λ (k : ℕ). AreConstants c.args.net.now k c.loop-at.constants.items) all c.loop-at.invariant
