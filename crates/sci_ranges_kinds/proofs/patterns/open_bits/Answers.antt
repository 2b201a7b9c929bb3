use Rattle.std.proofs.Common.{◌≡◌, ◌^◌, ◌<◌, ◌≤◌, subst, arith}
use Rattle.sci_base.specs.Fit.{width}
use Rattle.sci_base.proofs.FitLemmas.{span-pow}
use Rattle.sci_ranges_kinds.proofs.Asked.{width_small}
use Rattle.sci_ranges_kinds.proofs.Opened.{IsOpenSoFar, open_first, open_same, open_differ, open_all, open_small}
use Rattle.sci_ranges_kinds.proofs.patterns.open_bits.Goals as goal

pub loop-bit-init : goal.loop-bit-init
loop-bit-init c = open_first c.args.p (width c.args.ty)

pub overflow_mul-open : goal.overflow_mul-open
overflow_mul-open c =
    let small : c.loop-bit.open < 2 ^ 32 = open_small 32 c.loop-bit.bit c.loop-bit.open
    (omega (arith, c.width-bit-end.ensures, width_small c.args.ty)) c.loop-bit.invariant.few in
    omega (arith, small)

pub overflow_add-open : goal.overflow_add-open
overflow_add-open c =
    let small : c.loop-bit.open < 2 ^ 32 = open_small 32 c.loop-bit.bit c.loop-bit.open
    (omega (arith, c.width-bit-end.ensures, width_small c.args.ty)) c.loop-bit.invariant.few in
    omega (arith, small)

pub loop-bit-preserved : goal.loop-bit-preserved
loop-bit-preserved c =
    open_differ c.args.p (width c.args.ty) c.loop-bit.bit c.loop-bit.least c.loop-bit.greatest c.loop-bit.open
    (omega (arith, c.width-bit-end.ensures)) c.if-least-greatest.false c.loop-bit.invariant

pub returns-then-least-greatest-clause-value : goal.returns-then-least-greatest-clause-value
returns-then-least-greatest-clause-value c =
    open_same c.args.p (width c.args.ty) c.loop-bit.bit c.loop-bit.least c.loop-bit.greatest c.loop-bit.open c.if-least-greatest.true c.loop-bit.invariant

pub returns-then-least-greatest-clause-few : goal.returns-then-least-greatest-clause-few
returns-then-least-greatest-clause-few c =
    let within : c.loop-bit.bit ≤ width c.args.ty = omega (arith, c.width-bit-end.ensures) in
    rw (span-pow c.args.ty) (open_small (width c.args.ty) c.loop-bit.bit c.loop-bit.open within c.loop-bit.invariant.few)

pub returns-clause-value : goal.returns-clause-value
returns-clause-value c =
    let all : c.loop-bit.bit ≡ width c.args.ty = omega (arith, c.width-bit-end.ensures) in
    open_all c.args.p (width c.args.ty) c.loop-bit.least c.loop-bit.greatest c.loop-bit.open
    (subst (λ n. IsOpenSoFar c.args.p (width c.args.ty) n c.loop-bit.least c.loop-bit.greatest c.loop-bit.open) all c.loop-bit.invariant)

pub returns-clause-few : goal.returns-clause-few
returns-clause-few c =
    let within : c.loop-bit.bit ≤ width c.args.ty = omega (arith, c.width-bit-end.ensures) in
    rw (span-pow c.args.ty) (open_small (width c.args.ty) c.loop-bit.bit c.loop-bit.open within c.loop-bit.invariant.few)
