use Rattle.std.proofs.Common.{◌≡◌, ◌∙◌, ◌-◌, ◌%◌, pos, sym, ap, arith}
use Rattle.sci_ranges_rules.specs.Words.{allows, may_be_digit}
use Rattle.sci_ranges_kinds.proofs.Looping.{allows_more, allows_fails}
use Rattle.sci_ranges_kinds.proofs.truths.allows.Goals as goal

pub loop-k-init : goal.loop-k-init
loop-k-init c =
    let all : c.args.n ≡ c.args.n - 0 = omega arith in
    ap (λ n. allows c.args.ins.now n c.args.row) all

pub loop-k-preserved : goal.loop-k-preserved
loop-k-preserved c =
    let digit = ap (λ o. may_be_digit o (pos (c.loop-k.digits % 2))) (sym c.range_at.ensures) ∙ sym c.may_be_digit.ensures ∙ c.if-may_be_digit.true in
    allows_more c.args.ins.now c.args.n c.loop-k.k c.args.row c.loop-k.digits (omega arith) c.loop-k.invariant digit

pub returns-else-may_be_digit : goal.returns-else-may_be_digit
returns-else-may_be_digit c =
    let digit = ap (λ o. may_be_digit o (pos (c.loop-k.digits % 2))) (sym c.range_at.ensures) ∙ sym c.may_be_digit.ensures ∙ c.if-may_be_digit.false in
    sym (allows_fails c.args.ins.now c.args.n c.loop-k.k c.args.row c.loop-k.digits (omega arith) c.loop-k.invariant digit)

pub returns : goal.returns
returns c =
    let none : c.args.n - c.loop-k.k ≡ 0 = omega arith in
    sym (c.loop-k.invariant ∙ ap (λ n. allows c.args.ins.now n c.loop-k.digits) none)
