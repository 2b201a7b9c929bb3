use Rattle.std.proofs.Common.{◌≡◌, ◌+◌, ℕ, true, length, sym, ◌∙◌, subst, arith}
use Rattle.sci_ranges_rows.specs.Tests.{all_below}
use Rattle.sci_ranges_marks.specs.View.{marks_of}
use Rattle.sci_ranges_marks.proofs.Rowed.{below_more, below_fails}
use Rattle.sci_ranges_pass.specs.Pass.{holds_block}
use Rattle.sci_ranges_find.specs.View.{ranges_of}
use Rattle.sci_ranges_find.proofs.pass.is_closed.Goals as goal

pub returns-then-not-holds : goal.returns-then-not-holds
returns-then-not-holds c =
    sym (below_fails (λ b. holds_block c.args.net.now c.args.inputs.now (marks_of c.args.marks.now) (ranges_of c.args.table.now) (b + 1)) (length c.args.net.now.specs) c.loop-at.at
    (omega (arith, c.loop-at-test.true, c.len-at-end.ensures)) (sym c.in_ok-holds.ensures ∙ c.if-not-holds.true))

pub loop-at-preserved : goal.loop-at-preserved
loop-at-preserved c =
    below_more (λ b. holds_block c.args.net.now c.args.inputs.now (marks_of c.args.marks.now) (ranges_of c.args.table.now) (b + 1)) c.loop-at.at c.loop-at.invariant
    (sym c.in_ok-holds.ensures ∙ c.if-not-holds.false)

pub returns : goal.returns
returns c =
    let most = c.loop-at.auto.at-end in
    let all : c.loop-at.at ≡ length c.args.net.now.specs = omega (arith, c.loop-at-test.false, most, c.len-at-end.ensures) in
    sym (subst (λ (j : ℕ). all_below (λ b. holds_block c.args.net.now c.args.inputs.now (marks_of c.args.marks.now) (ranges_of c.args.table.now) (b + 1)) j ≡ true) all c.loop-at.invariant)
