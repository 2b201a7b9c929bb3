use Rattle.std.proofs.Common.{◌≡◌, ℕ, true, not, length, sym, ap, ◌∙◌, subst, arith}
use Rattle.sci_ranges_rows.specs.Marks.{may_act}
use Rattle.sci_ranges_rows.specs.Tests.{all_below}
use Rattle.sci_ranges_marks.specs.View.{marks_of}
use Rattle.sci_ranges_marks.proofs.Rowed.{below_more, below_fails}
use Rattle.sci_ranges_find.proofs.pass.is_possible.Goals as goal

pub returns-then-may_act : goal.returns-then-may_act
returns-then-may_act c =
    ap not (sym (below_fails (λ k. not (may_act (marks_of c.args.marks.now) k c.args.block)) (length (marks_of c.args.marks.now).rows) c.loop-k.k (omega (arith, c.loop-k-test.true, c.sources-k-end.ensures))
    (ap not (sym c.may_act.ensures ∙ c.if-may_act.true))))

pub loop-k-preserved : goal.loop-k-preserved
loop-k-preserved c = below_more (λ k. not (may_act (marks_of c.args.marks.now) k c.args.block)) c.loop-k.k c.loop-k.invariant (ap not (sym c.may_act.ensures ∙ c.if-may_act.false))

pub returns : goal.returns
returns c =
    let all : c.loop-k.k ≡ length (marks_of c.args.marks.now).rows = let most = c.loop-k.auto.k-end in omega (arith, c.loop-k-test.false, most, c.sources-k-end.ensures) in
    ap not (sym (subst (λ (j : ℕ). all_below (λ k. not (may_act (marks_of c.args.marks.now) k c.args.block)) j ≡ true) all c.loop-k.invariant))
