use Rattle.std.proofs.Common.{◌≡◌, ℕ, true, length, sym, ◌∙◌, subst, arith}
use Rattle.std.proofs.lemmas.List.{length-map}
use Rattle.sci_ranges_rows.specs.Tests.{all_below, under_at}
use Rattle.sci_ranges_marks.specs.View.{marks_of, row_of}
use Rattle.sci_ranges_marks.proofs.Rowed.{below_more, below_fails}
use Rattle.sci_ranges_marks.proofs.marks.RowMarks.is_under.Goals as goal

pub returns-then-not-under_at : goal.returns-then-not-under_at
returns-then-not-under_at c =
    let len = length-map c.args.self.now.rows.items row_of in
    sym (below_fails (λ k. under_at (marks_of c.args.self.now) c.args.branch k c.args.block) (length (marks_of c.args.self.now).rows) c.loop-k.k
    (omega (arith, c.loop-k-test.true, c.len-k-end.ensures, len, c.args.self.now.rows.ok.0)) (sym c.under_at.ensures ∙ c.if-not-under_at.true))

pub loop-k-preserved : goal.loop-k-preserved
loop-k-preserved c =
    below_more (λ k. under_at (marks_of c.args.self.now) c.args.branch k c.args.block) c.loop-k.k c.loop-k.invariant (sym c.under_at.ensures ∙ c.if-not-under_at.false)

pub returns : goal.returns
returns c =
    let len = length-map c.args.self.now.rows.items row_of in
    let all : c.loop-k.k ≡ length (marks_of c.args.self.now).rows =
    let most = c.loop-k.auto.k-end in omega (arith, c.loop-k-test.false, most, c.len-k-end.ensures, len, c.args.self.now.rows.ok.0) in
    sym (subst (λ (j : ℕ). all_below (λ k. under_at (marks_of c.args.self.now) c.args.branch k c.args.block) j ≡ true) all c.loop-k.invariant)
