use Rattle.std.proofs.Common.{◌≡◌, ℕ, true, length, sym, ◌∙◌, subst, arith}
use Rattle.sci_ranges_rows.specs.Tests.{all_below, shows_at}
use Rattle.sci_ranges_marks.specs.View.{marks_of}
use Rattle.sci_ranges_marks.proofs.Rowed.{below_more, below_fails}
use Rattle.sci_ranges_marks.proofs.marks.RowMarks.is_shown.Goals as goal

pub returns-then-not-shows_at : goal.returns-then-not-shows_at
returns-then-not-shows_at c =
    sym (below_fails (λ k. shows_at c.args.net.now (marks_of c.args.self.now) k c.args.block c.args.p) (length (marks_of c.args.self.now).rows) c.loop-k.k
    (omega (arith, c.loop-k-test.true, c.source_count-k-end.ensures, c.requires.rows)) (sym c.shows_at.ensures ∙ c.if-not-shows_at.true))

pub loop-k-preserved : goal.loop-k-preserved
loop-k-preserved c =
    below_more (λ k. shows_at c.args.net.now (marks_of c.args.self.now) k c.args.block c.args.p) c.loop-k.k c.loop-k.invariant (sym c.shows_at.ensures ∙ c.if-not-shows_at.false)

pub returns : goal.returns
returns c =
    let all : c.loop-k.k ≡ length (marks_of c.args.self.now).rows =
    let most = c.loop-k.auto.k-end in omega (arith, c.loop-k-test.false, most, c.source_count-k-end.ensures, c.requires.rows) in
    sym (subst (λ (j : ℕ). all_below (λ k. shows_at c.args.net.now (marks_of c.args.self.now) k c.args.block c.args.p) j ≡ true) all c.loop-k.invariant)
