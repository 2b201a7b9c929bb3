use Rattle.std.proofs.Common.{◌≡◌, ℕ, true, length, sym, ◌∙◌, subst, arith}
use Rattle.sci_net.specs.Sources.{source_of}
use Rattle.sci_ranges_rows.specs.Tests.{all_below}
use Rattle.sci_ranges_marks.specs.View.{marks_of}
use Rattle.sci_ranges_marks.proofs.Rowed.{below_more, below_fails}
use Rattle.sci_ranges_pass.specs.Pass.{marks_programmed}
use Rattle.sci_ranges_find.proofs.pass.marks_by_all.Goals as goal

pub returns-then-not-marks_programmed : goal.returns-then-not-marks_programmed
returns-then-not-marks_programmed c =
    sym (below_fails (λ k. marks_programmed c.args.net.now (marks_of c.args.marks.now) k c.args.place (source_of c.args.net.now c.args.place)) (length (marks_of c.args.marks.now).rows) c.loop-by.by (omega (arith, c.loop-by-test.true, c.sources-by-end.ensures))
    (sym c.marks_programmed.ensures ∙ c.if-not-marks_programmed.true))

pub loop-by-preserved : goal.loop-by-preserved
loop-by-preserved c = below_more (λ k. marks_programmed c.args.net.now (marks_of c.args.marks.now) k c.args.place (source_of c.args.net.now c.args.place)) c.loop-by.by c.loop-by.invariant (sym c.marks_programmed.ensures ∙ c.if-not-marks_programmed.false)

pub returns : goal.returns
returns c =
    let all : c.loop-by.by ≡ length (marks_of c.args.marks.now).rows = let most = c.loop-by.auto.by-end in omega (arith, c.loop-by-test.false, most, c.sources-by-end.ensures) in
    sym (subst (λ (j : ℕ). all_below (λ k. marks_programmed c.args.net.now (marks_of c.args.marks.now) k c.args.place (source_of c.args.net.now c.args.place)) j ≡ true) all c.loop-by.invariant)
