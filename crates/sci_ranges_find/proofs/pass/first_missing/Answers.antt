use Rattle.std.proofs.Common.{◌≡◌, ℕ, true, length, sym, ◌∙◌, subst, arith}
use Rattle.sci_ranges_rows.specs.Tests.{all_below}
use Rattle.sci_ranges_marks.specs.View.{marks_of}
use Rattle.sci_ranges_marks.proofs.Rowed.{below_more}
use Rattle.sci_ranges_find.specs.View.{marked_place}
use Rattle.sci_ranges_find.proofs.pass.first_missing.Goals as goal

pub returns-then-not-marks_place : goal.returns-then-not-marks_place
returns-then-not-marks_place c = record {
  within = omega (arith, c.loop-place-test.true, c.source_count-place-end.ensures);
  missing = sym c.marks_place.ensures ∙ c.if-not-marks_place.true;
}

pub loop-place-preserved : goal.loop-place-preserved
loop-place-preserved c = below_more (marked_place c.args.net.now (marks_of c.args.marks.now)) c.loop-place.place c.loop-place.invariant (sym c.marks_place.ensures ∙ c.if-not-marks_place.false)

pub returns : goal.returns
returns c =
    let all : c.loop-place.place ≡ length (marks_of c.args.marks.now).rows =
    let most = c.loop-place.auto.place-end in omega (arith, c.loop-place-test.false, most, c.source_count-place-end.ensures, c.requires) in
    subst (λ (j : ℕ). all_below (marked_place c.args.net.now (marks_of c.args.marks.now)) j ≡ true) all c.loop-place.invariant
