use Rattle.std.proofs.Common.{sym, ap, ◌∙◌}
use Rattle.sci_ranges_marks.specs.View.{marks_of}
use Rattle.sci_ranges_marks.proofs.Tested.{plain_of, fed_too_is}
use Rattle.sci_ranges_marks.proofs.marks.RowMarks.fed_too.Goals as goal

pub returns-then-not-has_bit : goal.returns-then-not-has_bit
returns-then-not-has_bit c =
    fed_too_is (marks_of c.args.self.now) c.args.k (plain_of c.args.feeder) c.in-Some.a.now c.args.reader.now c.args.p c.deref.result.now c.deref-then-not-has_bit.result.now
    c.covers_all_fed.result (ap plain_of c.in-Some.is) c.if-a.false (sym c.if-not-has_bit.true ∙ c.has_bit.ensures) c.deref.ensures.value c.deref-then-not-has_bit.ensures.value
    c.covers_all_fed.ensures
