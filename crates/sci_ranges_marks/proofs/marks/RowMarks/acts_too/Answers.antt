use Rattle.std.proofs.Common.{ap}
use Rattle.sci_ranges_marks.specs.View.{marks_of}
use Rattle.sci_ranges_marks.proofs.Tested.{plain_of, acts_too_is}
use Rattle.sci_ranges_marks.proofs.marks.RowMarks.acts_too.Goals as goal

pub returns-then-not-reader : goal.returns-then-not-reader
returns-then-not-reader c =
    acts_too_is (marks_of c.args.self.now) c.args.k (plain_of c.args.feeder) c.in-Some.a.now c.args.reader.now c.deref.result.now c.deref-then-not-reader.result.now c.covers_all.result
    (ap plain_of c.in-Some.is) c.if-a.false c.if-not-reader.true c.deref.ensures.value c.deref-then-not-reader.ensures.value c.covers_all.ensures
