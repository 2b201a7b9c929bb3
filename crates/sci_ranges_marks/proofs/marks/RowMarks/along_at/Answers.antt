use Rattle.std.proofs.Common.{sym, ap, ◌∙◌}
use Rattle.sci_ranges_marks.specs.View.{marks_of}
use Rattle.sci_ranges_marks.proofs.Tested.{plain_of, along_is, along_none}
use Rattle.sci_ranges_marks.proofs.marks.RowMarks.along_at.Goals as goal

pub returns-in-Some : goal.returns-in-Some
returns-in-Some c =
    along_is (marks_of c.args.self.now) c.args.k c.args.other c.args.block c.in-Some.reader.now (plain_of c.entry-in-Some.result) c.acts_too.result (sym c.may_act.ensures ∙ c.if-not-may_act.false)
    (sym c.entry.ensures ∙ ap plain_of c.in-Some.is) c.entry-in-Some.ensures c.acts_too.ensures

pub returns-in-None : goal.returns-in-None
returns-in-None c =
    along_none (marks_of c.args.self.now) c.args.k c.args.other c.args.block (sym c.may_act.ensures ∙ c.if-not-may_act.false) (sym c.entry.ensures ∙ ap plain_of c.in-None.is)
