use Rattle.std.proofs.Common.{sym, ap, ◌∙◌}
use Rattle.sci_ranges_marks.specs.View.{marks_of}
use Rattle.sci_ranges_marks.proofs.Tested.{plain_of, under_is}
use Rattle.sci_ranges_marks.proofs.marks.RowMarks.under_at.Goals as goal

pub returns-then-not-entry : goal.returns-then-not-entry
returns-then-not-entry c =
    under_is (marks_of c.args.self.now) c.args.branch c.args.k c.args.block c.in-Some.entry.now c.deref.result.now c.are_branch.result (sym c.may_act.ensures ∙ c.if-not-may_act.false)
    (sym c.entry.ensures ∙ ap plain_of c.in-Some.is) c.if-not-entry.true c.deref.ensures.value c.are_branch.ensures
