use Rattle.std.proofs.Common.{sym, subst, ◌∙◌}
use Rattle.sci_reaction.specs.Schedule.{IsSchedule}
use Rattle.sci_ranges_marks.specs.View.{marks_of, lists_of}
use Rattle.sci_ranges_find.proofs.Passing.{many_rows}
use Rattle.sci_ranges_find.proofs.finding.searched.Goals as goal

pub rounds-requires-clause-rows : goal.rounds-requires-clause-rows
rounds-requires-clause-rows c = subst (IsSchedule c.args.net.now) (sym c.in_ok-marks.ensures) c.requires.rows

pub acting_blocks-requires : goal.acting_blocks-requires
acting_blocks-requires c =
    many_rows c.args.net.now (marks_of c.rounds.new.marks).rows (lists_of c.args.rows.items) (c.in_ok-rounds.ensures ∙ c.in_ok-marks.ensures) c.requires.rows

pub returns : goal.returns
returns c = c.in_ok-rounds.ensures ∙ c.in_ok-marks.ensures
