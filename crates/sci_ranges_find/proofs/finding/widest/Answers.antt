use Rattle.std.proofs.Common.{sym, subst, ◌∙◌}
use Rattle.sci_reaction.specs.Schedule.{IsSchedule}
use Rattle.sci_ranges_pass.proofs.Widest.{widest_passes}
use Rattle.sci_ranges_marks.specs.View.{marks_of}
use Rattle.sci_ranges_find.specs.View.{ranges_of}
use Rattle.sci_ranges_find.proofs.Passing.{none_dead, live_marks}
use Rattle.sci_ranges_find.proofs.finding.widest.Goals as goal

pub mark-requires-clause-rows : goal.mark-requires-clause-rows
mark-requires-clause-rows c = subst (IsSchedule c.args.net.now) (sym c.revive_all.ensures.rows) c.requires.rows

pub mark_live-requires-clause-marked : goal.mark_live-requires-clause-marked
mark_live-requires-clause-marked c = c.in_ok-mark.ensures.marked

pub returns-clause-closed : goal.returns-clause-closed
returns-clause-closed c =
    widest_passes c.args.net.now c.args.inputs.now (marks_of c.mark_live.new.marks) (ranges_of c.in_ok-table.table) c.well_formed-2.ensures c.requires.columns
    (none_dead (marks_of c.mark_live.new.marks) (c.in_ok-mark_live.ensures.dead ∙ (c.in_ok-mark.ensures.dead ∙ c.revive_all.ensures.dead))) c.in_ok-table.ensures

pub returns-clause-marks : goal.returns-clause-marks
returns-clause-marks c =
    let s = c.in_ok-mark_live.ensures in live_marks c.args.net.now (marks_of c.mark_live.new.marks) c.well_formed-2.ensures c.requires.free s.sound.marked s.all

pub returns-clause-live : goal.returns-clause-live
returns-clause-live c = c.in_ok-mark_live.ensures.sound.live
