use Rattle.std.proofs.Common.{sym, ◌∙◌}
use Rattle.sci_ranges_marks.specs.View.{marks_of}
use Rattle.sci_ranges_find.proofs.Passing.{live_marks}
use Rattle.sci_ranges_find.proofs.finding.chosen.Goals as goal

pub mark_live-requires-clause-marked : goal.mark_live-requires-clause-marked
mark_live-requires-clause-marked c = c.in_ok-mark.ensures.marked

pub is_closed-requires : goal.is_closed-requires
is_closed-requires c = c.in_ok-mark_live.ensures.sound.marked.acts.rows.enough

pub returns-then-passed-clause-closed : goal.returns-then-passed-clause-closed
returns-then-passed-clause-closed c = sym c.in_ok-passed.ensures ∙ c.if-passed.true

pub returns-then-passed-clause-marks : goal.returns-then-passed-clause-marks
returns-then-passed-clause-marks c =
    let s = c.in_ok-mark_live.ensures in live_marks c.args.net.now (marks_of c.mark_live.new.marks) c.well_formed-2.ensures c.requires.free s.sound.marked s.all

pub returns-then-passed-clause-live : goal.returns-then-passed-clause-live
returns-then-passed-clause-live c = c.in_ok-mark_live.ensures.sound.live

pub widest-requires-clause-rows : goal.widest-requires-clause-rows
widest-requires-clause-rows c = c.in_ok-mark_live.ensures.sound.marked.acts.rows
