use Rattle.std.proofs.Common.{◌∙◌}
use Rattle.sci_ranges_marks.specs.View.{marks_of}
use Rattle.sci_ranges_find.proofs.Passing.{many_rows}
use Rattle.sci_ranges_find.proofs.finding.round.Goals as goal

pub acting_blocks-requires : goal.acting_blocks-requires
acting_blocks-requires c =
    many_rows c.args.net.now (marks_of c.make_live.new.marks).rows (marks_of c.args.marks.now).rows (c.in_ok-make_live.ensures ∙ c.in_ok-mark.ensures.rows) c.requires.rows

pub returns : goal.returns
returns c = c.in_ok-changed.ensures ∙ (c.in_ok-make_live.ensures ∙ c.in_ok-mark.ensures.rows)
