use Rattle.std.proofs.Common.{sym, subst}
use Rattle.sci_reaction.specs.Schedule.{IsSchedule}
use Rattle.sci_ranges_find.proofs.finding.passing.Goals as goal

pub chosen-requires-clause-rows : goal.chosen-requires-clause-rows
chosen-requires-clause-rows c = subst (IsSchedule c.args.net.now) (sym c.in_ok-found.ensures) c.requires.rows
