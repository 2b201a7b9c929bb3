use Rattle.std.proofs.Common.{sym, subst, ◌∙◌}
use Rattle.sci_reaction.specs.Schedule.{IsSchedule}
use Rattle.sci_ranges_find.proofs.finding.last_round.Goals as goal

pub round-requires-clause-rows : goal.round-requires-clause-rows
round-requires-clause-rows c = subst (IsSchedule c.args.net.now) (sym c.revive_all.ensures.rows) c.requires.rows

pub returns : goal.returns
returns c = c.in_ok-round.ensures ∙ c.revive_all.ensures.rows
