use Rattle.std.proofs.Common.{sym, subst, ◌∙◌}
use Rattle.sci_reaction.specs.Schedule.{IsSchedule}
use Rattle.sci_ranges_find.proofs.finding.rounds.Goals as goal

pub round-requires-clause-rows : goal.round-requires-clause-rows
round-requires-clause-rows c = subst (IsSchedule c.args.net.now) (sym c.loop.invariant) c.requires.rows

pub returns-then-not-changed : goal.returns-then-not-changed
returns-then-not-changed c = c.in_ok-changed.ensures ∙ c.loop.invariant

pub loop-preserved : goal.loop-preserved
loop-preserved c = c.in_ok-changed.ensures ∙ c.loop.invariant

pub last_round-requires-clause-rows : goal.last_round-requires-clause-rows
last_round-requires-clause-rows c = subst (IsSchedule c.args.net.now) (sym c.loop.invariant) c.requires.rows

pub returns : goal.returns
returns c = c.in_ok-last_round.ensures ∙ c.loop.invariant
