use Rattle.std.proofs.Common.{◌∙◌}
use Rattle.sci_ranges_find.proofs.search.Search.revive.Goals as goal

pub loop-at-preserved : goal.loop-at-preserved
loop-at-preserved c = c.revive_taken-revived.ensures ∙ c.loop-at.invariant
