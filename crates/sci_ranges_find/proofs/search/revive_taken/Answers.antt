use Rattle.std.proofs.Common.{◌∙◌}
use Rattle.sci_ranges_find.proofs.search.revive_taken.Goals as goal

pub loop-p-preserved : goal.loop-p-preserved
loop-p-preserved c = c.revive_branch-revived.ensures ∙ c.loop-p.invariant
