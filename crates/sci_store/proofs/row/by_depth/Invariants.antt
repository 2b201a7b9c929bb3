use Rattle.std.proofs.Common.{true}
use Rattle.sci_store.proofs.Ranking.{AreGathered}
use Rattle.sci_store.proofs.row.by_depth.Given as goal

-- the ranks of the entries so far
abbrev pub invariant-loop-at : goal.invariant-loop-at
invariant-loop-at l = AreGathered l.frame (λ e. true) (λ e. e.depth) l.entries l.at l.ranks.items
