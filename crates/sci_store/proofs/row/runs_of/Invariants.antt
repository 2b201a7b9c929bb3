use Rattle.std.proofs.Common.{ℕ, List, All}
use Rattle.sci_reaction.specs.declared.entry.Entry.{Entry}
use Rattle.sci_store.specs.Rows.{IsRun}
use Rattle.sci_store.specs.Ranks.{AreRanksOf}
use Rattle.sci_store.proofs.Joining.{IsJoinedTo}
use Rattle.sci_store.proofs.row.runs_of.Given as goal

-- the runs of the ranks before the start of the one in hand
abbrev pub invariant-loop-at : goal.invariant-loop-at
invariant-loop-at l = record {
  joined : IsJoinedTo l.order l.at l.start l.entries l.runs.items;
  runs_are : (depth : Entry → ℕ) (es : List Entry) → AreRanksOf l.frame depth es l.order → All (IsRun l.frame depth es) l.runs.items;
}
