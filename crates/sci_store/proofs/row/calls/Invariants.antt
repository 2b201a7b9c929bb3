use Rattle.std.proofs.Common.{◌≡◌, ℕ, List, map, take}
use Rattle.sci_reaction.specs.declared.entry.Entry.{Entry}
use Rattle.sci_store.specs.Rows.{call_of}
use Rattle.sci_store.specs.Ranks.{AreRanksOf, AreAt}
use Rattle.sci_store.proofs.row.calls.Given as goal

-- the calls of the ranks so far
abbrev pub invariant-loop-rank : goal.invariant-loop-rank
invariant-loop-rank l = (depth : Entry → ℕ) (sorted : List Entry) → AreRanksOf l.frame depth sorted l.order → AreAt l.entries l.order sorted
    → l.calls.items ≡ map (call_of l.frame) (take l.rank-index sorted)
