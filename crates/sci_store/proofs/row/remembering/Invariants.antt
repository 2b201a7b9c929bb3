use Rattle.sci_forms.specs.Form.{remembers}
use Rattle.sci_store.specs.Frame.{seat_of}
use Rattle.sci_store.proofs.Ranking.{AreGathered}
use Rattle.sci_store.proofs.row.remembering.Given as goal

-- the ranks of those of the entries so far that remember
abbrev pub invariant-loop-at : goal.invariant-loop-at
invariant-loop-at l = AreGathered l.frame (λ e. remembers (seat_of l.frame e.block).kind) (λ e. 0) l.entries l.at l.ranks.items
