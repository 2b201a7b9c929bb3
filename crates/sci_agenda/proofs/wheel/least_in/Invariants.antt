use Rattle.std.proofs.Common.{length}
use Rattle.sci_links.specs.Table.{chain}
use Rattle.sci_agenda.specs.Chained.{from}
use Rattle.sci_agenda.proofs.Least.{IsBest}
use Rattle.sci_agenda.proofs.wheel.least_in.Given as goal

abbrev pub invariant-loop-at : goal.invariant-loop-at
invariant-loop-at l = IsBest l.dates (chain l.links l.list) l.at l.best

abbrev pub decreases-loop-at : goal.decreases-loop-at
decreases-loop-at l = length (from l.at (chain l.links l.list))
