use Rattle.std.proofs.Common.{◌+◌, length}
use Rattle.sci_flat.specs.Successors.{targets}
use Rattle.sci_flat.specs.Search.{Walking, unstamped}
use Rattle.sci_flat.proofs.reach.search.FeedSearch.walk.Given as goal

abbrev pub invariant-loop-port : goal.invariant-loop-port
invariant-loop-port l = Walking (targets l.steps) l.wanted l.source l.start l.fn.self l.self

abbrev pub decreases-loop-port : goal.decreases-loop-port
decreases-loop-port l = unstamped (l.source + 1) l.self.stamps.items + length l.self.pending.items
