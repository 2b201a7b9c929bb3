use Rattle.sci_flat.proofs.Leading.{Turning}
use Rattle.sci_flat.proofs.reach.search.FeedSearch.visit_all.Given as goal

abbrev pub invariant-loop-next : goal.invariant-loop-next
invariant-loop-next l = Turning l.steps l.wanted l.source l.port l.fn.self l.self l.next

abbrev pub decreases-loop-next : goal.decreases-loop-next
decreases-loop-next l = l.next
