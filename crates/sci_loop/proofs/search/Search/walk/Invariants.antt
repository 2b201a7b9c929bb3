use Rattle.std.proofs.Common.{◌≡◌, ◌<◌, length, get_or, true, false}
use Rattle.sci_loop.specs.Progress.{IsSettling, IsSearch, SettledStay, left}
use Rattle.sci_loop.proofs.search.Search.walk.Given as goal

abbrev pub invariant-loop-self : goal.invariant-loop-self
invariant-loop-self l = record {
  search : IsSearch l.table l.self;
  order : IsSettling l.table l.self.settled.items l.self.order.items;
  stay : SettledStay l.fn.self l.self;
  first : 0 < length l.self.trail.items → get_or l.self.trail.items 0 0 ≡ l.start;
  last : length l.self.trail.items ≡ 0 → get_or l.self.settled.items l.start false ≡ true;
}

abbrev pub decreases-loop-self : goal.decreases-loop-self
decreases-loop-self l = left l.table l.self
