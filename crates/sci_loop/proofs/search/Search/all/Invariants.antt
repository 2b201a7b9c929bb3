use Rattle.std.proofs.Common.{ℕ, ◌≡◌, ◌<◌, [], get_or, true, false}
use Rattle.sci_loop.specs.Progress.{IsSettling, IsSearch}
use Rattle.sci_loop.proofs.search.Search.all.Given as goal

abbrev pub invariant-loop-start : goal.invariant-loop-start
invariant-loop-start l = record {
  search : IsSearch l.table l.self;
  order : IsSettling l.table l.self.settled.items l.self.order.items;
  trail : l.self.trail.items ≡ [];
  done : (i : ℕ) → i < l.start → get_or l.self.settled.items i false ≡ true;
}
