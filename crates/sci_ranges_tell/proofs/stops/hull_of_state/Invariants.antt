use Rattle.std.proofs.Common.{◌≡◌}
use Rattle.sci_ranges_text.specs.Text.{state_hull}
use Rattle.sci_ranges_tell.proofs.stops.hull_of_state.Given as goal

-- the hull so far
abbrev pub invariant-loop-k : goal.invariant-loop-k
invariant-loop-k l = l.all ≡ state_hull l.state l.k
