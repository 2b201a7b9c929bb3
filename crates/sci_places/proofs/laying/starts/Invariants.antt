use Rattle.std.proofs.Common.{◌≡◌, ℕ, ◌≤◌, ◌+◌, length, get_or}
use Rattle.sci_places.specs.Flat.{start_in}
use Rattle.sci_places.proofs.laying.starts.Given as goal

abbrev pub invariant-loop-block : goal.invariant-loop-block
invariant-loop-block l = record {
  start : l.start ≡ start_in l.net.specs l.block;
  long : length l.starts.items ≡ l.block + 1;
  each : (k : ℕ) → k ≤ l.block → get_or l.starts.items k 0 ≡ start_in l.net.specs k;
}
