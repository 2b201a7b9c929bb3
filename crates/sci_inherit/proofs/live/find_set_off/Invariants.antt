use Rattle.std.proofs.Common.{◌≡◌, ◌↔◌, ℕ}
use Rattle.std.specs.Prelude.{Contains}
use Rattle.sci_inherit.specs.Live.{SetOffUpto}
use Rattle.sci_inherit.proofs.live.find_set_off.Given as goal

abbrev pub invariant-loop-at : goal.invariant-loop-at
invariant-loop-at l = record {
  count : l.walk.count ≡ l.fn.walk.count;
  found : (b : ℕ) → Contains l.walk.found b ↔ SetOffUpto l.net l.at b;
}
