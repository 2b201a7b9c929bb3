use Rattle.std.proofs.Common.{take}
use Rattle.sci_ranges_base.proofs.Hulls.{IsHullSoFar}
use Rattle.sci_ranges_base.proofs.interval.hull_of.Given as goal

abbrev pub invariant-loop-v : goal.invariant-loop-v
invariant-loop-v l = IsHullSoFar (take l.v-index l.values) l.all
