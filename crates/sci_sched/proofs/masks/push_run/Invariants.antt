use Rattle.std.proofs.Common.{ℕ, ◌≤◌, ◌-◌, List, length, take, Contains}
use Rattle.sci_sched.specs.Guards.{AreGuards}
use Rattle.sci_sched.proofs.masks.push_run.Given as goal

abbrev pub invariant-loop-at : goal.invariant-loop-at
invariant-loop-at l = record {
  begins : l.from ≤ l.at;
  within : l.at ≤ length l.branches;
  guards : (possible : List ℕ) → Contains possible l.condition → AreGuards l.net possible (take l.from l.branches) l.block l.initial.guards.items
      → AreGuards l.net possible (take l.at l.branches) l.block l.guards.items;
}

abbrev pub decreases-loop-at : goal.decreases-loop-at
decreases-loop-at l = length l.branches - l.at
