use Rattle.std.proofs.Common.{◌≡◌, take}
use Rattle.sci_store.specs.Store.{state_of}
use Rattle.sci_sim.proofs.image.state.Given as goal

abbrev pub invariant-loop-at : goal.invariant-loop-at
invariant-loop-at g l = l.values.items ≡ take l.at (state_of l.kept.fixed l.lib l.block)
