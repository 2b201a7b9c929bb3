use Rattle.std.proofs.Common.{[]}
use Rattle.sci_net.specs.Parts.{rows_of}
use Rattle.sci_store.specs.Store.{state_of}
use Rattle.sci_sim.proofs.Listed.{IsListedTo}
use Rattle.sci_sim.proofs.image.states.Given as goal

abbrev pub invariant-loop-block : goal.invariant-loop-block
invariant-loop-block g l = IsListedTo [] (state_of l.kept.fixed l.lib) l.block (rows_of l.states.items)
