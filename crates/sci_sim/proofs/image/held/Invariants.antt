use Rattle.std.proofs.Common.{[]}
use Rattle.sci_net.specs.Parts.{rows_of}
use Rattle.sci_places.specs.Flat.{values_at}
use Rattle.sci_sim.proofs.Listed.{IsListedTo}
use Rattle.sci_sim.proofs.image.held.Given as goal

abbrev pub invariant-loop-block : goal.invariant-loop-block
invariant-loop-block l = IsListedTo [] (values_at l.kept.fixed.net l.kept.store.values) l.block (rows_of l.held.items)
