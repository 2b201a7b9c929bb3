use Rattle.sci_net.specs.Parts.{rows_of}
use Rattle.sci_flat.specs.Lists.{lists_of}
use Rattle.sci_flat.specs.Wired.{AllWired}
use Rattle.sci_flat.proofs.wires.wires.Given as goal

abbrev pub invariant-loop-block : goal.invariant-loop-block
invariant-loop-block l = AllWired l.feeding.feeds.items (lists_of l.feeding.lists) l.seats l.specs l.block (rows_of l.rows.items)
