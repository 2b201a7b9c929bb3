use Rattle.sci_store.specs.Frame.{IsFrame}
use Rattle.sci_store.proofs.InPass.{IsInPass}
use Rattle.sci_store.proofs.store.Store.pass.Given as goal

-- the runs so far are done, and the stop of the depth is the one that was found
abbrev pub invariant-loop-run : goal.invariant-loop-run
invariant-loop-run g l = (frame : IsFrame l.frame) → IsInPass l.frame frame l.inputs l.row l.run-index l.initial.self l.self l.initial.lib l.lib l.stop
