use Rattle.std.proofs.Common.{take}
use Rattle.sci_store.specs.Runs.{AreStepped, called_blocks}
use Rattle.sci_store.proofs.store.Store.update_alone.Given as goal

-- the active ones of the blocks so far are stepped
abbrev pub invariant-loop-call : goal.invariant-loop-call
invariant-loop-call g l = AreStepped l.frame (take l.call-index (called_blocks l.calls)) l.initial.self l.self l.initial.lib l.lib
