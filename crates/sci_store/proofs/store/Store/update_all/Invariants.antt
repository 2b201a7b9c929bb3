use Rattle.std.proofs.Common.{take}
use Rattle.sci_store.specs.Runs.{AreStepped, called_blocks}
use Rattle.sci_store.proofs.StateRuns.{end_behind}
use Rattle.sci_store.proofs.store.Store.update_all.Given as goal

-- the blocks of the runs so far are stepped
abbrev pub invariant-loop-run : goal.invariant-loop-run
invariant-loop-run g l =
    AreStepped l.frame (called_blocks (take (end_behind 0 (take l.run-index l.row.state_runs)) l.row.state_calls)) l.initial.self l.self l.initial.lib l.lib
