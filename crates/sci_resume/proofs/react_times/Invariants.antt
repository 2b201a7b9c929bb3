use Rattle.std.proofs.Common.{None, false}
use Rattle.sci_io.specs.Taken.{direct}
use Rattle.sci_sim.proofs.Runs.{IsOnWay}
use Rattle.sci_resume.proofs.react_times.Given as goal

abbrev pub invariant-loop-done : goal.invariant-loop-done
invariant-loop-done g l =
    IsOnWay l.fn.ins l.fn.until l.fn.limit l.fn.ready l.ready l.lib (direct None 0 false) (direct None 0 false) l.done
