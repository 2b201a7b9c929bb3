use Rattle.std.proofs.Common.{drop}
use Rattle.sci_sim.proofs.Saved.{IsProgrammedTo}
use Rattle.sci_sim.proofs.restore.saved_wheel.Given as goal

abbrev pub invariant-loop-date : goal.invariant-loop-date
invariant-loop-date l = IsProgrammedTo l.net l.now l.pending (drop l.date-index l.pending) l.wheel.meaning l.wheel.puts
