use Rattle.sci_wave.specs.Noted.{IsActiveRun}
use Rattle.sci_wave.proofs.noting.run_end.Given as goal

abbrev pub invariant-loop-end : goal.invariant-loop-end
invariant-loop-end l = IsActiveRun l.ready l.blocks l.at l.end
