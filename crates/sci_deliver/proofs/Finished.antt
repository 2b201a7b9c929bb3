-- A run that is finished has stopped where its trace tells a stop.
use Rattle.std.proofs.Common.{◌≡◌, ℕ, List}
use Rattle.sci_base.specs.declared.observation.Obs.{Obs}
use Rattle.sci_trace.specs.Lines.{stops}
use Rattle.sci_reaction.specs.Memory.{Columns}
use Rattle.sci_bank.specs.Bank.{Meaning}
use Rattle.sci_sim.specs.At.{Running}
use Rattle.sci_sim.specs.Steps.{IsFinished}
use Rattle.sci_sim.specs.declared.end.RunEnd.{RunEnd}
use Rattle.sci_sim.specs.declared.end.RunEnd.TheVariants.{End as Ended, Stop as Stopped}
use Rattle.sci_deliver.specs.Deliver.{is_stopped}
use Rattle.sci_answers.proofs.Traced.{by_stop, finish_stops}

pub finished_stops : (i : Columns) (until limit : ℕ) (r : Running) (banks : List Meaning) (os : List Obs) (end : RunEnd) → IsFinished i until limit r banks os end → stops os ≡ is_stopped end
unfolding by_stop
finished_stops i until limit r banks os (Ended word) h = finish_stops r.fixed.net i until limit h.1
finished_stops i until limit r banks os (Stopped word) h = finish_stops r.fixed.net i until limit h.2
