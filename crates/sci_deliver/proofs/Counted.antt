-- What the banks have counted behind a run that is written.
use Rattle.std.proofs.Common.{ℕ, List, arith, Result, Ok, Err}
use Rattle.std.specs.Prelude.{IfOk}
use Rattle.sci_io.specs.declared.sink.Failed.{Failed}
use Rattle.sci_io.specs.Taken.{SinkState}
use Rattle.sci_bank.specs.Bank.{Meaning}
use Rattle.sci_sim.specs.declared.end.RunEnd.{RunEnd}
use Rattle.sci_answers.specs.Answer.{IsDone}
use Rattle.sci_answers.specs.Counts.{CountsRun}
use Rattle.sci_deliver.specs.Deliver.{Finished}
use Rattle.sci_answers.specs.declared.prepared.Simulation.{Simulation}
use Rattle.sci_answers.proofs.Ends.{undone}
use Rattle.sci_deliver.proofs.Giving.{fault_told}

-- a simulation that was done was run to its end
pub done_counts : (s : Simulation) (banks : List Meaning) (err err' : SinkState) (answer : ℕ) (r : Result RunEnd Failed) → Finished r err err' answer
    → IfOk r (λ e. CountsRun s.ready.fixed.net s.inputs s.until s.limit banks) → IsDone answer → CountsRun s.ready.fixed.net s.inputs s.until s.limit banks
done_counts s banks err err' answer (Ok e) finished counts done = counts
done_counts s banks err err' answer (Err e) finished counts done =
    let told = fault_told err err' answer finished in
    absurd (undone answer (omega (arith, told.0)) (omega (arith, told.0)) done)
