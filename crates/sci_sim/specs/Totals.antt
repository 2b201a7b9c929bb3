-- What the banks of all kinds have counted together, at a state of a run and where it stops.
use Rattle.std.specs.Prelude.{ℕ, ◌≡◌, ◌≤◌, ◌+◌, min, true, List, if◌then◌else◌}
use Rattle.sci_net.specs.declared.Source.{Source}
use Rattle.sci_net.specs.Parts.{Parts}
use Rattle.sci_run.specs.Activity.{Activity}
use Rattle.sci_run.specs.Counts.{activations_from, all_activations}
use Rattle.sci_run.specs.Run.{State}
use Rattle.sci_bank.specs.Bank.{Meaning}
use Rattle.sci_bank.specs.Library.{IsFull, total_outs}
use Rattle.sci_store.specs.Store.{MayActivate}
use Rattle.sci_sim.specs.At.{Running, IsAt}
use Rattle.sci_sim.specs.Steps.{AreCountedToStop}

-- Where a net with its banks stands at a state of a run, the sum of what the banks have counted is how many blocks were active so far, as far as 64
-- bits go.
abbrev pub StateAddsUp : Type 0
StateAddsUp =
    (r : Running) (banks : List Meaning) (st : State) → IsFull banks → IsAt r banks st → total_outs banks ≡ min (all_activations r.fixed.net st) 18446744073709551615

-- Behind a reaction of a source, from this state, that stopped: the sum is at least how many blocks were active before, and at most one more for each
-- block that the source may activate, as far as 64 bits go.
pub record AreTotalsToStop (n : Parts) (s : Source) (st : State) (banks : List Meaning) : Type 0 where
  pub least : min (all_activations n st) 18446744073709551615 ≤ total_outs banks
  pub most : (possible : Activity) → MayActivate n s possible
      → total_outs banks ≤ min (all_activations n st + activations_from (λ s. true) 1 n.specs (λ b. if possible b then 1 else 0)) 18446744073709551615

abbrev pub StopAddsUp : Type 0
StopAddsUp = (n : Parts) (s : Source) (st : State) (banks : List Meaning) → IsFull banks → AreCountedToStop n s st banks → AreTotalsToStop n s st banks
