-- What the banks have counted, all together.
use Rattle.std.specs.Prelude.{ℕ, ◌≡◌, ◌≤◌, ◌+◌, true, List, if◌then◌else◌}
use Rattle.sci_base.specs.declared.limits.TheConstants.{EVENTS}
use Rattle.sci_net.specs.Parts.{Parts}
use Rattle.sci_net.specs.Net.{IsNet}
use Rattle.sci_reaction.specs.Memory.{Columns}
use Rattle.sci_net.specs.Sources.{source_of}
use Rattle.sci_run.specs.Activity.{Activity}
use Rattle.sci_run.specs.Counts.{activations_from, all_activations}
use Rattle.sci_run.specs.Run.{State}
use Rattle.sci_store.specs.Store.{MayActivate}
use Rattle.sci_bank.specs.Bank.{Meaning}
use Rattle.sci_bank.specs.Library.{IsFull, total_outs}
use Rattle.sci_answers.specs.Counts.{CountsEnded, CountsStopped}

-- Where the run of a net of at most 1,000,000 events has ended, the sum of what the banks of all kinds have counted is how many blocks were active, over all its
-- reactions.
abbrev pub CountsAddUp : Type 0
CountsAddUp =
    (n : Parts) (i : Columns) (until limit : ℕ) (banks : List Meaning) → IsNet n → limit ≤ EVENTS → IsFull banks → (h : CountsEnded n i until limit banks)
    → total_outs banks ≡ all_activations n h.last

-- Behind a reaction of a source, from this state, that stopped the run: the sum is at least how many blocks were active in the reactions before, and
-- at most one more for each block that the source may activate.
pub record AreStoppedWithin (n : Parts) (source : ℕ) (from : State) (banks : List Meaning) : Type 0 where
  pub least : all_activations n from ≤ total_outs banks
  pub most : (possible : Activity) → MayActivate n (source_of n source) possible
      → total_outs banks ≤ all_activations n from + activations_from (λ s. true) 1 n.specs (λ b. if possible b then 1 else 0)

abbrev pub StoppedCountsAddUp : Type 0
StoppedCountsAddUp =
    (n : Parts) (i : Columns) (until limit : ℕ) (banks : List Meaning) → IsNet n → limit ≤ EVENTS → IsFull banks → (h : CountsStopped n i until limit banks)
    → AreStoppedWithin n h.source h.from banks
