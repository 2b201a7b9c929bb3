-- What the steps of a reaction come to, whichever source's row it is, and whichever memory is shown.
use Rattle.std.specs.Prelude.{◌≡◌, ℕ, Bool, List, Option}
use Rattle.sci_base.specs.declared.observation.Obs.{Obs}
use Rattle.sci_base.specs.declared.observation.StopWord.{StopWord}
use Rattle.sci_forms.specs.Form.{is_halt}
use Rattle.sci_net.specs.declared.Source.{Source}
use Rattle.sci_reaction.specs.Depends.{IsLoopFree}
use Rattle.sci_reaction.specs.Memory.{Memory, Columns, IsMemory}
use Rattle.sci_reaction.specs.Equations.{Signals}
use Rattle.sci_run.specs.Activity.{Activity, IsActivity, halts}
use Rattle.sci_run.specs.Observed.{blocks_seen}
use Rattle.sci_bank.specs.Bank.{Meaning}
use Rattle.sci_store.specs.Frame.{Fixed}
use Rattle.sci_store.specs.Store.{Standing, ShowsMemory, ShowsValues}
use Rattle.sci_store.specs.Passed.{IsPassed, ShowsBefore, IsStepped}
use Rattle.sci_store.specs.Rows.{ReadyRow, IsRowOf}
use Rattle.sci_store.specs.Written.{AreAmong}
use Rattle.sci_store.specs.Chosen.{active_of_kinds}

-- the pass over a row gives the values of its source's reaction, or the stop
abbrev pub Passes : Fixed → Columns → ReadyRow → (old new : Standing) → (before banks : List Meaning) → Option (ℕ × StopWord) → Type 0
Passes f i row old new before banks stop =
    (source : Source) (m : Memory) → IsLoopFree f.net source → IsRowOf f source row → ShowsMemory f old before m → IsMemory f.net m
    → IsPassed f i source m old new before banks stop

-- for what is observed of the values that are shown, where all active blocks are in the row
abbrev pub IfSeen : Fixed → Standing → ReadyRow → (List Obs → Type 0) → Type 0
IfSeen f s row P =
    (source : Source) (y : Signals) (active : Activity) → ShowsValues f source s y active → AreAmong f.net active row.blocks
    → P (blocks_seen 1 f.net.specs y active)

-- the blocks of a row step from the memory before the reaction to the one behind it
abbrev pub Steps : Fixed → ReadyRow → (old new : Standing) → (before banks : List Meaning) → Type 0
Steps f row old new before banks =
    (source : Source) (m : Memory) (y : Signals) (active : Activity) → IsActivity f.net source y active → ShowsValues f source old y active
    → AreAmong f.net active row.blocks → ShowsBefore f old before m → IsMemory f.net m → IsStepped f source m y new banks

-- whether an active block ends the run, where all of these kinds are among these
abbrev pub TellsHalt : Fixed → Standing → (blocks : List ℕ) → Bool → Type 0
TellsHalt f s blocks halted =
    (source : Source) (y : Signals) (active : Activity) → ShowsValues f source s y active
    → AreAmong f.net (active_of_kinds f.net is_halt active) blocks → halted ≡ halts f.net active
