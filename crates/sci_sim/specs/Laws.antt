-- When a step may be done.
use Rattle.std.specs.Prelude.{◌≡◌, ℕ, ◌-◌, true, List, None}
use Rattle.sci_reaction.specs.Memory.{Columns}
use Rattle.sci_run.specs.Run.{State, ReactionOutcome, comes_next}
use Rattle.sci_bank.specs.Bank.{Meaning}
use Rattle.sci_net.specs.Parts.{Parts}
use Rattle.sci_save.specs.Saved.{Saved}
use Rattle.sci_save.specs.Valid.{IsShaped}
use Rattle.sci_save.specs.Resumed.{state_of, IsSavedOf}
use Rattle.sci_sim.specs.declared.end.Step.TheVariants.{More}
use Rattle.sci_sim.specs.At.{Running, IsAt, IsAtStart}
use Rattle.sci_sim.specs.Reacting.{MayStep}
use Rattle.sci_sim.specs.Steps.{end_due, IsStep}

-- before the run
abbrev pub MayBegin : Type 0
MayBegin = (until limit : ℕ) (r : Running) (banks : List Meaning) → IsAtStart r.fixed.net r banks → MayStep until limit r banks

-- behind a step that wasn't the last
abbrev pub MayFollow : Type 0
MayFollow = (until limit : ℕ) (r : Running) (banks : List Meaning) (i : Columns) (date source : ℕ) (from : State) (o : ReactionOutcome)
    → r.started ≡ true → IsStep i until limit date source from r banks o More → MayStep until limit r banks

-- at any state behind a reaction at which no end is due
abbrev pub MayGoOn : Type 0
MayGoOn = (until limit : ℕ) (r : Running) (banks : List Meaning) (st : State) → r.started ≡ true → IsAt r banks st
    → None ≡ end_due (comes_next r.fixed.net until (limit - st.fired) st) → MayStep until limit r banks

-- what is saved of the state that was restored is what was saved
abbrev pub SavedAgain : Type 0
SavedAgain = (n : Parts) (m : Saved) → IsShaped n m → IsSavedOf n (state_of m) m
