-- The laws of what is saved behind a reaction of a run.
use Rattle.std.specs.Prelude.{◌≡◌, ◌⊎◌, ℕ, ◌≤◌, List, ◌∷◌, ◌++◌, true}
use Rattle.sci_base.specs.declared.limits.TheConstants.{TICKS, EVENTS}
use Rattle.sci_base.specs.declared.observation.Obs.{Obs}
use Rattle.sci_net.specs.Parts.{Parts}
use Rattle.sci_net.specs.Net.{IsNet}
use Rattle.sci_reaction.specs.Memory.{Columns, AreColumns}
use Rattle.sci_run.specs.Laws.{AreLoopFree}
use Rattle.sci_run.specs.Observed.{is_header, reactions}
use Rattle.sci_run.specs.Run.{IsRest, IsRun}
use Rattle.sci_save.specs.Saved.{Saved}
use Rattle.sci_save.specs.Valid.{IsValid}
use Rattle.sci_save.specs.Resumed.{state_of}
use Rattle.sci_resume.specs.Behind.{IsSavedBehind, HasEnded}

-- one thing is saved behind a reaction
abbrev pub OneSaved : Type 0
OneSaved =
    (n : Parts) (i : Columns) (until limit k : ℕ) (m o : Saved) → IsNet n → AreLoopFree n → IsSavedBehind n i until limit k m → IsSavedBehind n i until limit k o
    → m ≡ o

-- a run has one number of reactions
abbrev pub OneEnd : Type 0
OneEnd =
    (n : Parts) (i : Columns) (until limit k j l : ℕ) → IsNet n → AreLoopFree n → HasEnded n i until limit k j → HasEnded n i until limit k l → j ≡ l

-- where something is saved, the run isn't over
abbrev pub NotBoth : Type 0
NotBoth =
    (n : Parts) (i : Columns) (until limit k count : ℕ) (m : Saved) → IsNet n → AreLoopFree n → IsSavedBehind n i until limit k m → HasEnded n i until limit k count
    → ⊥

-- behind each reaction something is saved, or the run is over, where the input file is in range and the bounds are those of words
abbrev pub SomeReached : Type 0
SomeReached =
    (n : Parts) (i : Columns) (until limit k : ℕ) → IsNet n → AreLoopFree n → AreColumns n i → until ≤ TICKS → limit ≤ EVENTS → 1 ≤ k
    → ((m : Saved) × IsSavedBehind n i until limit k m) ⊎ ((count : ℕ) × HasEnded n i until limit k count)

-- what is saved may be read again, where the input file is in range and the bounds are those of words
abbrev pub SavedIsValid : Type 0
SavedIsValid =
    (n : Parts) (i : Columns) (until limit k : ℕ) (m : Saved) → IsNet n → AreLoopFree n → AreColumns n i → until ≤ TICKS → limit ≤ EVENTS
    → IsSavedBehind n i until limit k m → IsValid n i m

-- what is observed of the first k reactions, and of those behind them, which begin with the header of one more
pub record AreParted (k : ℕ) (front rest : List Obs) : Type 0 where
  pub counted : reactions front ≡ k
  pub header : Obs
  pub later : List Obs
  pub next : rest ≡ header ∷ later
  pub is_one : is_header header ≡ true

-- what is observed of the run that goes on from what was saved behind the k-th reaction is the rest of the run behind it
abbrev pub RunGoesOn : Type 0
RunGoesOn =
    (n : Parts) (i : Columns) (until limit k : ℕ) (m : Saved) (rest : List Obs) → IsNet n → AreLoopFree n → IsSavedBehind n i until limit k m
    → IsRest n i until limit (state_of m) rest → (front : List Obs) × IsRun n i until limit (front ++ rest) × AreParted k front rest
