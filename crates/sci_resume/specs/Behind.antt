-- A run behind one of its reactions, which are counted from 1, start's.
use Rattle.std.specs.Prelude.{◌≡◌, ℕ, ◌<◌, ◌≤◌, List}
use Rattle.sci_base.specs.declared.observation.Obs.{Obs}
use Rattle.sci_net.specs.Parts.{Parts}
use Rattle.sci_reaction.specs.Memory.{Columns}
use Rattle.sci_run.specs.Observed.{reactions}
use Rattle.sci_run.specs.Run.{State, Reachable, IsRun}
use Rattle.sci_save.specs.Saved.{Saved, saved_of}
use Rattle.sci_save.specs.Resumed.{IsSavedOf}
use Rattle.sci_resume.specs.declared.Reached.{Reached}
use Rattle.sci_resume.specs.declared.Reached.TheVariants as reached

-- the run has more than k reactions, and this is saved of its state behind the k-th
pub record IsSavedBehind (n : Parts) (i : Columns) (until limit k : ℕ) (m : Saved) : Type 0 where
  pub observed : List Obs
  pub run : IsRun n i until limit observed
  pub more : k < reactions observed
  pub state : State
  pub seen : List Obs
  pub reachable : Reachable n i until limit state seen
  pub counted : reactions seen ≡ k
  pub saved : IsSavedOf n state m

-- the run has no more than k reactions, one that stops included, and so many
pub record HasEnded (n : Parts) (i : Columns) (until limit k count : ℕ) : Type 0 where
  pub observed : List Obs
  pub run : IsRun n i until limit observed
  pub few : reactions observed ≤ k
  pub counted : count ≡ reactions observed

-- what a run comes to of which the state behind the k-th reaction is asked for
abbrev pub IsReached : Parts → Columns → (until limit k : ℕ) → Reached → Type 0
IsReached n i until limit k (reached.Saved m) = IsSavedBehind n i until limit k (saved_of m)
IsReached n i until limit k (reached.Ended count) = HasEnded n i until limit k count
