-- A net that stands behind a reaction of its run.
use Rattle.std.specs.Prelude.{◌≡◌, ℕ, ◌-◌, List}
use Rattle.sci_base.specs.declared.observation.Obs.{Obs}
use Rattle.sci_reaction.specs.Memory.{Columns}
use Rattle.sci_pending.specs.Pending.{Event}
use Rattle.sci_run.specs.Observed.{reactions}
use Rattle.sci_run.specs.Run.{State, Fires, comes_next, Reachable}
use Rattle.sci_bank.specs.Bank.{Meaning}
use Rattle.sci_sim.specs.At.{Running, IsAt}

-- it stands with its banks behind the k-th, and an event fires next
pub record StandsBehind (i : Columns) (until limit k : ℕ) (r : Running) (banks : List Meaning) : Type 0 where
  pub state : State
  pub seen : List Obs
  pub event : Event
  pub at : IsAt r banks state
  pub reachable : Reachable r.fixed.net i until limit state seen
  pub counted : reactions seen ≡ k
  pub fires : comes_next r.fixed.net until (limit - state.fired) state ≡ Fires event
