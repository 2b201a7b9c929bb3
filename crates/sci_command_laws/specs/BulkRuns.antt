-- The run of a bulk diagram ends by the bound on events.
use Rattle.std.specs.Prelude.{ℕ, ◌≡◌, ◌≤◌, List, [], ◌∷◌, ◌++◌}
use Rattle.sci_base.specs.declared.observation.Obs.{Obs}
use Rattle.sci_base.specs.declared.observation.Obs.TheVariants.{End}
use Rattle.sci_base.specs.declared.observation.EndWord.TheVariants.{Events}
use Rattle.sci_answers.specs.Bulk.{IsBulkLine}

-- the last of these observations is that as many events have fired as may
pub record AreByEvents (observed : List Obs) : Type 0 where
  pub seen : List Obs
  pub all : observed ≡ seen ++ End Events ∷ []

abbrev pub BulkEndsByEvents : Type 0
BulkEndsByEvents = (seed size : ℕ) (line : List ℕ) → 1 ≤ size → size ≤ 2000 → (is : IsBulkLine seed size line) → AreByEvents is.observed
