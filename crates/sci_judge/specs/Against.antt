-- What a comparing sink took, told with the text with which it compares.
use Rattle.std.specs.Prelude.{◌∷◌, ◌++◌, Some, length}
use Rattle.sci_io.specs.Taken.{SinkState, direct}
use Rattle.sci_agree.specs.Compared.{Compared, taken_by}

-- the text and what was taken
pub record Against : Type 0 where
  pub compared : Compared

-- how long the text is, the text, and what was taken
abbrev pub told : Against → SinkState
told a = direct (Some (length a.compared.text ∷ (a.compared.text ++ taken_by a.compared))) a.compared.faults a.compared.failing
