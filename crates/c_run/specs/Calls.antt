-- Which function a call means.
use Rattle.std.specs.Prelude.{ℕ, List, drop, Bool, Option}
use Rattle.std.specs.List.{position_from}
use Rattle.c_ast.specs.declared.Name.{Name}
use Rattle.c_run.specs.declared.machine.Routine.{Routine}
use Rattle.c_mean.specs.Meaning.{same_name}

abbrev pub is_named : Name → Routine → Bool
is_named f g = same_name g.name f

-- the place of the first of this name among functions, the latest of which comes first, from place n on
abbrev pub latest : Name → ℕ → List Routine → Option ℕ
latest f n gs = position_from (is_named f) n (drop n gs)
