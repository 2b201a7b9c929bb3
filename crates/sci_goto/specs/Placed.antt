-- A tag object as the code has it, and as the definitions see it.
use Rattle.std.specs.Prelude.{ℕ, List, [], ◌∷◌, ◌++◌}
use Rattle.sci_goto.specs.declared.placed.PlacedTag.{PlacedTag}
use Rattle.sci_goto.specs.Phase.{Standing}

-- where it stands
abbrev pub place_of : PlacedTag → List ℕ
place_of t = t.around.path.items ++ t.position ∷ []

abbrev pub standing_of : PlacedTag → Standing
standing_of t = record { around = t.around.path.items; place = place_of t; form = t.form }
