-- Blocks by their specs and their places.
use Rattle.std.specs.Prelude.{List, [], ◌∷◌}
use Rattle.sci_base.specs.declared.refusal.Place.{Place}
use Rattle.sci_forms.specs.declared.spec.Spec.{Spec}
use Rattle.sci_blocks.specs.Blocks.{Placed, placed}

abbrev pub placed_all : List Spec → List Place → List Placed
placed_all [] ps = []
placed_all (s ∷ ss) [] = []
placed_all (s ∷ ss) (p ∷ ps) = placed p.path.items s ∷ placed_all ss ps
