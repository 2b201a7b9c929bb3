-- The tag objects of a diagram's objects in turn.
use Rattle.std.proofs.Common.{◌≡◌, ℕ, ◌+◌, ◌<◌, ◌≤◌, List, [], ◌∷◌, ◌++◌, length, get_or, drop, map, ap, ◌∙◌, append_assoc, append-nil}
use Rattle.std.proofs.lemmas.List.{drop_more, drop_all}
use Rattle.sci_diagram.specs.Objects.{objects_of, object_view}
use Rattle.sci_diagram.specs.declared.diagram.Obj.{Obj}
use Rattle.sci_goto.specs.Phase.{Standing, standing_in, object_standing}

pub placed_end : (at : List ℕ) (os : List Obj) (i : ℕ) → length os ≤ i → (xs ws : List Standing) → xs ++ standing_in at (i + 1) (objects_of (map object_view (drop i os))) ≡ ws → xs ≡ ws
unfolding standing_in
placed_end at os i h xs ws whole = rw (drop_all i os h, append-nil xs) at whole

-- r is the object at place i
pub placed_more : (at : List ℕ) (os : List Obj) (i : ℕ) (r : Obj) → i < length os → r ≡ get_or os i r → (xs ys ws : List Standing)
    → ys ≡ xs ++ object_standing at (at ++ (i + 1) ∷ []) (object_view r)
    → xs ++ standing_in at (i + 1) (objects_of (map object_view (drop i os))) ≡ ws
    → ys ++ standing_in at ((i + 1) + 1) (objects_of (map object_view (drop (i + 1) os))) ≡ ws
unfolding standing_in
placed_more at os i r h is xs ys ws one whole =
    let here = object_standing at (at ++ (i + 1) ∷ []) (object_view r) in
    let rest = standing_in at ((i + 1) + 1) (objects_of (map object_view (drop (i + 1) os))) in
    ap (λ zs. zs ++ rest) one ∙ append_assoc xs here rest ∙ (rw (drop_more os i r h, ← is) at whole)
