-- Lists of numbers, one for each port.
use Rattle.std.specs.Prelude.{ℕ, List, [], map, slice_index_or, Vec}
use Rattle.std.specs.declared.alloc.Global.{Global}

abbrev pub Lists : Type 0
Lists = Vec (Vec ℕ Global) Global

abbrev pub plain : List (Vec ℕ Global) → List (List ℕ)
plain vs = map (λ (v : Vec ℕ Global). v.items) vs

abbrev pub lists_of : Lists → List (List ℕ)
lists_of v = plain v.items

-- the list of port p
abbrev pub list_at : List (List ℕ) → ℕ → List ℕ
list_at ls p = slice_index_or ls p []
