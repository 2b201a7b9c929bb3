-- Where the entry of each block stands in a row.
use Rattle.std.specs.Prelude.{◌≡◌, ℕ, zero, suc, nat_eq, if◌then◌else◌, List, [], ◌∷◌, slice_index_or}
use Rattle.sci_reaction.specs.Kept.{entries_of}
use Rattle.sci_reaction.specs.Schedule.{blocks_of}
use Rattle.sci_reaction.specs.declared.entry.Entry.{Entry}

-- a place behind one more number; 0 is none
abbrev pub behind_one : ℕ → ℕ
behind_one zero = 0
behind_one (suc k) = suc (suc k)

-- where a number first stands, counted from 1; 0 where it doesn't
abbrev pub place_in : List ℕ → ℕ → ℕ
place_in [] b = 0
place_in (x ∷ xs) b = if nat_eq x b then 1 else behind_one (place_in xs b)

-- by block the place of its entry
abbrev pub ArePlaces : List Entry → List ℕ → Type 0
ArePlaces entries places = (b : ℕ) → slice_index_or places b 0 ≡ place_in (blocks_of (entries_of entries)) b
