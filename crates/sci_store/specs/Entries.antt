-- The entries of a row that apply, by what is marked of the blocks.
use Rattle.std.specs.Prelude.{ℕ, ◌≤◌, Bool, ◌||◌, ◌&&◌, eqb, if◌then◌else◌, List, [], ◌∷◌, length, Option, Some, None}
use Rattle.std.specs.List.{list_any}
use Rattle.std.specs.Int.Bits.{bit_or}
use Rattle.sci_reaction.specs.Schedule.{Guard, Entry}
use Rattle.sci_store.specs.declared.marks.Mark.{Mark}
use Rattle.sci_store.specs.Marks.{mark_at}

-- the guard's block has a mark
pub record HasMark (marks : List Mark) (g : Guard) : Type 0 where
  pub least : 1 ≤ g.block
  pub most : g.block ≤ length marks

-- the guard's block is active and takes the guard's port
abbrev pub is_taken : List Mark → Guard → Bool
is_taken marks g = (mark_at marks g.block).active && eqb (mark_at marks g.block).branch g.port

abbrev pub applies : List Mark → Entry → Bool
applies marks e = e.always || list_any (is_taken marks) e.guards

-- the mask with those of the guards that are taken
abbrev pub with_guards : List Mark → ℕ → List Guard → ℕ
with_guards marks mask [] = mask
with_guards marks mask (g ∷ gs) = with_guards marks (if is_taken marks g then bit_or mask g.mask else mask) gs

abbrev pub mask_in : List Mark → Entry → ℕ
mask_in marks e = with_guards marks e.mask e.guards

abbrev pub activation : List Mark → Entry → Option ℕ
activation marks e = if applies marks e then Some (mask_in marks e) else None
