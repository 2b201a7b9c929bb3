-- What the numbers of a field say where they stand, without a list of them.
use Rattle.std.specs.Prelude.{ℕ, ℤ, pos, List, length, codes, Bool, true, false, ◌&&◌, if◌then◌else◌, Option, Some, None, is_some, option_map, option_and_then}
use Rattle.std.specs.List.{list_all}
use Rattle.serde_json.specs.Data.{Data, Items, no_items, item}
use Rattle.serde_json.specs.Find.{as_array}
use Rattle.sci_base.specs.Outcome.{Outcome, ◌>>=◌}
use Rattle.sci_json.specs.Field.{whole, as_ints, field}
use Rattle.sci_diagram.specs.declared.diagram.End.{End}
use Rattle.sci_diagram.specs.Tree.{is_small, required, second}

-- a whole number from -2^31 to 2^31-1
abbrev pub small_whole : Option ℤ → Bool
small_whole None = false
small_whole (Some z) = is_small z

abbrev pub all_whole : Items → Bool
all_whole no_items = true
all_whole (item d ds) = is_some (whole d) && all_whole ds

-- how many numbers there are, where all of them are small
abbrev pub count_small : Option (List ℤ) → Option ℕ
count_small None = None
count_small (Some zs) = if list_all is_small zs then Some (length zs) else None

abbrev pub small_count : Data → Option ℕ
small_count d = count_small (as_ints d)

-- the side of an end: the one number that is left, or else the side that it has without it
abbrev pub side_in : ℤ → Items → Option ℤ
side_in side no_items = Some side
side_in side (item c no_items) = whole c
side_in side _ = None

-- an end of a link, of which the third number is the side where it is there
abbrev pub end_in : ℤ → Items → Option End
end_in side (item a (item b ds)) = option_and_then (λ x. option_and_then (λ y. option_map (λ z. record { block = x; port = y; side = z }) (side_in side ds)) (whole b)) (whole a)
end_in side _ = None

abbrev pub as_end : ℤ → Data → Option End
as_end side d = option_and_then (end_in side) (as_array d)

abbrev pub second_in : Items → Option ℤ
second_in (item a (item b ds)) = whole b
second_in _ = None

-- the second of at least two whole numbers
abbrev pub kind_in : Items → Option ℤ
kind_in ds = if all_whole ds then second_in ds else None

abbrev pub as_kind : Data → Option ℤ
as_kind d = option_and_then kind_in (as_array d)

-- the type of a link
abbrev pub link_kind : List ℕ → Data → Outcome ℤ
link_kind at d = required at (pos 21) (field as_ints (codes "ct") d) >>= second at
