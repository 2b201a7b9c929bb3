-- The data of the value that tokens begin with.
use Rattle.std.specs.Prelude.{◌≡◌, ℕ, List, [], ◌∷◌, length, Option, Some, None, option_map, option_and_then, unwrap_or}
use Rattle.json.specs.Token.{Token}
use Rattle.json.specs.Json as json
use Rattle.serde_json.specs.Data.{Data, null, Items, no_items, item, Members, put}
use Rattle.serde_json.specs.Read.{of_json, of_items, max_depth}

-- the data of the value that tokens begin with, nested no deeper than a text may be
abbrev pub data_of : List Token → Option Data
data_of ts = option_and_then (λ p. of_json p.0) (json.value max_depth ts)

-- the data, where there is some: a `Document` and a `Value` keep that there is
unfoldable pub view : List Token → Data
view ts = unwrap_or (data_of ts) null

-- the items that tokens go on with, up to the closing bracket
abbrev pub items_of : List Token → Option Items
items_of ts = option_and_then (λ p. of_items p.0) (json.items (json.value max_depth) (length ts) ts)

-- the items, where there are such: an `Items` keeps that there are
unfoldable pub items_view : List Token → Items
items_view ts = unwrap_or (items_of ts) no_items

-- r is the first of the items, and `rest` are those after it
abbrev pub NextItem : Items → Option Data → Items → Type 0
NextItem no_items r rest = (r ≡ None) × (rest ≡ no_items)
NextItem (item d ds) r rest = (r ≡ Some d) × (rest ≡ ds)

-- a member of an object, by its name and its data
abbrev pub Named : Type 0
Named = List ℕ × Data

-- the members in the order of the text, where a name may stand more than once
abbrev pub in_order : json.Members → Option (List Named)
in_order json.no_members = Some []
in_order (json.member k j ms) = option_and_then (λ d. option_map (λ rest. (k, d) ∷ rest) (in_order ms)) (of_json j)

-- the members that tokens go on with, up to the closing bracket
abbrev pub members_of : List Token → Option (List Named)
members_of ts = option_and_then (λ p. in_order p.0) (json.members (json.value max_depth) (length ts) ts)

-- the members, where there are such: a `Members` keeps that there are
unfoldable pub members_view : List Token → List Named
members_view ts = unwrap_or (members_of ts) []

-- r is the first of the members, and `rest` are those after it
abbrev pub NextMember : List Named → Option Named → List Named → Type 0
NextMember [] r rest = (r ≡ None) × (rest ≡ [])
NextMember (m ∷ ms) r rest = (r ≡ Some m) × (rest ≡ ms)

-- the fields that there are, and then these one after another: of those with one name the last counts
abbrev pub put_all : List Named → Members → Members
put_all [] fields = fields
put_all (m ∷ ms) fields = put_all ms (put m.0 m.1 fields)
