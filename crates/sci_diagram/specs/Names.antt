-- The fields that are looked at, by their names and codes.
use Rattle.std.specs.Prelude.{◌≡◌, ℕ, ◌+◌, ◌-◌, ◌==◌, List, [], ◌∷◌, length, map, Option, Some, None, option_map, codes, slice_index_or, if◌then◌else◌}
use Rattle.std.specs.Str.{bytes_eq}
use Rattle.json.specs.Token.{Token}
use Rattle.serde_json.specs.Data.{Data, Members}
use Rattle.serde_json.specs.Find.{get, get_member}
use Rattle.sci_json.specs.View.{view, Named, put_all}

-- the names in the order of their codes, which go from 1 to 21
abbrev pub names : List (List ℕ)
names = codes "objs" ∷ codes "obj" ∷ codes "gui" ∷ codes "model" ∷ codes "sim" ∷ codes "in" ∷ codes "in2" ∷ codes "intyp" ∷ codes "out" ∷ codes "out2" ∷ codes "outtyp" ∷ codes "evtin" ∷ codes "evtout" ∷ codes "dstate" ∷ codes "rpar" ∷ codes "ipar" ∷ codes "firing" ∷ codes "dep_ut" ∷ codes "from" ∷ codes "to" ∷ codes "ct" ∷ []

-- the name of the field of a code
abbrev pub name_of : ℕ → List ℕ
name_of code = slice_index_or names (code - 1) []

-- the values found are those that the fields of these names have
abbrev pub AreFound : List (Option (List Token)) → Members → Type 0
AreFound found fields = map (option_map view) found ≡ map (λ name. get_member name fields) names

-- with these members one after another, the values found of some fields become those found of all
abbrev pub FillsUp : List (Option (List Token)) → List Named → List (Option (List Token)) → Type 0
FillsUp old ms new = (fields : Members) → AreFound old fields → AreFound new (put_all ms fields)

-- the values found are those of the fields that a value has
abbrev pub AreFieldsOf : List (Option (List Token)) → Data → Type 0
AreFieldsOf found d = map (option_map view) found ≡ map (λ name. get name d) names

-- a name beside its code
abbrev pub NameCode : Type 0
NameCode = List ℕ × ℕ

-- the names of this length, where the first name has code i
abbrev pub of_length : ℕ → ℕ → List (List ℕ) → List NameCode
of_length k i [] = []
of_length k i (n ∷ ns) = if k == length n then (n, i) ∷ of_length k (i + 1) ns else of_length k (i + 1) ns

-- the code of a name
abbrev pub code_among : List ℕ → List NameCode → Option ℕ
code_among name [] = None
code_among name (p ∷ ps) = if bytes_eq name p.0 then Some p.1 else code_among name ps
