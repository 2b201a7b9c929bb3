-- The columns of an input file are short, since the file is.
use Rattle.std.proofs.Common.{◌≡◌, ◌≤◌, ◌<◌, ◌+◌, ◌^◌, ℕ, zero, suc, ℤ, List, [], ◌∷◌, length, get_or, Bool, true, false, cond, Option, Some, None, Ok, Err, refl, sym, ◌∙◌, ap, subst, arith}
use Rattle.std.specs.Prelude.{nat_lt, option_map, option_and_then, if◌then◌else◌}
use Rattle.std.specs.Str.{is_utf8}
use Rattle.serde_json.specs.Data.{Data, Items, null, boolean, number, string, array, object, no_items, item}
use Rattle.serde_json.specs.Find.{as_array}
use Rattle.serde_json.specs.Read.{read}
use Rattle.sci_base.specs.Plain.{Violation}
use Rattle.sci_base.specs.Outcome.{◌>>=◌}
use Rattle.sci_json.specs.Field.{whole, wholes}
use Rattle.sci_diagram.specs.Weight.{weight, items_weight}
use Rattle.sci_diagram.proofs.Bytes.{read_weighs}
use Rattle.sci_net.specs.Parts.{numbered}
use Rattle.sci_trace.specs.Columns.{Needed}
use Rattle.sci_trace.specs.Reading.{whole_list, whole_lists, columns_of, columns_in, shaped, greatest, first_outside, unless, too_few, judge_columns, judge}
use Rattle.sci_save.specs.Bounds.{AreShort}
use Rattle.sci_answers.specs.Inputs.{AcceptsColumns}

-- columns that pass are those that were read
none_outside : (o : Option Violation) (cs columns : List (List ℤ)) → unless o cs ≡ Ok columns → cs ≡ columns
none_outside None cs columns h = cc h
none_outside (Some v) cs columns h = absurd (cc h)

pub enough : (short : Bool) (v : Violation) (o : Option Violation) (cs columns : List (List ℤ)) → (if short then Err v else unless o cs) ≡ Ok columns → cs ≡ columns
enough true v o cs columns h = absurd (cc h)
enough false v o cs columns h = none_outside o cs columns h

-- each list has at most so many entries
abbrev AreAtMost : ℕ → List (List ℤ) → Type 0
AreAtMost most [] = Unit {0}
AreAtMost most (c ∷ cs) = (length c ≤ most) × AreAtMost most cs

at_most_more : (m n : ℕ) (cs : List (List ℤ)) → m ≤ n → AreAtMost m cs → AreAtMost n cs
at_most_more m n [] h a = tt
at_most_more m n (c ∷ cs) h a = (omega (arith, a.0, h), at_most_more m n cs h a.1)

-- ---- of a JSON value

weighs : (d : Data) → 1 ≤ weight d
weighs null = omega arith
weighs (boolean b) = omega arith
weighs (number n) = omega arith
weighs (string s) = omega arith
weighs (array ds) = omega arith
weighs (object ms) = omega arith

wholes_by : (d : Data) (ds : Items) (zs : List ℤ) (o : Option ℤ) (rest : Option (List ℤ)) → ((l : List ℤ) → rest ≡ Some l → length l ≤ items_weight ds)
    → option_and_then (λ z. option_map (λ (l : List ℤ). z ∷ l) rest) o ≡ Some zs → length zs ≤ items_weight (item d ds)
wholes_by d ds zs None rest most f = absurd (cc f)
wholes_by d ds zs (Some z) None most f = absurd (cc f)
wholes_by d ds zs (Some z) (Some l) most f =
    let is : z ∷ l ≡ zs = cc f in
    let more = most l refl in
    let one : length (z ∷ l) ≡ length zs = ap length is in
    let least = weighs d in
    omega (arith, more, one, least)

wholes_most : (ds : Items) (zs : List ℤ) → wholes ds ≡ Some zs → length zs ≤ items_weight ds
wholes_most no_items zs h = let is : [] ≡ zs = cc h in let none : 0 ≡ length zs = ap length is in omega (arith, none)
wholes_most (item d ds) zs h = wholes_by d ds zs (whole d) (wholes ds) (λ l e. wholes_most ds l e) h

list_most : (d : Data) (c : List ℤ) → whole_list d ≡ Some c → length c ≤ weight d
list_most null c h = absurd (cc h)
list_most (boolean b) c h = absurd (cc h)
list_most (number n) c h = absurd (cc h)
list_most (string s) c h = absurd (cc h)
list_most (array ds) c h = let most = wholes_most ds c h in omega (arith, most)
list_most (object ms) c h = absurd (cc h)

lists_by : (d : Data) (ds : Items) (cs : List (List ℤ)) (o : Option (List ℤ)) (rest : Option (List (List ℤ))) → whole_list d ≡ o → ((l : List (List ℤ)) → rest ≡ Some l → AreAtMost (items_weight ds) l)
    → option_and_then (λ c. option_map (λ (l : List (List ℤ)). c ∷ l) rest) o ≡ Some cs → AreAtMost (items_weight (item d ds)) cs
lists_by d ds cs None rest g most f = absurd (cc f)
lists_by d ds cs (Some c) None g most f = absurd (cc f)
lists_by d ds cs (Some c) (Some l) g most f =
    let is : c ∷ l ≡ cs = cc f in
    let one = list_most d c g in
    subst (AreAtMost (items_weight (item d ds))) is (omega (arith, one), at_most_more (items_weight ds) (items_weight (item d ds)) l (omega arith) (most l refl))

lists_most : (ds : Items) (cs : List (List ℤ)) → whole_lists ds ≡ Some cs → AreAtMost (items_weight ds) cs
lists_most no_items cs h = let is : [] ≡ cs = cc h in subst (AreAtMost 0) is tt
lists_most (item d ds) cs h = lists_by d ds cs (whole_list d) (whole_lists ds) refl (λ l e. lists_most ds l e) h

columns_most : (d : Data) (cs : List (List ℤ)) → columns_of d ≡ Some cs → AreAtMost (weight d) cs
columns_most null cs h = absurd (cc h)
columns_most (boolean b) cs h = absurd (cc h)
columns_most (number n) cs h = absurd (cc h)
columns_most (string s) cs h = absurd (cc h)
columns_most (array ds) cs h = at_most_more (items_weight ds) (weight (array ds)) cs (omega arith) (lists_most ds cs h)
columns_most (object ms) cs h = absurd (cc h)

-- ---- of a file

read_most : (bytes : List ℕ) (text : Bool) (o : Option Data) (cs : List (List ℤ)) → read bytes ≡ o → (if text then option_and_then columns_of o else None) ≡ Some cs → AreAtMost (length bytes + 1) cs
read_most bytes false o cs e h = absurd (cc h)
read_most bytes true None cs e h = absurd (cc h)
read_most bytes true (Some d) cs e h = at_most_more (weight d) (length bytes + 1) cs (read_weighs bytes d e) (columns_most d cs h)

judged_most : (bytes : List ℕ) (needs : List Needed) (o : Option (List (List ℤ))) (columns : List (List ℤ)) → columns_in bytes ≡ o → (shaped o >>= judge_columns needs) ≡ Ok columns → AreAtMost (length bytes + 1) columns
judged_most bytes needs None columns e h = absurd (cc h)
judged_most bytes needs (Some cs) columns e h =
    let same : cs ≡ columns = enough (nat_lt (length cs) (greatest needs)) (too_few (greatest needs) (length cs)) (first_outside needs cs) cs columns h in
    subst (AreAtMost (length bytes + 1)) same (read_most bytes (is_utf8 bytes) (read bytes) cs refl e)

file_most : (bytes : List ℕ) (needs : List Needed) (columns : List (List ℤ)) → AcceptsColumns needs bytes columns → AreAtMost (length bytes + 1) columns
unfolding judge
file_most bytes needs columns h = judged_most bytes needs (columns_in bytes) columns refl h

at_most_each : (most : ℕ) (cs : List (List ℤ)) (k : ℕ) → AreAtMost most cs → length (get_or cs k []) ≤ most
at_most_each most [] k a = omega arith
at_most_each most (c ∷ cs) zero a = a.0
at_most_each most (c ∷ cs) (suc k) a = at_most_each most cs k a.1

pub columns_short : (needs : List Needed) (bytes : List ℕ) (columns : List (List ℤ)) → length bytes ≤ 16777216 → AcceptsColumns needs bytes columns → AreShort columns
columns_short needs bytes columns short h zero = omega arith
columns_short needs bytes columns short h (suc k) =
    let most = at_most_each (length bytes + 1) columns k (file_most bytes needs columns h) in
    omega (arith, most, short)
