-- Looking into the data of a JSON value is looking into the value.
use Rattle.std.proofs.Common.{◌≡◌, ℕ, suc, ◌≤◌, max, List, Bool, true, false, cond, [], ◌∷◌, Option, Some, None, is_some, option_map, option_and_then, MatchOption, bytes_eq, true≢false, refl, sym, ap, ◌∙◌, subst, arith}
use Rattle.std.proofs.lemmas.Slice.Eq.{bytes_eq-Decides}
use Rattle.std.specs.Prelude.{IsSome, IfSome, IfNone, unwrap_or}
use Rattle.json.specs.Token.{Token}
use Rattle.json.specs.Json as json
use Rattle.json.specs.Json.{Json}
use Rattle.json.specs.Tree.{depth, items_depth, members_depth}
use Rattle.json.specs.Find as find
use Rattle.json.specs.Find.{BeginsWith, InItems, InMembers, Finds}
use Rattle.json.proofs.Found.{Some_inj}
use Rattle.serde_json.specs.Data.{Data, null, number, array, object, no_items, item, Members, no_members, put}
use Rattle.serde_json.specs.Find.{get, get_member, as_str, as_number, as_bool, as_array, as_object}
use Rattle.serde_json.specs.Read.{number_of, of_json, of_items, of_members, max_depth}
use Rattle.serde_json.proofs.Views.{get_member-put, get_member-put_other}
use Rattle.sci_json.specs.View.{data_of, view, items_of, items_view, NextItem, Named, in_order, members_of, members_view, NextMember, put_all}
use Rattle.sci_json.proofs.Standing.{then_some, map_some, some_or, standing, view_is, reading, items_standing, items_view_is, items_reading, members_standing, members_view_is, members_reading}

-- ---- one value

never : {A B C : Type 0} (f : B → Option C) (g : A → B) (o : Option A) → ((a : A) → f (g a) ≡ None) → None ≡ option_and_then f (option_map g o)
never f g None is = refl
never f g (Some a) is = sym (is a)

always : {A B C : Type 0} (f : B → Option C) (g : A → B) (h : A → C) (o : Option A) → ((a : A) → f (g a) ≡ Some (h a)) → option_map h o ≡ option_and_then f (option_map g o)
always f g h None is = refl
always f g h (Some a) is = sym (is a)

itself : {A : Type 0} (o : Option A) → o ≡ option_map (λ a. a) o
itself None = refl
itself (Some a) = refl

text_of : (j : Json) → find.as_str j ≡ option_and_then as_str (of_json j)
text_of json.null = refl
text_of (json.boolean b) = refl
text_of (json.number s) = never as_str number (number_of s) (λ n. refl)
text_of (json.string s) = refl
text_of (json.array js) = never as_str array (of_items js) (λ n. refl)
text_of (json.object ms) = never as_str object (of_members ms no_members) (λ n. refl)

flag_of : (j : Json) → find.as_bool j ≡ option_and_then as_bool (of_json j)
flag_of json.null = refl
flag_of (json.boolean b) = refl
flag_of (json.number s) = never as_bool number (number_of s) (λ n. refl)
flag_of (json.string s) = refl
flag_of (json.array js) = never as_bool array (of_items js) (λ n. refl)
flag_of (json.object ms) = never as_bool object (of_members ms no_members) (λ n. refl)

num_of : (j : Json) → option_and_then number_of (find.as_number j) ≡ option_and_then as_number (of_json j)
num_of json.null = refl
num_of (json.boolean b) = refl
num_of (json.number s) = itself (number_of s) ∙ always as_number number (λ n. n) (number_of s) (λ n. refl)
num_of (json.string s) = refl
num_of (json.array js) = never as_number array (of_items js) (λ n. refl)
num_of (json.object ms) = never as_number object (of_members ms no_members) (λ n. refl)

list_of : (j : Json) → option_and_then of_items (find.as_array j) ≡ option_and_then as_array (of_json j)
list_of json.null = refl
list_of (json.boolean b) = refl
list_of (json.number s) = never as_array number (number_of s) (λ n. refl)
list_of (json.string s) = refl
list_of (json.array js) = itself (of_items js) ∙ always as_array array (λ n. n) (of_items js) (λ n. refl)
list_of (json.object ms) = never as_array object (of_members ms no_members) (λ n. refl)

fields_of : (j : Json) → option_and_then (λ ms. of_members ms no_members) (find.as_object j) ≡ option_and_then as_object (of_json j)
fields_of json.null = refl
fields_of (json.boolean b) = refl
fields_of (json.number s) = never as_object number (number_of s) (λ n. refl)
fields_of (json.string s) = refl
fields_of (json.array js) = never as_object array (of_items js) (λ n. refl)
fields_of (json.object ms) = itself (of_members ms no_members) ∙ always as_object object (λ n. n) (of_members ms no_members) (λ n. refl)

-- ---- a value, by what its place tells

-- o is what f finds in the data, where it is what `at` finds in each JSON value that begins there
at_value : {A : Type 0} (f : Data → Option A) (at : Json → Option A) → ((j : Json) → at j ≡ option_and_then f (of_json j)) → (ts : List Token) → IsSome (data_of ts) → (o : Option A)
    → ((j : Json) → BeginsWith ts j → o ≡ at j) → o ≡ f (view ts)
at_value f at same ts h o found = let r = reading ts h in found r.0 r.1 ∙ same r.0 ∙ ap (option_and_then f) r.3

pub text_found : (ts : List Token) → IsSome (data_of ts) → (o : Option (List ℕ)) → ((j : Json) → BeginsWith ts j → o ≡ find.as_str j) → o ≡ as_str (view ts)
text_found = at_value as_str find.as_str text_of

pub flag_found : (ts : List Token) → IsSome (data_of ts) → (o : Option Bool) → ((j : Json) → BeginsWith ts j → o ≡ find.as_bool j) → o ≡ as_bool (view ts)
flag_found = at_value as_bool find.as_bool flag_of

pub number_found : (ts : List Token) → IsSome (data_of ts) → (o : Option (List ℕ)) → ((j : Json) → BeginsWith ts j → o ≡ find.as_number j) → option_and_then number_of o ≡ as_number (view ts)
number_found ts h o found = let r = reading ts h in ap (option_and_then number_of) (found r.0 r.1) ∙ num_of r.0 ∙ ap (option_and_then as_number) r.3

-- the items, and where they stand
pub items_found : (ts : List Token) → IsSome (data_of ts) → (o : Option (List Token))
    → ((j : Json) → BeginsWith ts j → MatchOption o (find.as_array j ≡ None) (λ rest. (js : json.Items) × (j ≡ json.array js) × InItems rest js))
    → MatchOption o (None ≡ as_array (view ts)) (λ rest. IsSome (items_of rest) × (Some (items_view rest) ≡ as_array (view ts)))
items_found ts h None found =
    let r = reading ts h in
    ap (option_and_then of_items) (sym (found r.0 r.1)) ∙ list_of r.0 ∙ ap (option_and_then as_array) r.3
items_found ts h (Some rest) found =
    let r = reading ts h in
    let f = found r.0 r.1 in
    let whole : of_json (json.array f.0) ≡ Some (view ts) = ap of_json (sym f.1) ∙ r.3 in
    let ds = map_some array (of_items f.0) (view ts) whole in
    let low : items_depth f.0 ≤ max_depth = let deep : depth r.0 ≡ suc (items_depth f.0) = ap depth f.1 in omega (arith, r.2) in
    let read = items_standing rest f.0 ds.0 f.2 low ds.1 in
    (ap is_some read, ap Some (items_view_is rest ds.0 read) ∙ ap as_array ds.2)

-- whether there are members
pub fields_found : (ts : List Token) → IsSome (data_of ts) → (o : Option (List Token))
    → ((j : Json) → BeginsWith ts j → MatchOption o (find.as_object j ≡ None) (λ rest. (ms : json.Members) × (j ≡ json.object ms) × InMembers rest ms)) → is_some o ≡ is_some (as_object (view ts))
fields_found ts h None found =
    let r = reading ts h in
    ap is_some (ap (option_and_then (λ ms. of_members ms no_members)) (sym (found r.0 r.1)) ∙ fields_of r.0 ∙ ap (option_and_then as_object) r.3)
fields_found ts h (Some rest) found =
    let r = reading ts h in
    let f = found r.0 r.1 in
    let whole : of_json (json.object f.0) ≡ Some (view ts) = ap of_json (sym f.1) ∙ r.3 in
    let ms = map_some object (of_members f.0 no_members) (view ts) whole in
    ap (λ d. is_some (as_object d)) ms.2

-- ---- one field

-- what stands under a name before and after some members go in
abbrev Holds : Option Json → ℕ → Option Data → Option Data → Type 0
Holds None n before after = after ≡ before
Holds (Some j) n before after = (of_json j ≡ after) × IsSome after × (depth j ≤ n)

turn : (name k : List ℕ) (j : Json) (n : ℕ) (found : Members) (d : Data) (after : Option Data) → of_json j ≡ Some d → (o : Option Json) (b : Bool) → bytes_eq k name ≡ b
    → Holds o n (get_member name (put k d found)) after → Holds (find.later_or o (cond b (Some j) None)) (max (depth j) n) (get_member name found) after
turn name k j n found d after is (Some i) b e h = (h.0, h.1, omega (arith, h.2))
turn name k j n found d after is None true e h =
    let same : k ≡ name = (bytes_eq-Decides k name).0 e in
    let here : after ≡ Some d = h ∙ ap (λ q. get_member q (put k d found)) (sym same) ∙ get_member-put k d found in
    (is ∙ sym here, ap is_some here, omega arith)
turn name k j n found d after is None false e h =
    h ∙ get_member-put_other name k d found (λ same. true≢false (sym ((bytes_eq-Decides k name).1 (sym same)) ∙ e))

holds_after : (name : List ℕ) (ms : json.Members) (found fs : Members) → of_members ms found ≡ Some fs → Holds (find.get_member name ms) (members_depth ms) (get_member name found) (get_member name fs)
holds_after name json.no_members found fs e = ap (get_member name) (sym (Some_inj _ _ e))
holds_after name (json.member k j ms) found fs e =
    let s = then_some (λ d. of_members ms (put k d found)) (of_json j) fs e in
    turn name k j (members_depth ms) found s.0 (get_member name fs) s.1 (find.get_member name ms) (bytes_eq k name) refl (holds_after name ms (put k s.0 found) fs s.2)

deeper : (n : ℕ) (after : Option Data) (o : Option Json) → Holds o n None after → Holds o (suc n) None after
deeper n after None h = h
deeper n after (Some i) h = (h.0, h.1, omega (arith, h.2))

-- the field in the JSON value and in its data
field_of : (name : List ℕ) (j : Json) (d : Data) → of_json j ≡ Some d → Holds (find.get name j) (depth j) None (get name d)
field_of name json.null d e = ap (option_and_then (get name)) (sym e)
field_of name (json.boolean b) d e = ap (option_and_then (get name)) (sym e)
field_of name (json.number s) d e = let m = map_some number (number_of s) d e in ap (get name) (sym m.2)
field_of name (json.string s) d e = ap (option_and_then (get name)) (sym e)
field_of name (json.array js) d e = let m = map_some array (of_items js) d e in ap (get name) (sym m.2)
field_of name (json.object ms) d e =
    let m = map_some object (of_members ms no_members) d e in
    subst (λ x. Holds (find.get_member name ms) (suc (members_depth ms)) None (get name x)) m.2 (deeper (members_depth ms) (get_member name m.0) (find.get_member name ms) (holds_after name ms no_members m.0 m.1))

pub field_found : (name : List ℕ) (ts : List Token) → IsSome (data_of ts) → (o : Option (List Token)) → ((j : Json) → BeginsWith ts j → Finds o (find.get name j))
    → MatchOption o (None ≡ get name (view ts)) (λ es. IsSome (data_of es) × (Some (view es) ≡ get name (view ts)))
field_found name ts h None found =
    let r = reading ts h in
    sym (subst (λ o. Holds o (depth r.0) None (get name (view ts))) (found r.0 r.1) (field_of name r.0 (view ts) r.3))
field_found name ts h (Some es) found =
    let r = reading ts h in
    let f = found r.0 r.1 in
    let here = subst (λ o. Holds o (depth r.0) None (get name (view ts))) f.1 (field_of name r.0 (view ts) r.3) in
    let one = some_or (get name (view ts)) null here.1 in
    let read = standing es f.0 (unwrap_or (get name (view ts)) null) f.2 (omega (arith, r.2, here.2)) (here.0 ∙ one) in
    (ap is_some read, ap Some (view_is es _ read) ∙ sym one)

-- ---- the next item

pub item_found : (old : List Token) → IsSome (items_of old) → (r : Option (List Token)) (new : List Token) → find.NextItem old r new → IfNone r (new ≡ old)
    → IsSome (items_of new) × IfSome r (λ ts. IsSome (data_of ts)) × NextItem (items_view old) (option_map view r) (items_view new)
item_found old h None new next stays =
    let r = items_reading old h in
    let over : items_view old ≡ no_items = Some_inj _ _ (sym r.3 ∙ ap of_items (next r.0 r.1)) in
    (subst (λ ts. IsSome (items_of ts)) (sym stays) h, tt, rw (stays, over) (refl, refl))
item_found old h (Some ts) new next stays =
    let r = items_reading old h in
    let f = next r.0 r.1 in
    let all : of_items (json.item f.0 f.1) ≡ Some (items_view old) = ap of_items (sym f.2) ∙ r.3 in
    let first = then_some (λ d. option_map (item d) (of_items f.1)) (of_json f.0) (items_view old) all in
    let rest = map_some (item first.0) (of_items f.1) (items_view old) first.2 in
    let deep : items_depth r.0 ≡ max (depth f.0) (items_depth f.1) = ap items_depth f.2 in
    let here = standing ts f.0 first.0 f.3 (omega (arith, r.2)) first.1 in
    let more = items_standing new f.1 rest.0 f.4 (omega (arith, r.2)) rest.1 in
    (ap is_some more, ap is_some here, subst (λ ds. NextItem ds (Some (view ts)) (items_view new)) rest.2 (ap Some (view_is ts _ here), items_view_is new _ more))

-- ---- the members one after another

first_then : (k : List ℕ) (d : Data) (fields : Members) (o : Option (List Named)) → option_map (λ ds. put_all ds (put k d fields)) o ≡ option_map (λ ds. put_all ds fields) (option_map (λ rest. (k, d) ∷ rest) o)
first_then k d fields None = refl
first_then k d fields (Some ds) = refl

put_first : (k : List ℕ) (ms : json.Members) (fields : Members) → ((fs : Members) → of_members ms fs ≡ option_map (λ ds. put_all ds fs) (in_order ms)) → (o : Option Data)
    → option_and_then (λ d. of_members ms (put k d fields)) o ≡ option_map (λ ds. put_all ds fields) (option_and_then (λ d. option_map (λ rest. (k, d) ∷ rest) (in_order ms)) o)
put_first k ms fields again None = refl
put_first k ms fields again (Some d) = again (put k d fields) ∙ first_then k d fields (in_order ms)

-- to put the members in as they are read is to put them in when all are read
put_in_order : (ms : json.Members) (fields : Members) → of_members ms fields ≡ option_map (λ ds. put_all ds fields) (in_order ms)
put_in_order json.no_members fields = refl
put_in_order (json.member k j ms) fields = put_first k ms fields (put_in_order ms) (of_json j)

-- the members, and where they stand
pub members_found : (ts : List Token) → IsSome (data_of ts) → (o : Option (List Token))
    → ((j : Json) → BeginsWith ts j → MatchOption o (find.as_object j ≡ None) (λ rest. (ms : json.Members) × (j ≡ json.object ms) × InMembers rest ms))
    → MatchOption o (None ≡ as_object (view ts)) (λ rest. IsSome (members_of rest) × (Some (put_all (members_view rest) no_members) ≡ as_object (view ts)))
members_found ts h None found =
    let r = reading ts h in
    ap (option_and_then (λ ms. of_members ms no_members)) (sym (found r.0 r.1)) ∙ fields_of r.0 ∙ ap (option_and_then as_object) r.3
members_found ts h (Some rest) found =
    let r = reading ts h in
    let f = found r.0 r.1 in
    let whole : of_json (json.object f.0) ≡ Some (view ts) = ap of_json (sym f.1) ∙ r.3 in
    let fields = map_some object (of_members f.0 no_members) (view ts) whole in
    let ds = map_some (λ ds. put_all ds no_members) (in_order f.0) fields.0 (sym (put_in_order f.0 no_members) ∙ fields.1) in
    let low : members_depth f.0 ≤ max_depth = let deep : depth r.0 ≡ suc (members_depth f.0) = ap depth f.1 in omega (arith, r.2) in
    let read = members_standing rest f.0 ds.0 f.2 low ds.1 in
    (ap is_some read, ap (λ l. Some (put_all l no_members)) (members_view_is rest ds.0 read) ∙ ap Some ds.2 ∙ ap as_object fields.2)

-- ---- the next member

pub member_found : {S : Type 0} (r : Option (S × List Token)) (name : S → List ℕ) (old : List Token) → IsSome (members_of old) → (new : List Token) → find.NextMember old (option_map (λ m. (name m.0, m.1)) r) new → IfNone r (new ≡ old)
    → IsSome (members_of new) × IfSome r (λ m. IsSome (data_of m.1)) × NextMember (members_view old) (option_map (λ m. (name m.0, view m.1)) r) (members_view new)
member_found None name old h new next stays =
    let r = members_reading old h in
    let over : members_view old ≡ [] = Some_inj _ _ (sym r.3 ∙ ap in_order (next r.0 r.1)) in
    (subst (λ ts. IsSome (members_of ts)) (sym stays) h, tt, rw (stays, over) (refl, refl))
member_found (Some (s, ts)) name old h new next stays =
    let r = members_reading old h in
    let f = next r.0 r.1 in
    let all : in_order (json.member (name s) f.0 f.1) ≡ Some (members_view old) = ap in_order (sym f.2) ∙ r.3 in
    let first = then_some (λ d. option_map (λ rest. (name s, d) ∷ rest) (in_order f.1)) (of_json f.0) (members_view old) all in
    let rest = map_some (λ rest. (name s, first.0) ∷ rest) (in_order f.1) (members_view old) first.2 in
    let deep : members_depth r.0 ≡ max (depth f.0) (members_depth f.1) = ap members_depth f.2 in
    let here = standing ts f.0 first.0 f.3 (omega (arith, r.2)) first.1 in
    let more = members_standing new f.1 rest.0 f.4 (omega (arith, r.2)) rest.1 in
    (ap is_some more, ap is_some here, subst (λ ds. NextMember ds (Some (name s, view ts)) (members_view new)) rest.2 (ap (λ d. Some (name s, d)) (view_is ts _ here), members_view_is new _ more))
