-- A value that stands somewhere in a text, read at the depth that a whole text may have.
use Rattle.std.proofs.Common.{◌≡◌, ℕ, suc, ◌≤◌, List, [], ◌∷◌, ◌++◌, length, Option, Some, None, option_map, option_and_then, refl, sym, ap, ◌∙◌, subst, arith, append_assoc}
use Rattle.std.specs.Prelude.{IsSome, unwrap_or}
use Rattle.json.specs.Token.{Token}
use Rattle.json.specs.Json as json
use Rattle.json.specs.Json.{Json, after_end_array, read_key, parse_map}
use Rattle.json.specs.Find.{BeginsWith, InItems, InMembers}
use Rattle.json.specs.Tree.{json_tokens, items_tokens, members_tokens, depth, items_depth, members_depth}
use Rattle.json.proofs.Grammar.{closed_array, read_key_is, members_no_key}
use Rattle.json.proofs.Nesting.{value-depth}
use Rattle.json.proofs.Found.{not_found, Some_inj, items_close, items_go_on, members_close, members_go_on}
use Rattle.json.proofs.Printed.Trees.{value-json_tokens}
use Rattle.json.proofs.Unique.Spelling.{value-json_tokens_back}
use Rattle.serde_json.specs.Data.{Data, null, Items, no_items}
use Rattle.serde_json.specs.Read.{of_json, of_items, max_depth}
use Rattle.sci_json.specs.View.{data_of, view, items_of, items_view, Named, in_order, members_of, members_view}

-- ---- what may be absent

pub then_some : {A B : Type 0} (f : A → Option B) (o : Option A) (b : B) → option_and_then f o ≡ Some b → (a : A) × (o ≡ Some a) × (f a ≡ Some b)
then_some f None b e = absurd (cc)
then_some f (Some a) b e = (a, refl, e)

pub map_some : {A B : Type 0} (f : A → B) (o : Option A) (b : B) → option_map f o ≡ Some b → (a : A) × (o ≡ Some a) × (f a ≡ b)
map_some f None b e = absurd (cc)
map_some f (Some a) b e = (a, refl, cc)

pub some_or : {A : Type 0} (o : Option A) (d : A) → IsSome o → o ≡ Some (unwrap_or o d)
some_or None d h = absurd (cc)
some_or (Some a) d h = refl

-- ---- a value

pub value_at : (d e : ℕ) (ts r : List Token) (j : Json) → json.value e ts ≡ Some (j, r) → depth j ≤ d → json.value d ts ≡ Some (j, r)
value_at d e ts r j is low = ap (json.value d) (value-json_tokens_back e ts r j is) ∙ value-json_tokens j d r low

pub standing : (ts : List Token) (j : Json) (d : Data) → BeginsWith ts j → depth j ≤ max_depth → of_json j ≡ Some d → data_of ts ≡ Some d
standing ts j d h low is = ap (option_and_then (λ p. of_json p.0)) (value_at max_depth h.0 ts h.1 j h.2 low) ∙ is

pub view_is : (ts : List Token) (d : Data) → data_of ts ≡ Some d → view ts ≡ d
unfolding view
view_is ts d e = ap (λ o. unwrap_or o null) e

pub reading : (ts : List Token) → IsSome (data_of ts) → (j : Json) × BeginsWith ts j × (depth j ≤ max_depth) × (of_json j ≡ Some (view ts))
unfolding view
reading ts h =
    let s = then_some (λ p. of_json p.0) (json.value max_depth ts) (view ts) (some_or (data_of ts) null h) in
    (s.0.0, (max_depth, s.0.1, s.1), value-depth max_depth ts s.0.1 s.0.0 s.1, s.2)

-- ---- the items of an array

abbrev Spelled : List Token → json.Items → Type 0
Spelled ts js = (r : List Token) × (ts ≡ items_tokens js ++ r)

no_more : (ts : List Token) (o : Option (List Token)) → after_end_array ts ≡ o → InItems ts json.no_items → Spelled ts json.no_items
no_more ts (Some r) e h = (r, closed_array ts r e)
no_more ts None e h = let f = items_go_on ts json.no_items e h in let apart : json.no_items ≡ json.item f.1 f.3 = f.5 in absurd (cc)

one_more : (j : Json) (js : json.Items) → ((ts : List Token) → InItems ts js → Spelled ts js) → (ts : List Token) (o : Option (List Token)) → after_end_array ts ≡ o → InItems ts (json.item j js)
    → Spelled ts (json.item j js)
one_more j js rest ts (Some r) e h =
    let over : json.item j js ≡ json.no_items = items_close r (json.item j js) (subst (λ x. InItems x (json.item j js)) (closed_array ts r e) h) in
    absurd (cc)
one_more j js rest ts None e h =
    let f = items_go_on ts (json.item j js) e h in
    let first : j ≡ f.1 = cc (f.5) in
    let others : f.3 ≡ js = cc (f.5) in
    let more = rest f.2 (subst (InItems f.2) others f.6) in
    let front : ts ≡ json_tokens j ++ f.2 = value-json_tokens_back f.0 ts f.2 f.1 f.4 ∙ ap (λ i. json_tokens i ++ f.2) (sym first) in
    (more.0, front ∙ ap (λ l. json_tokens j ++ l) more.1 ∙ sym (append_assoc (json_tokens j) (items_tokens js) more.0))

spelled : (js : json.Items) (ts : List Token) → InItems ts js → Spelled ts js
spelled json.no_items ts h = no_more ts (after_end_array ts) refl h
spelled (json.item j js) ts h = one_more j js (spelled js) ts (after_end_array ts) refl h

inside : (o : Option (json.Items × List Token)) (js : json.Items) (r : List Token) → parse_map json.array o ≡ Some (json.array js, r) → o ≡ Some (js, r)
inside None js r e = absurd (cc)
inside (Some (ks, s)) js r e =
    let both = Some_inj _ _ e in
    let kind : json.array ks ≡ json.array js = ap (λ p. p.0) both in
    let first : ks ≡ js = cc in
    let left : s ≡ r = ap (λ p. p.1) both in
    ap (λ k. Some (k, s)) first ∙ ap (λ l. Some (js, l)) left

items_at : (d : ℕ) (ts : List Token) (js : json.Items) → InItems ts js → items_depth js ≤ d → (r : List Token) × (json.items (json.value d) (length ts) ts ≡ Some (js, r))
unfolding json.value
items_at d ts js h low =
    let s = spelled js ts h in
    let whole : json.value (suc d) (Token.begin_array ∷ ts) ≡ Some (json.array js, s.0) =
    ap (λ l. json.value (suc d) (Token.begin_array ∷ l)) s.1 ∙ value-json_tokens (json.array js) (suc d) s.0 (omega arith) in
    (s.0, inside (json.items (json.value d) (length ts) ts) js s.0 whole)

-- what follows a bracket that is put before it
items_within : (ts r : List Token) (js : json.Items) → json.items (json.value max_depth) (length ts) ts ≡ Some (js, r) → items_depth js ≤ max_depth
unfolding json.value
items_within ts r js is =
    let whole : json.value (suc max_depth) (Token.begin_array ∷ ts) ≡ Some (json.array js, r) = ap (parse_map json.array) is in
    let low = value-depth (suc max_depth) (Token.begin_array ∷ ts) r (json.array js) whole in
    omega arith

pub items_standing : (ts : List Token) (js : json.Items) (ds : Items) → InItems ts js → items_depth js ≤ max_depth → of_items js ≡ Some ds → items_of ts ≡ Some ds
items_standing ts js ds h low is = ap (option_and_then (λ p. of_items p.0)) (items_at max_depth ts js h low).1 ∙ is

pub items_reading : (ts : List Token) → IsSome (items_of ts) → (js : json.Items) × InItems ts js × (items_depth js ≤ max_depth) × (of_items js ≡ Some (items_view ts))
unfolding items_view
items_reading ts h =
    let s = then_some (λ p. of_items p.0) (json.items (json.value max_depth) (length ts) ts) (items_view ts) (some_or (items_of ts) no_items h) in
    (s.0.0, (max_depth, length ts, s.0.1, s.1), items_within ts s.0.1 s.0.0 s.1, s.2)

pub items_view_is : (ts : List Token) (ds : Items) → items_of ts ≡ Some ds → items_view ts ≡ ds
unfolding items_view
items_view_is ts ds e = ap (λ o. unwrap_or o no_items) e

-- ---- the members of an object

abbrev SpelledMembers : List Token → json.Members → Type 0
SpelledMembers ts ms = (r : List Token) × (ts ≡ members_tokens ms ++ r)

unkeyed : (ts : List Token) (ms : json.Members) → read_key ts ≡ None → InMembers ts ms → ⊥
unkeyed ts ms e (d, n, r, is) = not_found (ms, r) (sym (members_no_key (json.value d) n ts e) ∙ is)

at_end : (r : List Token) (ms : json.Members) → InMembers (Token.end_object ∷ r) ms → ms ≡ json.no_members
at_end r ms h = members_close Token.end_object r ms (λ k. k) h

no_member : (ts : List Token) (o : Option (Option (List ℕ) × List Token)) → read_key ts ≡ o → InMembers ts json.no_members → SpelledMembers ts json.no_members
no_member ts None e h = absurd (unkeyed ts json.no_members e h)
no_member ts (Some (None, r)) e h = (r, read_key_is ts None r e)
no_member ts (Some (Some k, s)) e h =
    let f = members_go_on k s json.no_members (subst (λ x. InMembers x json.no_members) (read_key_is ts (Some k) s e) h) in
    let apart : json.no_members ≡ json.member k f.1 f.3 = f.5 in
    absurd (cc)

more_members : (name : List ℕ) (j : Json) (ms : json.Members) → ((ts : List Token) → InMembers ts ms → SpelledMembers ts ms) → (ts : List Token) (o : Option (Option (List ℕ) × List Token)) → read_key ts ≡ o
    → InMembers ts (json.member name j ms) → SpelledMembers ts (json.member name j ms)
more_members name j ms rest ts None e h = absurd (unkeyed ts (json.member name j ms) e h)
more_members name j ms rest ts (Some (None, r)) e h =
    let over : json.member name j ms ≡ json.no_members = at_end r (json.member name j ms) (subst (λ x. InMembers x (json.member name j ms)) (read_key_is ts None r e) h) in
    absurd (cc)
more_members name j ms rest ts (Some (Some k, s)) e h =
    let begins = read_key_is ts (Some k) s e in
    let f = members_go_on k s (json.member name j ms) (subst (λ x. InMembers x (json.member name j ms)) begins h) in
    let named : name ≡ k = cc (f.5) in
    let first : j ≡ f.1 = cc (f.5) in
    let others : f.3 ≡ ms = cc (f.5) in
    let more = rest f.2 (subst (InMembers f.2) others f.6) in
    let front : s ≡ json_tokens j ++ f.2 = value-json_tokens_back f.0 s f.2 f.1 f.4 ∙ ap (λ i. json_tokens i ++ f.2) (sym first) in
    let whole : s ≡ (json_tokens j ++ members_tokens ms) ++ more.0 = front ∙ ap (λ l. json_tokens j ++ l) more.1 ∙ sym (append_assoc (json_tokens j) (members_tokens ms) more.0) in
    (more.0, begins ∙ ap (λ q. Token.key q ∷ s) (sym named) ∙ ap (λ l. Token.key name ∷ l) whole)

spelled_members : (ms : json.Members) (ts : List Token) → InMembers ts ms → SpelledMembers ts ms
spelled_members json.no_members ts h = no_member ts (read_key ts) refl h
spelled_members (json.member k j ms) ts h = more_members k j ms (spelled_members ms) ts (read_key ts) refl h

inside_object : (o : Option (json.Members × List Token)) (ms : json.Members) (r : List Token) → parse_map json.object o ≡ Some (json.object ms, r) → o ≡ Some (ms, r)
inside_object None ms r e = absurd (cc)
inside_object (Some (ks, s)) ms r e =
    let both = Some_inj _ _ e in
    let kind : json.object ks ≡ json.object ms = ap (λ p. p.0) both in
    let first : ks ≡ ms = cc in
    let left : s ≡ r = ap (λ p. p.1) both in
    ap (λ k. Some (k, s)) first ∙ ap (λ l. Some (ms, l)) left

members_at : (d : ℕ) (ts : List Token) (ms : json.Members) → InMembers ts ms → members_depth ms ≤ d → (r : List Token) × (json.members (json.value d) (length ts) ts ≡ Some (ms, r))
unfolding json.value
members_at d ts ms h low =
    let s = spelled_members ms ts h in
    let whole : json.value (suc d) (Token.begin_object ∷ ts) ≡ Some (json.object ms, s.0) =
    ap (λ l. json.value (suc d) (Token.begin_object ∷ l)) s.1 ∙ value-json_tokens (json.object ms) (suc d) s.0 (omega arith) in
    (s.0, inside_object (json.members (json.value d) (length ts) ts) ms s.0 whole)

members_within : (ts r : List Token) (ms : json.Members) → json.members (json.value max_depth) (length ts) ts ≡ Some (ms, r) → members_depth ms ≤ max_depth
unfolding json.value
members_within ts r ms is =
    let whole : json.value (suc max_depth) (Token.begin_object ∷ ts) ≡ Some (json.object ms, r) = ap (parse_map json.object) is in
    let low = value-depth (suc max_depth) (Token.begin_object ∷ ts) r (json.object ms) whole in
    omega arith

pub members_standing : (ts : List Token) (ms : json.Members) (ds : List Named) → InMembers ts ms → members_depth ms ≤ max_depth → in_order ms ≡ Some ds → members_of ts ≡ Some ds
members_standing ts ms ds h low is = ap (option_and_then (λ p. in_order p.0)) (members_at max_depth ts ms h low).1 ∙ is

pub members_reading : (ts : List Token) → IsSome (members_of ts) → (ms : json.Members) × InMembers ts ms × (members_depth ms ≤ max_depth) × (in_order ms ≡ Some (members_view ts))
unfolding members_view
members_reading ts h =
    let s = then_some (λ p. in_order p.0) (json.members (json.value max_depth) (length ts) ts) (members_view ts) (some_or (members_of ts) [] h) in
    (s.0.0, (max_depth, length ts, s.0.1, s.1), members_within ts s.0.1 s.0.0 s.1, s.2)

pub members_view_is : (ts : List Token) (ds : List Named) → members_of ts ≡ Some ds → members_view ts ≡ ds
unfolding members_view
members_view_is ts ds e = ap (λ o. unwrap_or o []) e
