-- A walk over the tokens of a value, which tells whether there is data of it.
use Rattle.std.proofs.Common.{◌≡◌, ◌⊎◌, inl, inr, ℕ, zero, suc, ◌<◌, ◌≤◌, max, Bool, true, false, ◌&&◌, nat_le, List, [], ◌∷◌, ◌++◌, length, map, drop, get_or, Bor, Option, Some, None, is_some, option_map, option_and_then, refl, sym, ap, ◌∙◌, arith, append_assoc, append-nil}
use Rattle.std.proofs.lemmas.Bool.Decides.{nat_tests}
use Rattle.std.proofs.Math.Seq.{drop-cons}
use Rattle.std.proofs.Math.ListN.{drop_of_length-le}
use Rattle.json.specs.Token.{Token}
use Rattle.json.specs.Json as json
use Rattle.json.specs.Json.{Json}
use Rattle.json.specs.Tree.{json_tokens, items_tokens, members_tokens, depth, items_depth, members_depth}
use Rattle.json.specs.Tape.{node_token}
use Rattle.json.specs.declared.tape.Node.{Node}
use Rattle.json.specs.declared.tape.Node.TheVariants.{Object, Array, Number}
use Rattle.serde_json.specs.Data.{Data, array, object, item, Members, no_members, put}
use Rattle.serde_json.specs.Read.{number_of, of_json, of_items, of_members}

-- whether the tokens nest no deeper than `left`, and each number is in range
abbrev pub readable : ℕ → List Token → Bool
readable left [] = true
readable zero (Token.begin_object ∷ ts) = false
readable (suc left) (Token.begin_object ∷ ts) = readable left ts
readable left (Token.end_object ∷ ts) = readable (suc left) ts
readable zero (Token.begin_array ∷ ts) = false
readable (suc left) (Token.begin_array ∷ ts) = readable left ts
readable left (Token.end_array ∷ ts) = readable (suc left) ts
readable left (Token.key s ∷ ts) = readable left ts
readable left (Token.string s ∷ ts) = readable left ts
readable left (Token.number s ∷ ts) = is_some (number_of s) && readable left ts
readable left (Token.boolean b ∷ ts) = readable left ts
readable left (Token.null ∷ ts) = readable left ts
readable left (Token.bad ∷ ts) = readable left ts

le_max : (a b left : ℕ) → nat_le (max a b) left ≡ (nat_le a left && nat_le b left)
le_max a b left = grind (arith, nat_tests)

le_suc : (a left : ℕ) → nat_le (suc a) (suc left) ≡ nat_le a left
le_suc a left = grind (arith, nat_tests)

not_zero : (a : ℕ) → nat_le (suc a) zero ≡ false
not_zero a = grind (arith, nat_tests)

zero_le : (left : ℕ) → nat_le 0 left ≡ true
zero_le left = grind (arith, nat_tests)

mapped : {A B : Type 0} (f : A → B) (o : Option A) → is_some (option_map f o) ≡ is_some o
mapped f None = refl
mapped f (Some a) = refl

-- a leaf
leaf : (left : ℕ) (b : Bool) → b ≡ ((nat_le 0 left && true) && b)
leaf left b = rw zero_le

numeral : {A : Type 0} (o : Option A) (f : A → Data) (left : ℕ) (b : Bool) → (is_some o && b) ≡ ((nat_le 0 left && is_some (option_map f o)) && b)
numeral None f left b = rw zero_le
numeral (Some a) f left b = rw zero_le

-- the first of more, and the rest
more : {A B : Type 0} (o : Option A) (f : A → Option B) (a b : Bool) (all end : Bool) → ((x : A) → all ≡ ((b && is_some (f x)) && end)) → ((a && is_some o) && all) ≡ (((a && b) && is_some (option_and_then f o)) && end)
more None f true true all end each = refl
more None f true false all end each = refl
more None f false b all end each = refl
more (Some x) f false b all end each = refl
more (Some x) f true true all end each = each x
more (Some x) f true false all end each = each x

mutual
  walk : (j : Json) (left : ℕ) (rest : List Token) → readable left (json_tokens j ++ rest) ≡ ((nat_le (depth j) left && is_some (of_json j)) && readable left rest)
  walk json.null left rest = leaf left _
  walk (json.boolean b) left rest = leaf left _
  walk (json.number s) left rest = numeral (number_of s) _ left _
  walk (json.string s) left rest = leaf left _
  walk (json.array js) zero rest = rw not_zero
  walk (json.array js) (suc left) rest = walk_items js left rest ∙ rw (mapped array (of_items js), le_suc (items_depth js) left)
  walk (json.object ms) zero rest = rw not_zero
  walk (json.object ms) (suc left) rest = walk_members ms no_members left rest ∙ rw (mapped object (of_members ms no_members), le_suc (members_depth ms) left)

  walk_items : (js : json.Items) (left : ℕ) (rest : List Token) → readable left (items_tokens js ++ rest) ≡ ((nat_le (items_depth js) left && is_some (of_items js)) && readable (suc left) rest)
  walk_items json.no_items left rest = leaf left _
  walk_items (json.item j js) left rest =
      ap (readable left) (append_assoc (json_tokens j) (items_tokens js) rest)
      ∙ walk j left (items_tokens js ++ rest)
      ∙ more (of_json j) (λ d. option_map (item d) (of_items js)) (nat_le (depth j) left) (nat_le (items_depth js) left) _ (readable (suc left) rest)
      (λ d. walk_items js left rest ∙ ap (λ b. (nat_le (items_depth js) left && b) && readable (suc left) rest) (sym (mapped (item d) (of_items js))))
      ∙ ap (λ b. (b && is_some (of_items (json.item j js))) && readable (suc left) rest) (sym (le_max (depth j) (items_depth js) left))

  walk_members : (ms : json.Members) (found : Members) (left : ℕ) (rest : List Token)
      → readable left (members_tokens ms ++ rest) ≡ ((nat_le (members_depth ms) left && is_some (of_members ms found)) && readable (suc left) rest)
  walk_members json.no_members found left rest = leaf left _
  walk_members (json.member k j ms) found left rest =
      ap (readable left) (append_assoc (json_tokens j) (members_tokens ms) rest)
      ∙ walk j left (members_tokens ms ++ rest)
      ∙ more (of_json j) (λ d. of_members ms (put k d found)) (nat_le (depth j) left) (nat_le (members_depth ms) left) _ (readable (suc left) rest) (λ d. walk_members ms (put k d found) left rest)
      ∙ ap (λ b. (b && is_some (of_members (json.member k j ms) found)) && readable (suc left) rest) (sym (le_max (depth j) (members_depth ms) left))

unit_right : (b : Bool) → (b && true) ≡ b
unit_right true = refl
unit_right false = refl

pub readable-json_tokens : (ts : List Token) (left : ℕ) (j : Json) → ts ≡ json_tokens j → readable left ts ≡ (nat_le (depth j) left && is_some (of_json j))
readable-json_tokens ts left j e = ap (readable left) (e ∙ sym (append-nil (json_tokens j))) ∙ walk j left [] ∙ unit_right _

-- ---- a node at a place

drop-node : (nodes : List Node) (i : ℕ) (d n : Node) → i < length nodes → get_or nodes i d ≡ n → map node_token (drop i nodes) ≡ node_token n ∷ map node_token (drop (suc i) nodes)
drop-node nodes i d n h e = ap (map node_token) (drop-cons nodes i d h) ∙ ap (λ x. node_token x ∷ map node_token (drop (suc i) nodes)) e

abbrev pub Opens : Node → Type 0
Opens n = ((x : ℕ) × (n ≡ Object x)) ⊎ ((x : ℕ) × (n ≡ Array x))

pub too_deep : (nodes : List Node) (i left : ℕ) (d : Node) → i < length nodes → left ≡ 0 → Opens (get_or nodes i d) → readable left (map node_token (drop i nodes)) ≡ false
too_deep nodes i left d h e (inl w) = rw (e, drop-node nodes i d (Object w.0) h w.1)
too_deep nodes i left d h e (inr w) = rw (e, drop-node nodes i d (Array w.0) h w.1)

pub too_large : (nodes : List Node) (i left : ℕ) (d : Node) (s : Bor (List ℕ)) → i < length nodes → get_or nodes i d ≡ Number s → is_some (number_of s.now) ≡ false → readable left (map node_token (drop i nodes)) ≡ false
too_large nodes i left d s h e out = rw (drop-node nodes i d (Number s) h e) (rw out)

pub no_more : (nodes : List Node) (i left : ℕ) → length nodes ≤ i → readable left (map node_token (drop i nodes)) ≡ true
no_more nodes i left h = rw (drop_of_length-le nodes h)
