-- The data that a text is, by the JSON value that it is.
use Rattle.std.proofs.Common.{◌≡◌, ℕ, ◌≤◌, Bool, true, false, ◌&&◌, nat_le, List, [], ◌∷◌, Option, Some, None, is_some, option_and_then, refl, sym, ap, ◌∙◌, subst, arith}
use Rattle.std.proofs.lemmas.Bool.Decides.{nat_tests}
use Rattle.std.specs.Prelude.{IsSome, unwrap_or}
use Rattle.json.specs.Token.{Token}
use Rattle.json.specs.Lex.{tokens}
use Rattle.json.specs.Json as json
use Rattle.json.specs.Json.{Json, if_last, document}
use Rattle.json.specs.Find.{BeginsWith}
use Rattle.json.specs.Tree.{json_tokens, depth}
use Rattle.json.proofs.Found.{Some_inj, document-BeginsWith}
use Rattle.json.proofs.Nesting.{value-depth}
use Rattle.json.proofs.Unique.Spelling.{tokens-document}
use Rattle.serde_json.specs.Data.{Data, null}
use Rattle.serde_json.specs.Read.{of_json, read, max_depth}
use Rattle.sci_json.specs.View.{data_of, view}
use Rattle.sci_json.proofs.Standing.{then_some, some_or, value_at, standing, view_is}

last : (o : Option (Json × List Token)) (j : Json) → option_and_then (λ p. if_last p.0 p.1) o ≡ Some j → o ≡ Some (j, [])
last None j e = absurd (cc)
last (Some (i, [])) j e = ap (λ x. Some (x, [])) (Some_inj i j e)
last (Some (i, t ∷ ts)) j e = absurd (cc)

-- what a text is read as, is a JSON value that nests no deeper than a text may
pub read_is : (text : List ℕ) (d : Data) → read text ≡ Some d → (j : Json) × (document text ≡ Some j) × (depth j ≤ max_depth) × (of_json j ≡ Some d)
read_is text d e =
    let s = then_some of_json (option_and_then (λ p. if_last p.0 p.1) (json.value max_depth (tokens text))) d e in
    let here = last (json.value max_depth (tokens text)) s.0 s.1 in
    let low = value-depth max_depth (tokens text) [] s.0 here in
    let deep = value_at json.max_depth max_depth (tokens text) [] s.0 here (omega (arith, low)) in
    (s.0, ap (option_and_then (λ p. if_last p.0 p.1)) deep, low, s.2)

pub read_of : (text : List ℕ) (j : Json) (d : Data) → document text ≡ Some j → depth j ≤ max_depth → of_json j ≡ Some d → read text ≡ Some d
read_of text j d e low is =
    let here = last (json.value json.max_depth (tokens text)) j e in
    let at = value_at max_depth json.max_depth (tokens text) [] j here low in
    ap (λ o. option_and_then of_json (option_and_then (λ p. if_last p.0 p.1) o)) at ∙ is

none_of : {A : Type 0} (o : Option A) → ((a : A) → o ≡ Some a → ⊥) → o ≡ None
none_of None never = refl
none_of (Some a) never = absurd (never a refl)

-- ---- what a text is that was read, or refused

pub no_document : (text : List ℕ) → document text ≡ None → read text ≡ None
no_document text e = none_of (read text) (λ d is. let r = read_is text d is in let apart : None ≡ Some r.0 = sym e ∙ r.1 in absurd (cc))

both : (a b : Bool) → true ≡ (a && b) → (a ≡ true) × (b ≡ true)
both true true e = (refl, refl)
both true false e = absurd (cc)
both false b e = absurd (cc)

shallow : (n : ℕ) → nat_le n max_depth ≡ true → n ≤ max_depth
shallow n e = grind (arith, nat_tests)

is_low : (n : ℕ) → n ≤ max_depth → nat_le n max_depth ≡ true
is_low n e = grind (arith, nat_tests)

abbrev pub Answered : List ℕ → List Token → Bool → Type 0
Answered text ts true = IsSome (data_of ts) × (read text ≡ Some (view ts))
Answered text ts false = read text ≡ None

-- the walk's answer
pub answered : (text : List ℕ) (ts : List Token) (b : Bool) → ts ≡ tokens text → IsSome (document text) → ((j : Json) → ts ≡ json_tokens j → b ≡ (nat_le (depth j) max_depth && is_some (of_json j))) → Answered text ts b
answered text ts true e some walked =
    let s = some_or (document text) json.null some in
    let j = unwrap_or (document text) json.null in
    let found = both (nat_le (depth j) max_depth) (is_some (of_json j)) (walked j (e ∙ tokens-document text j s)) in
    let d = some_or (of_json j) null found.1 in
    let low = shallow (depth j) found.0 in
    let begins = subst (λ l. BeginsWith l j) (sym e) (document-BeginsWith text j s) in
    let stands = standing ts j (unwrap_or (of_json j) null) begins low d in
    (ap is_some stands, read_of text j _ s low d ∙ ap Some (sym (view_is ts _ stands)))
answered text ts false e some walked =
    none_of (read text) (λ d is.
    let r = read_is text d is in
    let yes : (nat_le (depth r.0) max_depth && is_some (of_json r.0)) ≡ true = rw (is_low (depth r.0) r.2, r.3) in
    let no : false ≡ true = walked r.0 (e ∙ tokens-document text r.0 r.1) ∙ yes in
    absurd (cc))
