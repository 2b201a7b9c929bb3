-- Names by number.
use Rattle.std.proofs.Common.{◌≡◌, ◌≢◌, ◌<◌, ◌≤◌, ◌+◌, ℕ, zero, suc, List, [], ◌∷◌, ◌++◌, length, Bool, true, false, cond, inl, inr, refl, sym, ap, ◌∙◌, subst, arith, Option, Some, None, get_or, length-append, true≢false}
use Rattle.std.specs.Prelude.{◌&&◌, ◌||◌, not, nat_eq, nat_lt, is_some, map, All, IsTrue, ◌↔◌}
use Rattle.std.specs.List.{list_any, position_or_len, position_from}
use Rattle.std.specs.Option.{option_or}
use Rattle.std.proofs.lemmas.Bool.{cases_Bool, eqb-true, eq-eqb, lt-ltb, le-ltb, ltb-true}
use Rattle.std.proofs.lemmas.List.{get_or_past}
use Rattle.std.proofs.lemmas.List.Folds.{list_any-append}
use Rattle.std.proofs.lemmas.List.Quantifiers.{position-Some}
use Rattle.std.proofs.lemmas.Iterator.Adapters.{position_from-zero}
use Rattle.indexmap.specs.IndexSet.{insert_key, insert_all}
use Rattle.c_ast.specs.declared.Decl.{Decl}
use Rattle.c_ast.specs.declared.Func.{Func}
use Rattle.c_ast.specs.declared.Name.{Name}
use Rattle.c_ast.specs.declared.Program.{Program}
use Rattle.c_ast.specs.Rules.{same_name, is_among}
use Rattle.c_ast.specs.View.{declared_of, function_of, whole_of}
use Rattle.c_rules.specs.Naming.{number_in, is_numbered, declared_name, function_name, declared_names, once, is_any_twice, at_number, at_place, by_name}

both_true : (a b : Bool) → (a && b) ≡ true → (a ≡ true) × (b ≡ true)
both_true true true e = (refl, refl)
both_true true false e = absurd (true≢false (sym e))
both_true false b e = absurd (true≢false (sym e))

-- names that pass the test are one
pub one_name : (x y : Name) → same_name x y ≡ true → x ≡ y
one_name x y e =
    let b = both_true (nat_eq x.letter y.letter) (nat_eq x.number y.number) e in
    let f : ℕ → Name = λ l. record { letter = l; number = x.number } in
    let g : ℕ → Name = λ n. record { letter = y.letter; number = n } in
    ap f (eqb-true x.letter y.letter b.0) ∙ ap g (eqb-true x.number y.number b.1)

pub same_itself : (x : Name) → same_name x x ≡ true
same_itself x = ap (λ b. b && nat_eq x.number x.number) (eq-eqb x.letter x.letter refl) ∙ eq-eqb x.number x.number refl

-- ---- a name that is put into the list

place_pushed : (x : Name) (names : List Name) → position_or_len (same_name x) (names ++ x ∷ []) ≡ position_or_len (same_name x) names
place_pushed x [] = ap (λ (b : Bool). cond (not b) (1 + 0) 0) (same_itself x)
place_pushed x (y ∷ names) = ap (λ (n : ℕ). cond (not (same_name x y)) (1 + n) 0) (place_pushed x names)

place_inserted : (x : Name) (names : List Name) → position_or_len (same_name x) (insert_key same_name names x) ≡ position_or_len (same_name x) names
place_inserted x names = by (list_any (same_name x) names)
  where
    by : (b : Bool) → position_or_len (same_name x) (cond b names (names ++ x ∷ [])) ≡ position_or_len (same_name x) names
    by true = refl
    by false = place_pushed x names

-- its number is where it stands first
pub number_inserted : (x : Name) (old new : List Name) (n : ℕ) → new ≡ insert_key same_name old x → n ≡ position_or_len (same_name x) old → n < length new → number_in new x ≡ Some n
number_inserted x old new n is at within =
    let p : position_or_len (same_name x) new ≡ n = ap (position_or_len (same_name x)) is ∙ place_inserted x old ∙ sym at in
    sym (position_from-zero (same_name x) new) ∙ ap (λ k. cond (nat_lt k (length new)) (Some k) None) p ∙ ap (λ b. cond b (Some n) None) (lt-ltb n (length new) within)

-- ---- the first that passes, with one name more

abbrev first_of : Option ℕ → Option ℕ → Option ℕ
first_of None o = o
first_of (Some n) o = Some n

first_pushed : (test : Name → Bool) (i : ℕ) (names : List Name) (x : Name) → position_from test i (names ++ x ∷ []) ≡ first_of (position_from test i names) (cond (test x) (Some (i + length names)) None)
first_pushed test i [] x = let z : i + 0 ≡ i = omega arith in ap (λ j. cond (test x) (Some j) None) (sym z)
first_pushed test i (y ∷ names) x =
    let on : (i + 1) + length names ≡ i + suc (length names) = omega arith in
    ap (λ o. cond (test y) (Some i) o) (first_pushed test (i + 1) names x ∙ ap (λ n. first_of (position_from test (i + 1) names) (cond (test x) (Some n) None)) on) ∙ by (test y)
  where
    by : (b : Bool) → cond b (Some i) (first_of (position_from test (i + 1) names) (cond (test x) (Some (i + suc (length names))) None)) ≡ first_of (cond b (Some i) (position_from test (i + 1) names)) (cond (test x) (Some (i + suc (length names))) None)
    by true = refl
    by false = refl

module _ {A : Type 0} (d : A) (values : List A) where
  none_at_end : (n : ℕ) (o : Option ℕ) (b : Bool) → length values ≤ n → at_number d values (first_of o (cond b (Some n) None)) ≡ at_number d values o
  none_at_end n (Some k) b h = refl
  none_at_end n None true h = get_or_past values n d h
  none_at_end n None false h = refl

  -- a name that is put into the list gives none a value
  pub grown : (names : List Name) (x q : Name) → length values ≤ length names → at_number d values (number_in (insert_key same_name names x) q) ≡ at_number d values (number_in names q)
  grown names x q h = by (list_any (same_name x) names)
    where
      zero_more : 0 + length names ≡ length names
      zero_more = omega arith

      by : (b : Bool) → at_number d values (number_in (cond b names (names ++ x ∷ [])) q) ≡ at_number d values (number_in names q)
      by true = refl
      by false = ap (at_number d values) (first_pushed (same_name q) 0 names x ∙ ap (λ (n : ℕ). first_of (number_in names q) (cond (same_name q x) (Some n) None)) zero_more) ∙ none_at_end (length names) (number_in names q) (same_name q x) h

pub longer : (names : List Name) (x : Name) → length names ≤ length (insert_key same_name names x)
longer names x = by (list_any (same_name x) names)
  where
    by : (b : Bool) → length names ≤ length (cond b names (names ++ x ∷ []))
    by true = omega arith
    by false = omega (arith, length-append names (x ∷ []))

-- ---- which names are numbered

numbered_from : (x : Name) (i : ℕ) (names : List Name) → is_some (position_from (same_name x) i names) ≡ list_any (same_name x) names
numbered_from x i [] = refl
numbered_from x i (y ∷ names) = by (same_name x y) (numbered_from x (i + 1) names)
  where
    by : (b : Bool) → is_some (position_from (same_name x) (i + 1) names) ≡ list_any (same_name x) names → is_some (cond b (Some i) (position_from (same_name x) (i + 1) names)) ≡ (b || list_any (same_name x) names)
    by true e = refl
    by false e = e

pub numbered_any : (x : Name) (names : List Name) → is_numbered names x ≡ list_any (same_name x) names
numbered_any x names = numbered_from x 0 names

or_true : (b : Bool) → (b || true) ≡ true
or_true true = refl
or_true false = refl

or_false : (b : Bool) → (b || false) ≡ b
or_false true = refl
or_false false = refl

or_assoc : (a b c : Bool) → ((a || b) || c) ≡ (a || (b || c))
or_assoc true b c = refl
or_assoc false b c = refl

any_inserted : (x y : Name) (names : List Name) → list_any (same_name x) (insert_key same_name names y) ≡ (list_any (same_name x) names || same_name x y)
any_inserted x y names = by (list_any (same_name y) names) refl
  where
    again : (b : Bool) → same_name x y ≡ b → list_any (same_name y) names ≡ true → list_any (same_name x) names ≡ (list_any (same_name x) names || b)
    again true e t = let has : list_any (same_name x) names ≡ true = ap (λ (z : Name). list_any (same_name z) names) (one_name x y e) ∙ t in has ∙ sym (or_true (list_any (same_name x) names))
    again false e t = sym (or_false (list_any (same_name x) names))

    by : (b : Bool) → list_any (same_name y) names ≡ b → list_any (same_name x) (cond b names (names ++ y ∷ [])) ≡ (list_any (same_name x) names || same_name x y)
    by true e = again (same_name x y) refl e ∙ ap (λ (c : Bool). list_any (same_name x) names || c) refl
    by false e = list_any-append (same_name x) names (y ∷ []) ∙ ap (λ (c : Bool). list_any (same_name x) names || c) (or_false (same_name x y))

any_all : (x : Name) (names more : List Name) → list_any (same_name x) (insert_all same_name names more) ≡ (list_any (same_name x) names || list_any (same_name x) more)
any_all x names [] = sym (or_false (list_any (same_name x) names))
any_all x names (y ∷ more) =
    any_all x (insert_key same_name names y) more
    ∙ ap (λ (b : Bool). b || list_any (same_name x) more) (any_inserted x y names)
    ∙ or_assoc (list_any (same_name x) names) (same_name x y) (list_any (same_name x) more)

all_appended : (names a b : List Name) → insert_all same_name (insert_all same_name names a) b ≡ insert_all same_name names (a ++ b)
all_appended names [] b = refl
all_appended names (x ∷ a) b = all_appended (insert_key same_name names x) a b

-- first those of one list, and then those of another
pub numbered_once : (a b names more : List Name) → names ≡ insert_all same_name [] a → more ≡ insert_all same_name names b → more ≡ once (a ++ b)
numbered_once a b names more is next = next ∙ ap (λ (l : List Name). insert_all same_name l b) is ∙ all_appended [] a b

pub numbered_exactly : (declared names : List Name) → names ≡ once declared → (x : Name) → is_numbered names x ≡ list_any (same_name x) declared
numbered_exactly declared names is x = ap (λ (l : List Name). is_numbered l x) is ∙ numbered_any x (once declared) ∙ any_all x [] declared

variable_there : (more : List Name) (decls : List Decl) (k : ℕ) (d : Decl) → k < length decls → list_any (same_name (get_or decls k d).name) (map declared_name (map declared_of decls) ++ more) ≡ true
variable_there more [] k d h = absurd (omega arith)
variable_there more (e ∷ decls) zero d h = ap (λ (b : Bool). b || list_any (same_name e.name) (map declared_name (map declared_of decls) ++ more)) (same_itself e.name)
variable_there more (e ∷ decls) (suc k) d h =
    let less : k < length decls = omega arith in
    ap (λ (b : Bool). same_name (get_or decls k d).name e.name || b) (variable_there more decls k d less) ∙ or_true (same_name (get_or decls k d).name e.name)

function_there : (before : List Name) (funcs : List Func) (k : ℕ) (d : Func) → k < length funcs → list_any (same_name (get_or funcs k d).name) (before ++ map function_name (map function_of funcs)) ≡ true
function_there (x ∷ before) funcs k d h = ap (λ (b : Bool). same_name (get_or funcs k d).name x || b) (function_there before funcs k d h) ∙ or_true (same_name (get_or funcs k d).name x)
function_there [] [] k d h = absurd (omega arith)
function_there [] (e ∷ funcs) zero d h = ap (λ (b : Bool). b || list_any (same_name e.name) (map function_name (map function_of funcs))) (same_itself e.name)
function_there [] (e ∷ funcs) (suc k) d h =
    let less : k < length funcs = omega arith in
    ap (λ (b : Bool). same_name (get_or funcs k d).name e.name || b) (function_there [] funcs k d less) ∙ or_true (same_name (get_or funcs k d).name e.name)

-- each variable and each function of the program has a number
module _ (p : Program) (names : List Name) (exactly : (x : Name) → is_numbered names x ≡ list_any (same_name x) (declared_names (whole_of p))) where
  pub variables_numbered : All (λ (d : Decl). IsTrue (is_numbered names d.name)) p.decls.items
  variables_numbered k d h = exactly (get_or p.decls.items k d).name ∙ variable_there (map function_name (map function_of p.funcs.items)) p.decls.items k d h

  pub functions_numbered : All (λ (f : Func). IsTrue (is_numbered names f.name)) p.funcs.items
  functions_numbered k d h = exactly (get_or p.funcs.items k d).name ∙ function_there (map declared_name (map declared_of p.decls.items)) p.funcs.items k d h

-- ---- names that stand twice

-- one of these is among those
abbrev meets : List Name → List Name → Bool
meets before [] = false
meets before (x ∷ names) = list_any (same_name x) before || meets before names

-- one of these is among those before it
abbrev comes_again : List Name → List Name → Bool
comes_again before [] = false
comes_again before (x ∷ names) = list_any (same_name x) before || comes_again (insert_key same_name before x) names

shuffle : (a b c d : Bool) → ((a || b) || (c || d)) ≡ ((a || c) || (b || d))
shuffle true b c d = refl
shuffle false true true d = refl
shuffle false true false d = refl
shuffle false false c d = refl

meets_none : (names : List Name) → meets [] names ≡ false
meets_none [] = refl
meets_none (x ∷ names) = meets_none names

meets_pushed : (before : List Name) (x : Name) (names : List Name) → meets (before ++ x ∷ []) names ≡ (meets before names || is_among names x)
meets_pushed before x [] = refl
meets_pushed before x (y ∷ names) =
    ap (λ (b : Bool). b || meets (before ++ x ∷ []) names) (list_any-append (same_name y) before (x ∷ []) ∙ ap (λ (c : Bool). list_any (same_name y) before || c) (or_false (same_name y x)))
    ∙ ap (λ (b : Bool). (list_any (same_name y) before || same_name y x) || b) (meets_pushed before x names)
    ∙ shuffle (list_any (same_name y) before) (same_name y x) (meets before names) (is_among names x)

again_is : (before names : List Name) → comes_again before names ≡ (meets before names || is_any_twice names)
again_is before [] = refl
again_is before (x ∷ names) = by (list_any (same_name x) before) (again_is (before ++ x ∷ []) names)
  where
    by : (b : Bool) → comes_again (before ++ x ∷ []) names ≡ (meets (before ++ x ∷ []) names || is_any_twice names)
        → (b || comes_again (cond b before (before ++ x ∷ [])) names) ≡ ((b || meets before names) || (is_among names x || is_any_twice names))
    by true e = refl
    by false e = e ∙ ap (λ (c : Bool). c || is_any_twice names) (meets_pushed before x names) ∙ or_assoc (meets before names) (is_among names x) (is_any_twice names)

at_most : (before names : List Name) → length (insert_all same_name before names) ≤ length before + length names
at_most before [] = omega arith
at_most before (x ∷ names) = by (list_any (same_name x) before) (at_most before names) (at_most (before ++ x ∷ []) names)
  where
    by : (b : Bool) → length (insert_all same_name before names) ≤ length before + length names → length (insert_all same_name (before ++ x ∷ []) names) ≤ length (before ++ x ∷ []) + length names
        → length (insert_all same_name (cond b before (before ++ x ∷ [])) names) ≤ length before + suc (length names)
    by true h g = omega arith
    by false h g = omega (arith, length-append before (x ∷ []))

fewer : (before names : List Name) → nat_lt (length (insert_all same_name before names)) (length before + length names) ≡ comes_again before names
fewer before [] = le-ltb _ _ (omega arith)
fewer before (x ∷ names) = by (list_any (same_name x) before) (fewer (before ++ x ∷ []) names)
  where
    by : (b : Bool) → nat_lt (length (insert_all same_name (before ++ x ∷ []) names)) (length (before ++ x ∷ []) + length names) ≡ comes_again (before ++ x ∷ []) names
        → nat_lt (length (insert_all same_name (cond b before (before ++ x ∷ [])) names)) (length before + suc (length names)) ≡ (b || comes_again (cond b before (before ++ x ∷ [])) names)
    by true e = let most = at_most before names in lt-ltb _ _ (omega arith)
    by false e =
        let on : length before + suc (length names) ≡ length (before ++ x ∷ []) + length names = omega (arith, length-append before (x ∷ [])) in
        ap (nat_lt (length (insert_all same_name (before ++ x ∷ []) names))) on ∙ e

-- the list of names is shorter exactly where one stands twice
pub shorter_exactly : (declared names : List Name) → names ≡ once declared → IsTrue (is_any_twice declared) ↔ (length names < length declared)
shorter_exactly declared names is =
    let same : length names ≡ length (once declared) = ap length is in
    let zero_more : 0 + length declared ≡ length declared = omega arith in
    let e : nat_lt (length (once declared)) (length declared) ≡ is_any_twice declared =
    ap (nat_lt (length (once declared))) (sym zero_more) ∙ fewer [] declared ∙ again_is [] declared ∙ ap (λ (b : Bool). b || is_any_twice declared) (meets_none declared) in
    (λ t. let less : length (once declared) < length declared = ltb-true _ _ (e ∙ t) in omega arith, λ h. let less : length (once declared) < length declared = omega arith in sym e ∙ lt-ltb _ _ less)

-- ---- a value at the number of a name

here : (names : List Name) (q : Name) (n : ℕ) (e : number_in names q ≡ Some n) → same_name q (get_or names n q) ≡ true
here names q n e = (position-Some (same_name q) names n q (position_from-zero (same_name q) names ∙ e)).1

-- two names of one number are one
pub one_number : (names : List Name) (x q : Name) (n : ℕ) → number_in names x ≡ Some n → number_in names q ≡ Some n → x ≡ q
one_number names x q n e f =
    let a = position-Some (same_name x) names n x (position_from-zero (same_name x) names ∙ e) in
    let b = position-Some (same_name q) names n x (position_from-zero (same_name q) names ∙ f) in
    one_name x (get_or names n x) a.1 ∙ sym (one_name q (get_or names n x) b.1)

module _ {A : Type 0} (d : A) (old new : List A) (names : List Name) (x : Name) (n : ℕ) (e : number_in names x ≡ Some n) where
  pub at_name : (q : Name) → same_name x q ≡ true → at_number d new (number_in names q) ≡ get_or new n d
  at_name q t = ap (λ y. at_number d new (number_in names y)) (sym (one_name x q t)) ∙ ap (at_number d new) e

  pub elsewhere : ((m : ℕ) → m ≢ n → get_or new m d ≡ get_or old m d) → (q : Name) → same_name x q ≡ false → at_number d new (number_in names q) ≡ at_number d old (number_in names q)
  elsewhere others q f = by (number_in names q) refl
    where
      by : (o : Option ℕ) → number_in names q ≡ o → at_number d new o ≡ at_number d old o
      by None is = refl
      by (Some m) is = others m (λ s. absurd (true≢false (sym (ap (same_name x) (sym (one_number names x q n e (is ∙ ap Some s))) ∙ same_itself x) ∙ f)))

-- the value of a name was put at its number
pub put_by_name : {A : Type 0} (old new : List (Option A)) (names : List Name) (x : Name) (n : ℕ) (v : A) → number_in names x ≡ Some n → at_place new n ≡ Some v → ((m : ℕ) → m ≢ n → at_place new m ≡ at_place old m)
    → (q : Name) → by_name names new q ≡ cond (same_name x q) (Some v) (by_name names old q)
put_by_name {A} old new names x n v e is others q = elim (cases_Bool (same_name x q)) [
  | inl t ↦ at_name None old new names x n e q t ∙ is ∙ ap (λ (b : Bool). cond b (Some v) (by_name names old q)) (sym t)
  | inr f ↦ elsewhere None old new names x n e others q f ∙ ap (λ (b : Bool). cond b (Some v) (by_name names old q)) (sym f)
]

-- the same where the name was put into the list just before
pub put_new : {A : Type 0} (old new : List (Option A)) (before names : List Name) (x : Name) (n : ℕ) (v : A) → names ≡ insert_key same_name before x → length old ≤ length before → number_in names x ≡ Some n → at_place new n ≡ Some v
    → ((m : ℕ) → m ≢ n → at_place new m ≡ at_place old m) → (q : Name) → by_name names new q ≡ cond (same_name x q) (Some v) (by_name before old q)
put_new {A} old new before names x n v grows long e is others q =
    put_by_name old new names x n v e is others q
    ∙ ap (λ (o : Option A). cond (same_name x q) (Some v) o) (ap (λ (l : List Name). by_name l old q) grows ∙ grown None old before x q long)

or_none : {A : Type 0} (o : Option A) → option_or o None ≡ o
or_none None = refl
or_none (Some v) = refl

-- the value of a name was put at its number, where nothing stood there
module _ {A : Type 0} (old : List (Option A)) (names : List Name) (x : Name) (n : ℕ) (v : A) (e : number_in names x ≡ Some n) where
  pub kept_there : (w : A) → at_place old n ≡ Some w → (q : Name) → by_name names old q ≡ option_or (by_name names old q) (cond (same_name x q) (Some v) None)
  kept_there w is q = elim (cases_Bool (same_name x q)) [
    | inl t ↦ let there : by_name names old q ≡ Some w = at_name None old old names x n e q t ∙ is in there ∙ sym (ap (λ (o : Option A). option_or o (cond (same_name x q) (Some v) None)) there)
    | inr f ↦ sym (ap (λ (b : Bool). option_or (by_name names old q) (cond b (Some v) None)) f ∙ or_none (by_name names old q))
  ]

  pub entered_there : (new : List (Option A)) → at_place old n ≡ None → at_place new n ≡ Some v → ((m : ℕ) → m ≢ n → at_place new m ≡ at_place old m)
      → (q : Name) → by_name names new q ≡ option_or (by_name names old q) (cond (same_name x q) (Some v) None)
  entered_there new none is others q = put_by_name old new names x n v e is others q ∙ elim (cases_Bool (same_name x q)) [
    | inl t ↦ let there : by_name names old q ≡ None = at_name None old old names x n e q t ∙ none in
        ap (λ (b : Bool). cond b (Some v) (by_name names old q)) t ∙ sym (ap (λ (o : Option A). option_or o (cond (same_name x q) (Some v) None)) there ∙ ap (λ (b : Bool). cond b (Some v) None) t)
    | inr f ↦ ap (λ (b : Bool). cond b (Some v) (by_name names old q)) f ∙ sym (ap (λ (b : Bool). option_or (by_name names old q) (cond b (Some v) None)) f ∙ or_none (by_name names old q))
  ]
