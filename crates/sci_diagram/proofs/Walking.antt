-- Steps of the walk through a diagram's objects.
use Rattle.std.proofs.Common.{◌≡◌, ℕ, zero, suc, ◌+◌, ◌-◌, ◌<◌, ◌≤◌, List, [], ◌∷◌, ◌++◌, length, map, length-append, Bool, true, false, cond, codes, pos, ℤ, Option, Some, None, Result, Ok, Err, refl, sym, ap, ◌∙◌, subst, Vec, Global, rules, arith}
use Rattle.std.specs.Prelude.{⊤, is_some}
use Rattle.std.proofs.lemmas.List.{map-append}
use Rattle.serde_json.specs.Data.{Data, null, boolean, number, string, array, object, Items, no_items, item}
use Rattle.serde_json.specs.Find.{get, as_array, as_object}
use Rattle.sci_base.specs.Plain.{Violation}
use Rattle.sci_base.specs.Outcome.{Outcome, ◌>>=◌}
use Rattle.sci_json.specs.Field.{formed, field_of, field}
use Rattle.sci_base.specs.declared.stop.Stop.{Stop}
use Rattle.sci_diagram.specs.Objects.{Object, Objects, no_objects, object as one_object, objects_of, object_view, diagram_view}
use Rattle.sci_diagram.specs.declared.diagram.Obj.{Obj}
use Rattle.sci_diagram.specs.declared.diagram.Diagram.{roll-Diagram, the_lemmas}
use Rattle.sci_diagram.specs.Tree.{wrong, too_deep, required, whole_object, Inner, read_object, walk, list_of, diagram_at}
use Rattle.sci_base.specs.Stops.{Stops}
use Rattle.sci_diagram.specs.Weight.{weight, items_weight}
use Rattle.sci_base.proofs.Stopping.{stops_then}
use Rattle.sci_diagram.proofs.Light.{AtMost, get_light, positive}

-- ---- levels

pub last_level : (left : ℕ) (at : List ℕ) (d : Data) → left ≡ 0 → diagram_at left at d ≡ Err (too_deep at)
unfolding diagram_at
last_level left at d e = rw e refl

pub one_level : (left : ℕ) (at : List ℕ) (d : Data) → 0 < left → diagram_at left at d ≡ (list_of at d >>= walk (diagram_at (left - 1)) at 1)
unfolding diagram_at
one_level zero at d h = absurd (omega arith)
one_level (suc left) at d h = let e : suc left - 1 ≡ left = omega arith in rw e refl

-- ---- weights

abbrev AtMostOk : {A : Type 0} → (A → ℕ) → ℕ → Result A Violation → Type 0
AtMostOk f n (Ok a) = f a ≤ n
AtMostOk f n (Err e) = ⊤

required_light : {A : Type 0} (f : A → ℕ) (at : List ℕ) (code : ℤ) (form : Data → Option A) (n : ℕ) → ((d : Data) → AtMost f (weight d) (form d)) → (o : Option Data) → AtMost (λ e. weight e + 1) n o → AtMostOk f n (required at code (field_of form o))
required_light f at code form n h None k = tt
required_light f at code form n h (Some d) k = formed_light (form d) (h d)
  where
    formed_light : (o : Option _) → AtMost f (weight d) o → AtMostOk f n (required at code (formed o))
    formed_light None q = tt
    formed_light (Some a) q = omega arith

whole_light : (d : Data) → AtMost weight (weight d) (whole_object d)
whole_light null = tt
whole_light (boolean b) = tt
whole_light (number n) = tt
whole_light (string s) = tt
whole_light (array ds) = tt
whole_light (object ms) = omega arith

pub model_light : (at : List ℕ) (code : ℤ) (name : List ℕ) (d m : Data) → required at code (field whole_object name d) ≡ Ok m → weight m ≤ weight d
model_light at code name d m e = subst (AtMostOk weight (weight d)) e (required_light weight at code whole_object (weight d) whole_light (get name d) (get_light name d))

array_light : (d : Data) → AtMost items_weight (weight d) (as_array d)
array_light null = tt
array_light (boolean b) = tt
array_light (number n) = tt
array_light (string s) = tt
array_light (array ds) = omega arith
array_light (object ms) = tt

list_light : (at : List ℕ) (d : Data) → AtMostOk items_weight (weight d) (list_of at d)
unfolding list_of
list_light at d = tested (is_some (as_object d)) _ (required_light items_weight at (pos 1) as_array (weight d) array_light (get (codes "objs") d) (get_light (codes "objs") d))
  where
    tested : (b : Bool) (o : Result Items Violation) → AtMostOk items_weight (weight d) o → AtMostOk items_weight (weight d) (cond b o (Err (wrong at (pos 1))))
    tested true o h = h
    tested false o h = tt

pub objs_light : (at : List ℕ) (d : Data) (ds : Items) → list_of at d ≡ Ok ds → items_weight ds ≤ weight d
objs_light at d ds e = subst (AtMostOk items_weight (weight d)) e (list_light at d)

-- ---- the objects in turn

abbrev pub onto : List Object → Objects → Objects
onto [] os = os
onto (x ∷ xs) os = one_object x (onto xs os)

onto-append : (xs : List Object) (o : Object) (os : Objects) → onto (xs ++ o ∷ []) os ≡ onto xs (one_object o os)
onto-append [] o os = refl
onto-append (x ∷ xs) o os = ap (one_object x) (onto-append xs o os)

onto-none : (xs : List Object) → onto xs no_objects ≡ objects_of xs
onto-none [] = refl
onto-none (x ∷ xs) = ap (one_object x) (onto-none xs)

-- the objects read so far, and then the items, the first of them at position k
abbrev pub rest : Inner → List ℕ → List Object → ℕ → Items → Outcome Objects
rest inner at xs k ds = walk inner at k ds >>= λ os. Ok (onto xs os)

regroup : (o : Object) (xs : List Object) (r : Result Objects Violation) → (r >>= λ os. Ok (onto (xs ++ o ∷ []) os)) ≡ ((r >>= λ os. Ok (one_object o os)) >>= λ os. Ok (onto xs os))
regroup o xs (Err e) = refl
regroup o xs (Ok os) = ap Ok (onto-append xs o os)

pub rest_whole : (inner : Inner) (at : List ℕ) (ds : Items) → rest inner at [] 1 ds ≡ walk inner at 1 ds
rest_whole inner at ds = same (walk inner at 1 ds)
  where
    same : (r : Result Objects Violation) → (r >>= λ os. Ok os) ≡ r
    same (Err e) = refl
    same (Ok os) = refl

pub rest_end : (inner : Inner) (at : List ℕ) (xs : List Object) (k : ℕ) → rest inner at xs k no_items ≡ Ok (objects_of xs)
unfolding walk
rest_end inner at xs k = ap Ok (onto-none xs)

pub place : (at : List ℕ) {m n : ℕ} → m ≡ n → at ++ (m + 1) ∷ [] ≡ at ++ (n + 1) ∷ []
place at e = ap (λ k. at ++ (k + 1) ∷ []) e

-- the items begin with d, whose place in the diagram is here
module _ (inner : Inner) (at : List ℕ) (ds : Items) (d : Data) (es : Items) (is : ds ≡ item d es) (here : List ℕ) where
  opens : (xs : List Object) (k : ℕ) → here ≡ at ++ k ∷ [] → rest inner at xs k ds ≡ ((read_object inner here d >>= λ o. walk inner at (k + 1) es >>= λ os. Ok (one_object o os)) >>= λ os. Ok (onto xs os))
  unfolding walk
  opens xs k there = rw (is, there) refl

  pub rest_stops : (xs : List Object) (k : ℕ) → here ≡ at ++ k ∷ [] → (w : Outcome Objects) → rest inner at xs k ds ≡ w → (e : Stop) → Stops (read_object inner here d) e → Stops w e
  rest_stops xs k there w whole e s = rw (sym whole ∙ opens xs k there) (stops_then _ _ e (stops_then _ _ e s))

  one_more : (xs : List Object) (k : ℕ) → here ≡ at ++ k ∷ [] → (o : Object) → read_object inner here d ≡ Ok o → rest inner at (xs ++ o ∷ []) (k + 1) es ≡ rest inner at xs k ds
  one_more xs k there o e = rw (opens xs k there, e) (regroup o xs (walk inner at (k + 1) es))

  pub rest_more : (xs ys : List Obj) (o : Obj) → here ≡ at ++ (length xs + 1) ∷ [] → read_object inner here d ≡ Ok (object_view o) → ys ≡ xs ++ o ∷ [] → rest inner at (map object_view ys) (length ys + 1) es ≡ rest inner at (map object_view xs) (length xs + 1) ds
  rest_more xs ys o there e f = rw (f, map-append object_view xs (o ∷ []), length-append xs (o ∷ [])) (one_more (map object_view xs) (length xs + 1) there (object_view o) e)

-- each object takes an item, which weighs at least 1
pub fewer : (xs ys : List Obj) (o : Obj) (ds : Items) (d : Data) (es : Items) → ds ≡ item d es → ys ≡ xs ++ o ∷ [] → length ys + items_weight es ≤ length xs + items_weight ds
fewer xs ys o ds d es is f = omega (arith, ap length f, length-append xs (o ∷ []), ap items_weight is, positive d)

-- ---- plain forms

pub diagram_rolls : (v : Vec Obj Global) → diagram_view (roll-Diagram (record { objs = v })) ≡ objects_of (map object_view v.items)
diagram_rolls v = search (rules, the_lemmas)

-- ---- what is inside an object

pub object_whole : (d : Data) → whole_object d ≡ cond (is_some (as_object d)) (Some d) None
object_whole null = refl
object_whole (boolean b) = refl
object_whole (number n) = refl
object_whole (string s) = refl
object_whole (array ds) = refl
object_whole (object ms) = refl
