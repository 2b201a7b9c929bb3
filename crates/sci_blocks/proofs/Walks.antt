-- The objects of a diagram in turn.
use Rattle.std.proofs.Common.{◌≡◌, ℕ, zero, suc, ℤ, pos, negsuc, ◌<ℤ◌, Some, None, ◌+◌, ◌<◌, ◌≤◌, List, [], ◌∷◌, ◌++◌, length, get_or, drop, map, Ok, Err, refl, sym, ap, ◌∙◌, subst, append_assoc, append-nil, rules, arith}
use Rattle.std.specs.Prelude.{slice_get}
use Rattle.std.proofs.lemmas.Int.{ints}
use Rattle.std.proofs.Math.Numerals.{add-one}
use Rattle.std.proofs.lemmas.List.{drop_more, drop_all}
use Rattle.sci_base.specs.Outcome.{Outcome, ◌>>=◌}
use Rattle.sci_diagram.specs.Objects.{superblock, Objects, objects_of, object_view, diagram_view, listed}
use Rattle.sci_diagram.specs.declared.diagram.Obj.{Obj}
use Rattle.std.specs.declared.alloc.Global.{Global}
use Rattle.std.specs.declared.boxed.Box.{Box}
use Rattle.std.specs.Prelude.{string_bytes}
use Rattle.sci_base.specs.Plain.{fields_of}
use Rattle.sci_diagram.specs.declared.diagram.BlockObj.{BlockObj, out-BlockObj, the_lemmas as block_lemmas}
use Rattle.sci_diagram.specs.declared.diagram.Diagram.{Diagram, out-Diagram, the_lemmas}
use Rattle.sci_diagram.specs.declared.diagram.End.{End}
use Rattle.sci_diagram.specs.Count.{objects_in, objects_within}
use Rattle.sci_blocks.specs.declared.fed.FedInputs.{FedInputs}
use Rattle.sci_base.specs.declared.stop.Stop.{Stop}
use Rattle.sci_base.specs.declared.stop.Stop.TheVariants.{Refused, Memory}
use Rattle.sci_blocks.specs.Blocks.{Placed, parts_in, object_parts}
use Rattle.sci_blocks.specs.Wiring.{at_position, fed_by, links_in, object_links}
use Rattle.sci_blocks.specs.Adding.{onto}
use Rattle.sci_blocks.specs.Ending.{HoldsEnds}
use Rattle.sci_blocks.specs.Sizes.{AreInsidesShort, IsInsideShort}
use Rattle.sci_base.specs.Stops.{Stops}
use Rattle.sci_base.proofs.Stopping.{stops_then}

pub diagram_opens : (d : Diagram) → diagram_view d ≡ objects_of (map object_view (out-Diagram d).objs.items)
diagram_opens d = search (rules, the_lemmas)

pub superblock_opens : (o : Obj) (b : BlockObj) (inner : Box Diagram Global) → o ≡ Obj.Block b → (out-BlockObj b).inner ≡ Some inner
    → object_view o ≡ superblock (string_bytes (out-BlockObj b).gui) (fields_of (out-BlockObj b).fields) (diagram_view inner.value)
superblock_opens o b inner is inside = search (rules, block_lemmas)

-- ---- sizes

pub listed_length : (os : List Obj) → length (listed (objects_of (map object_view os))) ≡ length os
listed_length [] = refl
listed_length (o ∷ os) = ap suc (listed_length os)

inside_at : (os : List Obj) (i : ℕ) (d : Obj) → i < length os → AreInsidesShort (objects_of (map object_view os)) → IsInsideShort (object_view (get_or os i d))
inside_at [] i d h k = absurd (omega arith)
inside_at (o ∷ os) zero d h k = k.0
inside_at (o ∷ os) (suc i) d h k = inside_at os i d (omega arith) k.1

pub inside_short : (os : List Obj) (i : ℕ) (r : Obj) → i < length os → r ≡ get_or os i r → AreInsidesShort (objects_of (map object_view os)) → IsInsideShort (object_view r)
inside_short os i r h is k = let P : Obj → Type 0 = λ o. IsInsideShort (object_view o) in subst P (sym is) (inside_at os i r h k)

within_at : (os : List Obj) (i : ℕ) (d : Obj) → i < length os → objects_within (object_view (get_or os i d)) ≤ objects_in (objects_of (map object_view os))
within_at [] i d h = absurd (omega arith)
within_at (o ∷ os) zero d h = omega arith
within_at (o ∷ os) (suc i) d h = omega (arith, within_at os i d (omega arith))

pub object_within : (os : List Obj) (i : ℕ) (r : Obj) → i < length os → r ≡ get_or os i r → objects_within (object_view r) ≤ objects_in (objects_of (map object_view os))
object_within os i r h is = let P : Obj → Type 0 = λ o. objects_within (object_view o) ≤ objects_in (objects_of (map object_view os)) in subst P (sym is) (within_at os i r h)

-- ---- positions

pub no_position : (os : Objects) (z : ℤ) → z <ℤ pos 1 → at_position os z ≡ None
no_position os (pos zero) h = refl
no_position os (pos (suc n)) h = absurd (omega (arith, ints))
no_position os (negsuc n) h = refl

past_all : (os : List Obj) (n : ℕ) → length os ≤ n → slice_get (listed (objects_of (map object_view os))) n ≡ None
past_all [] n h = refl
past_all (o ∷ os) zero h = absurd (omega arith)
past_all (o ∷ os) (suc n) h = past_all os n (omega arith)

one_of : (os : List Obj) (n : ℕ) (d : Obj) → n < length os → slice_get (listed (objects_of (map object_view os))) n ≡ Some (object_view (get_or os n d))
one_of [] n d h = absurd (omega arith)
one_of (o ∷ os) zero d h = refl
one_of (o ∷ os) (suc n) d h = one_of os n d (omega arith)

pub position_past : (d : Diagram) (z : ℤ) (n : ℕ) → z ≡ pos (n + 1) → length (out-Diagram d).objs.items ≤ n → at_position (diagram_view d) z ≡ None
position_past d z n is h = rw (is, add-one, diagram_opens d) (past_all (out-Diagram d).objs.items n h)

pub position_at : (d : Diagram) (z : ℤ) (n : ℕ) (r : Obj) → z ≡ pos (n + 1) → n < length (out-Diagram d).objs.items → r ≡ get_or (out-Diagram d).objs.items n r → at_position (diagram_view d) z ≡ Some (object_view r)
position_at d z n r is h same = rw (is, add-one, diagram_opens d) (one_of (out-Diagram d).objs.items n r h ∙ ap (λ o. Some (object_view o)) (sym same))

-- ---- blocks

regrouped : (xs ys : List Placed) (o r : Outcome (List Placed)) → onto xs o ≡ Ok ys → onto xs (o >>= λ ps. r >>= λ qs. Ok (ps ++ qs)) ≡ onto ys r
regrouped xs ys (Err e) r h = cc
regrouped xs ys (Ok ps) (Err e) h = refl
regrouped xs ys (Ok ps) (Ok qs) h = let same : xs ++ ps ≡ ys = cc in ap Ok (sym (append_assoc xs ps qs) ∙ ap (λ zs. zs ++ qs) same)

pub stops_onto : (xs : List Placed) (o : Outcome (List Placed)) (e : Stop) → Stops (onto xs o) e → Stops o e
stops_onto xs (Ok ps) (Refused r) h = cc
stops_onto xs (Err v) (Refused r) h = h
stops_onto xs o Memory h = tt

pub parts_end : (at : List ℕ) (os : List Obj) (i : ℕ) → length os ≤ i → (xs : List Placed) (w : Outcome (List Placed)) → onto xs (parts_in at (i + 1) (objects_of (map object_view (drop i os)))) ≡ w → w ≡ Ok xs
unfolding parts_in
parts_end at os i h xs w whole = sym (rw (drop_all i os h, append-nil xs) at whole)

-- r is the object at place i, and its place is here
module _ (at : List ℕ) (os : List Obj) (i : ℕ) (h : i < length os) (r : Obj) (is : r ≡ get_or os i r) (here : List ℕ) (there : here ≡ at ++ (i + 1) ∷ []) where
  parts_open : parts_in at (i + 1) (objects_of (map object_view (drop i os))) ≡ (object_parts here (object_view r) >>= λ ps. parts_in at ((i + 1) + 1) (objects_of (map object_view (drop (i + 1) os))) >>= λ qs. Ok (ps ++ qs))
  unfolding parts_in
  parts_open = rw (drop_more os i r h, ← is, there) refl

  pub parts_more : (xs ys : List Placed) (w : Outcome (List Placed)) → onto xs (object_parts here (object_view r)) ≡ Ok ys
      → onto xs (parts_in at (i + 1) (objects_of (map object_view (drop i os)))) ≡ w → onto ys (parts_in at ((i + 1) + 1) (objects_of (map object_view (drop (i + 1) os)))) ≡ w
  parts_more xs ys w one whole = sym (regrouped xs ys (object_parts here (object_view r)) _ one) ∙ ap (onto xs) (sym parts_open) ∙ whole

  pub parts_stop : (xs zs : List Placed) (w : Outcome (List Placed)) (e : Stop) → Stops (object_parts here (object_view r)) e
      → onto xs (parts_in at (i + 1) (objects_of (map object_view (drop i os)))) ≡ onto zs w → Stops w e
  parts_stop xs zs w e one whole =
      let P : Outcome (List Placed) → Type 0 = λ o. Stops o e in
      let here_stops = subst P (sym parts_open) (stops_then (object_parts here (object_view r)) _ e one) in
      stops_onto zs w e (subst P whole (stops_then _ (λ ys. Ok (xs ++ ys)) e here_stops))

-- ---- links

-- so far no link among `all` breaks a rule, and the set has the inputs where they end; os are the objects as the code has them
pub record IsLinked (at : List ℕ) (all : Objects) (os : List Obj) (fed : FedInputs) (i : ℕ) : Type 0 where
  pub ends : List End
  pub holds : HoldsEnds fed ends
  pub rest : links_in at all ends (i + 1) (objects_of (map object_view (drop i os))) ≡ links_in at all [] 1 all

pub none_linked : (at : List ℕ) (d : Diagram) (fed : FedInputs) → HoldsEnds fed [] → IsLinked at (diagram_view d) (out-Diagram d).objs.items fed 0
none_linked at d fed h = record { ends = []; holds = h; rest = ap (links_in at (diagram_view d) [] 1) (sym (diagram_opens d)) }

pub links_end : (at : List ℕ) (all : Objects) (os : List Obj) (fed : FedInputs) (i : ℕ) → length os ≤ i → IsLinked at all os fed i → links_in at all [] 1 all ≡ Ok tt
unfolding links_in
links_end at all os fed i h so = sym so.rest ∙ (rw (drop_all i os h) refl)

module _ (at : List ℕ) (all : Objects) (os : List Obj) (fed : FedInputs) (i : ℕ) (so : IsLinked at all os fed i) (h : i < length os) (r : Obj) (is : r ≡ get_or os i r) (here : List ℕ) (there : here ≡ at ++ (i + 1) ∷ []) where
  links_open : links_in at all so.ends (i + 1) (objects_of (map object_view (drop i os)))
      ≡ (object_links here all so.ends (object_view r) >>= λ _. links_in at all (so.ends ++ fed_by (object_view r)) ((i + 1) + 1) (objects_of (map object_view (drop (i + 1) os))))
  unfolding links_in
  links_open = rw (drop_more os i r h, ← is, there) refl

  pub links_more : (new : FedInputs) → object_links here all so.ends (object_view r) ≡ Ok tt → HoldsEnds new (so.ends ++ fed_by (object_view r)) → IsLinked at all os new (i + 1)
  links_more new one more = record {
    ends = so.ends ++ fed_by (object_view r);
    holds = more;
    rest = sym (rw one at links_open) ∙ so.rest;
  }

  pub links_stop : (e : Stop) → Stops (object_links here all so.ends (object_view r)) e → Stops (links_in at all [] 1 all) e
  links_stop e one =
      let P : Outcome (Unit {0}) → Type 0 = λ o. Stops o e in
      subst P so.rest (subst P (sym links_open) (stops_then _ _ e one))
