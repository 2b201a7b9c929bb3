-- Each port has one number.
use Rattle.std.proofs.Common.{◌≡◌, ◌<◌, ◌≤◌, ◌+◌, ◌-◌, ℕ, suc, ℤ, pos, List, [], ◌∷◌, ◌++◌, length, Bool, true, false, cond, ◌⊎◌, inl, inr, Option, Some, None, refl, sym, ap, ◌∙◌, subst, arith, get_or, append_assoc, length-append}
use Rattle.std.specs.Prelude.{nat_eq}
use Rattle.std.proofs.lemmas.Bool.Decides.{nat_tests}
use Rattle.std.proofs.lemmas.Bool.{cases_lt}
use Rattle.std.proofs.lemmas.List.{get_or_append_left, get_or-append-add}
use Rattle.sci_base.specs.Plain.{Fields}
use Rattle.sci_diagram.specs.Objects.{Object, block, superblock, link, text, deleted, Objects, no_objects, object}
use Rattle.sci_blocks.specs.declared.class.PortClass.{PortClass}
use Rattle.sci_blocks.specs.declared.class.PortClass.TheVariants.{Input, Output, ActivationInput, ActivationOutput}
use Rattle.sci_flat.specs.declared.steps.port_numbers.PortNumbers.{PortNumbers}
use Rattle.sci_flat.specs.PortNumbers.{seat_at, past, start, count, port_number}
use Rattle.sci_flat.specs.Ports.{Port}
use Rattle.sci_flat.specs.Numbers.{object_seat, own_past, inside_past}
use Rattle.sci_flat.specs.Numbered.{no_port}
use Rattle.sci_flat.proofs.Listing.{class_names, length-class_names, class_named, seat_names, object_names, own_names, inside_names, inside_object, tree_names, past_object, past_own, past_inside}
use Rattle.sci_flat.proofs.Naming.{number_there}

-- the number of the port of this class and number of the object that a path leads to, among objects the first of which is at position k, where m
-- is the first number of their ports and n the first inside them
unfoldable mutual
  pub number_of : ℕ → ℕ → ℕ → List ℕ → PortClass → ℤ → Objects → Option ℕ
  number_of m n k path c z no_objects = None
  number_of m n k [] c z (object o os) = None
  number_of m n k (j ∷ rest) c z (object o os) = cond (nat_eq j k) (number_within (object_seat m o) n rest c z o) (number_of (past (object_seat m o)) (inside_past n o) (k + 1) (j ∷ rest) c z os)

  pub number_within : PortNumbers → ℕ → List ℕ → PortClass → ℤ → Object → Option ℕ
  number_within s n [] c z o = port_number s c z
  number_within s n (j ∷ rest) c z (block gui f) = None
  number_within s n (j ∷ rest) c z (superblock gui f os) = number_of n (own_past n os) 1 (j ∷ rest) c z os
  number_within s n (j ∷ rest) c z (link from to kind) = None
  number_within s n (j ∷ rest) c z text = None
  number_within s n (j ∷ rest) c z deleted = None

pub record Found (at : List ℕ) (k m n : ℕ) (os : Objects) (p : Port) (i : ℕ) : Type 0 where
  pub j : ℕ
  pub rest : List ℕ
  pub later : k ≤ j
  pub place : p.place ≡ at ++ j ∷ rest
  pub found : number_of m n k (j ∷ rest) p.class p.number os ≡ Some i

same_place : (k : ℕ) → nat_eq k k ≡ true
same_place k = grind (arith, nat_tests)

other_place : (j k : ℕ) → k + 1 ≤ j → nat_eq j k ≡ false
other_place j k h = grind (arith, nat_tests)

-- past the first object
pub number_skips : (m n k j : ℕ) (rest : List ℕ) (c : PortClass) (z : ℤ) (o : Object) (os : Objects) → k + 1 ≤ j → number_of m n k (j ∷ rest) c z (object o os) ≡ number_of (past (object_seat m o)) (inside_past n o) (k + 1) (j ∷ rest) c z os
unfolding number_of number_within
number_skips m n k j rest c z o os h = ap (λ (b : Bool). cond b (number_within (object_seat m o) n rest c z o) (number_of (past (object_seat m o)) (inside_past n o) (k + 1) (j ∷ rest) c z os)) (other_place j k h)

-- the first object, or within it
pub number_stays : (m n k : ℕ) (rest : List ℕ) (c : PortClass) (z : ℤ) (o : Object) (os : Objects) → number_of m n k (k ∷ rest) c z (object o os) ≡ number_within (object_seat m o) n rest c z o
unfolding number_of number_within
number_stays m n k rest c z o os = ap (λ (b : Bool). cond b (number_within (object_seat m o) n rest c z o) (number_of (past (object_seat m o)) (inside_past n o) (k + 1) (k ∷ rest) c z os)) (same_place k)

pub number_own : (s : PortNumbers) (n : ℕ) (c : PortClass) (z : ℤ) (o : Object) → number_within s n [] c z o ≡ port_number s c z
unfolding number_of number_within
number_own s n c z (block gui f) = refl
number_own s n c z (superblock gui f os) = refl
number_own s n c z (link from to kind) = refl
number_own s n c z text = refl
number_own s n c z deleted = refl

pub number_inside : (s : PortNumbers) (n j : ℕ) (rest : List ℕ) (c : PortClass) (z : ℤ) (gui : List ℕ) (f : Fields) (os : Objects) → number_within s n (j ∷ rest) c z (superblock gui f os) ≡ number_of n (own_past n os) 1 (j ∷ rest) c z os
unfolding number_of number_within
number_inside s n j rest c z gui f os = refl

found_skip : (at : List ℕ) (k m n : ℕ) (o : Object) (os : Objects) (p : Port) (i : ℕ) → Found at (k + 1) (past (object_seat m o)) (inside_past n o) os p i → Found at k m n (object o os) p i
found_skip at k m n o os p i r = record { j = r.j; rest = r.rest; later = omega (arith, r.later); place = r.place; found = number_skips m n k r.j r.rest p.class p.number o os r.later ∙ r.found }

-- a port of a seat
record Spot (here : List ℕ) (s : PortNumbers) (p : Port) (i : ℕ) : Type 0 where
  place : p.place ≡ here
  number : port_number s p.class p.number ≡ Some i

found_here : (at : List ℕ) (k m n : ℕ) (o : Object) (os : Objects) (p : Port) (i : ℕ) → Spot (at ++ k ∷ []) (object_seat m o) p i → Found at k m n (object o os) p i
found_here at k m n o os p i r = record {
  j = k;
  rest = [];
  later = omega arith;
  place = r.place;
  found = number_stays m n k [] p.class p.number o os ∙ (number_own (object_seat m o) n p.class p.number o ∙ r.number);
}

found_inside : (at : List ℕ) (k m n : ℕ) (gui : List ℕ) (f : Fields) (inner os : Objects) (p : Port) (i : ℕ) → Found (at ++ k ∷ []) 1 n (own_past n inner) inner p i → Found at k m n (object (superblock gui f inner) os) p i
found_inside at k m n gui f inner os p i r = record {
  j = k;
  rest = r.j ∷ r.rest;
  later = omega arith;
  place = r.place ∙ append_assoc at (k ∷ []) (r.j ∷ r.rest);
  found = number_stays m n k (r.j ∷ r.rest) p.class p.number (superblock gui f inner) os ∙ (number_inside (seat_at m f) n r.j r.rest p.class p.number gui f inner ∙ r.found);
}

-- an index into two lists
record Second (xs ys : List Port) (i : ℕ) : Type 0 where
  j : ℕ
  there : j < length ys
  sum : i ≡ length xs + j
  is : get_or (xs ++ ys) i no_port ≡ get_or ys j no_port

split : (xs ys : List Port) (i : ℕ) → i < length (xs ++ ys) → ((i < length xs) × (get_or (xs ++ ys) i no_port ≡ get_or xs i no_port)) ⊎ Second xs ys i
split xs ys i h = elim (cases_lt i (length xs)) [
  | inl l ↦ inl (l, get_or_append_left xs ys no_port i l)
  | inr g ↦ inr (let sum : i ≡ length xs + (i - length xs) = omega arith in record {
    j = i - length xs;
    there = omega (arith, length-append xs ys);
    sum = sum;
    is = ap (λ (x : ℕ). get_or (xs ++ ys) x no_port) sum ∙ get_or-append-add xs ys (i - length xs) no_port;
  })
]

-- ---- the ports of one seat

class_spot : (place : List ℕ) (s : PortNumbers) (c : PortClass) (n i j : ℕ) → n ≡ count s c → j < n → i ≡ start s c + j → Spot place s (get_or (class_names place c n) j no_port) i
class_spot place s c n i j e h f =
    let is = class_named place c n j h in
    let low : j < count s c = omega arith in
    let one_more : suc j ≡ j + 1 = omega arith in
    let number : port_number s c (pos (j + 1)) ≡ Some i = subst (λ (x : ℕ). port_number s c (pos x) ≡ Some i) one_more (number_there s c j low ∙ ap Some (sym f)) in
    let P : Port → Type 0 = λ p. Spot place s p i in
    subst P (sym is) (record { place = refl; number = number })

module _ (place : List ℕ) (m : ℕ) (f : Fields) (i : ℕ) where
  moved : {p q : Port} → p ≡ q → Spot place (seat_at m f) p (m + i) → Spot place (seat_at m f) q (m + i)
  moved e r = let P : Port → Type 0 = λ p. Spot place (seat_at m f) p (m + i) in subst P e r

  seat_spot : i < length (seat_names place f) → Spot place (seat_at m f) (get_or (seat_names place f) i no_port) (m + i)
  seat_spot h =
      let ins = class_names place Input (length f.ins) in
      let outs = class_names place Output (length f.outs) in
      let evtin = class_names place ActivationInput f.evtin in
      let evtout = class_names place ActivationOutput f.evtout in
      let l_ins = length-class_names place Input (length f.ins) in
      let l_outs = length-class_names place Output (length f.outs) in
      let l_evtin = length-class_names place ActivationInput f.evtin in
      let l_evtout = length-class_names place ActivationOutput f.evtout in
      elim (split ins (outs ++ (evtin ++ evtout)) i h) [
        | inl a ↦ moved (sym a.1) (class_spot place (seat_at m f) Input (length f.ins) (m + i) i refl (omega (arith, a.0, l_ins)) refl)
        | inr b ↦ elim (split outs (evtin ++ evtout) b.j b.there) [
          | inl a ↦ moved (sym (b.is ∙ a.1)) (class_spot place (seat_at m f) Output (length f.outs) (m + i) b.j refl (omega (arith, a.0, l_outs)) (omega (arith, b.sum, l_ins)))
          | inr d ↦ elim (split evtin evtout d.j d.there) [
            | inl a ↦ moved (sym (b.is ∙ (d.is ∙ a.1))) (class_spot place (seat_at m f) ActivationInput f.evtin (m + i) d.j refl (omega (arith, a.0, l_evtin)) (omega (arith, b.sum, d.sum, l_ins, l_outs)))
            | inr e ↦ moved (sym (b.is ∙ (d.is ∙ e.is))) (class_spot place (seat_at m f) ActivationOutput f.evtout (m + i) e.j refl (omega (arith, e.there, l_evtout)) (omega (arith, b.sum, d.sum, e.sum, l_ins, l_outs, l_evtin)))
          ]
        ]
      ]

object_spot : (here : List ℕ) (m : ℕ) (o : Object) (i : ℕ) → i < length (object_names here o) → Spot here (object_seat m o) (get_or (object_names here o) i no_port) (m + i)
object_spot here m (block gui f) i h = seat_spot here m f i h
object_spot here m (superblock gui f os) i h = seat_spot here m f i h
object_spot here m (link from to kind) i h = absurd (omega arith)
object_spot here m text i h = absurd (omega arith)
object_spot here m deleted i h = absurd (omega arith)

-- ---- whole diagrams

moved_found : (at : List ℕ) (k m n : ℕ) (os : Objects) (p q : Port) (i j : ℕ) → p ≡ q → i ≡ j → Found at k m n os p i → Found at k m n os q j
moved_found at k m n os p q i j e f r =
    let P : Port → Type 0 = λ x. Found at k m n os x i in
    let Q : ℕ → Type 0 = λ x. Found at k m n os q x in
    subst Q f (subst P e r)

own_found : (at : List ℕ) (k m n : ℕ) (os : Objects) (i : ℕ) → i < length (own_names at k os) → Found at k m n os (get_or (own_names at k os) i no_port) (m + i)
own_found at k m n no_objects i h = absurd (omega arith)
own_found at k m n (object o os) i h = elim (split (object_names (at ++ k ∷ []) o) (own_names at (k + 1) os) i h) [
  | inl a ↦ moved_found at k m n (object o os) _ _ (m + i) (m + i) (sym a.1) refl (found_here at k m n o os _ (m + i) (object_spot (at ++ k ∷ []) m o i a.0))
  | inr b ↦ moved_found at k m n (object o os) _ _ (past (object_seat m o) + b.j) (m + i) (sym b.is) (omega (arith, past_object (at ++ k ∷ []) m o, b.sum))
      (found_skip at k m n o os _ (past (object_seat m o) + b.j) (own_found at (k + 1) (past (object_seat m o)) (inside_past n o) os b.j b.there))
]

mutual
  insides_found : (at : List ℕ) (k m n : ℕ) (os : Objects) (i : ℕ) → i < length (inside_names at k os) → Found at k m n os (get_or (inside_names at k os) i no_port) (n + i)
  insides_found at k m n no_objects i h = absurd (omega arith)
  insides_found at k m n (object o os) i h = elim (split (inside_object (at ++ k ∷ []) o) (inside_names at (k + 1) os) i h) [
    | inl a ↦ moved_found at k m n (object o os) _ _ (n + i) (n + i) (sym a.1) refl (object_inside_found at k m n o os i a.0)
    | inr b ↦ moved_found at k m n (object o os) _ _ (inside_past n o + b.j) (n + i) (sym b.is) (omega (arith, past_inside (at ++ k ∷ []) n o, b.sum))
        (found_skip at k m n o os _ (inside_past n o + b.j) (insides_found at (k + 1) (past (object_seat m o)) (inside_past n o) os b.j b.there))
  ]

  object_inside_found : (at : List ℕ) (k m n : ℕ) (o : Object) (os : Objects) (i : ℕ) → i < length (inside_object (at ++ k ∷ []) o) → Found at k m n (object o os) (get_or (inside_object (at ++ k ∷ []) o) i no_port) (n + i)
  object_inside_found at k m n (block gui f) os i h = absurd (omega arith)
  object_inside_found at k m n (superblock gui f inner) os i h = found_inside at k m n gui f inner os _ (n + i) (elim (split (own_names (at ++ k ∷ []) 1 inner) (inside_names (at ++ k ∷ []) 1 inner) i h) [
    | inl a ↦ moved_found (at ++ k ∷ []) 1 n (own_past n inner) inner _ _ (n + i) (n + i) (sym a.1) refl (own_found (at ++ k ∷ []) 1 n (own_past n inner) inner i a.0)
    | inr b ↦ moved_found (at ++ k ∷ []) 1 n (own_past n inner) inner _ _ (own_past n inner + b.j) (n + i) (sym b.is) (omega (arith, past_own (at ++ k ∷ []) 1 n inner, b.sum)) (insides_found (at ++ k ∷ []) 1 n (own_past n inner) inner b.j b.there)
  ])
  object_inside_found at k m n (link from to kind) os i h = absurd (omega arith)
  object_inside_found at k m n text os i h = absurd (omega arith)
  object_inside_found at k m n deleted os i h = absurd (omega arith)

pub tree_found : (t : Objects) (i : ℕ) → i < length (tree_names t) → Found [] 1 0 (own_past 0 t) t (get_or (tree_names t) i no_port) i
tree_found t i h = elim (split (own_names [] 1 t) (inside_names [] 1 t) i h) [
  | inl a ↦ moved_found [] 1 0 (own_past 0 t) t _ _ (0 + i) i (sym a.1) (omega arith) (own_found [] 1 0 (own_past 0 t) t i a.0)
  | inr b ↦ moved_found [] 1 0 (own_past 0 t) t _ _ (own_past 0 t + b.j) i (sym b.is) (omega (arith, past_own [] 1 0 t, b.sum)) (insides_found [] 1 0 (own_past 0 t) t b.j b.there)
]

-- the number of a port of the tree
pub tree_number : Objects → Port → Option ℕ
tree_number t p = number_of 0 (own_past 0 t) 1 p.place p.class p.number t

pub tree_numbered : (t : Objects) (i : ℕ) → i < length (tree_names t) → tree_number t (get_or (tree_names t) i no_port) ≡ Some i
unfolding tree_number
tree_numbered t i h =
    let r = tree_found t i h in
    let p = get_or (tree_names t) i no_port in
    ap (λ (x : List ℕ). number_of 0 (own_past 0 t) 1 x p.class p.number t) r.place ∙ r.found

pub distinct : (t : Objects) (i j : ℕ) → i < length (tree_names t) → j < length (tree_names t) → get_or (tree_names t) i no_port ≡ get_or (tree_names t) j no_port → i ≡ j
distinct t i j h l e = let f : Some i ≡ Some j = sym (tree_numbered t i h) ∙ (ap (tree_number t) e ∙ tree_numbered t j l) in cc
