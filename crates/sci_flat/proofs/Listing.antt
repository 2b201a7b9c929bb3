-- The ports of a diagram, listed by their numbers.
use Rattle.std.proofs.Common.{◌≡◌, ◌<◌, ◌≤◌, ◌+◌, ℕ, pos, List, [], ◌∷◌, ◌++◌, length, map, sym, ap, ◌∙◌, subst, arith, get_or, append_assoc, length-append}
use Rattle.std.specs.List.{range_with_len}
use Rattle.std.proofs.lemmas.List.{length-map, get_or-map, get_or_append_left, get_or-append-add}
use Rattle.std.proofs.lemmas.List.FromFn.{length-range_with_len, get_or-range_with_len}
use Rattle.sci_base.specs.Plain.{Fields}
use Rattle.sci_diagram.specs.Objects.{Object, block, superblock, link, text, deleted, Objects, no_objects, object}
use Rattle.sci_blocks.specs.declared.class.PortClass.{PortClass}
use Rattle.sci_blocks.specs.declared.class.PortClass.TheVariants.{Input, Output, ActivationInput, ActivationOutput}
use Rattle.sci_flat.specs.declared.steps.port_numbers.PortNumbers.{PortNumbers}
use Rattle.sci_flat.specs.PortNumbers.{seat_at, no_seat, past, start, count}
use Rattle.sci_flat.specs.Ports.{Port, port}
use Rattle.sci_flat.specs.Numbers.{object_seat, own_past, insides_past, inside_past}
use Rattle.sci_flat.specs.Numbered.{no_port}

abbrev pub class_names : List ℕ → PortClass → ℕ → List Port
class_names place c n = map (λ k. port place c (pos k)) (range_with_len 1 n)

abbrev pub seat_names : List ℕ → Fields → List Port
seat_names place f = class_names place Input (length f.ins) ++ (class_names place Output (length f.outs) ++ (class_names place ActivationInput f.evtin ++ class_names place ActivationOutput f.evtout))

abbrev pub object_names : List ℕ → Object → List Port
object_names here (block gui f) = seat_names here f
object_names here (superblock gui f os) = seat_names here f
object_names here (link from to kind) = []
object_names here text = []
object_names here deleted = []

-- the ports of the objects of the diagram at a place, the first of them at position k
abbrev pub own_names : List ℕ → ℕ → Objects → List Port
own_names at k no_objects = []
own_names at k (object o os) = object_names (at ++ k ∷ []) o ++ own_names at (k + 1) os

-- the ports of what is inside them
abbrev mutual
  pub inside_names : List ℕ → ℕ → Objects → List Port
  inside_names at k no_objects = []
  inside_names at k (object o os) = inside_object (at ++ k ∷ []) o ++ inside_names at (k + 1) os

  pub inside_object : List ℕ → Object → List Port
  inside_object here (block gui f) = []
  inside_object here (superblock gui f os) = own_names here 1 os ++ inside_names here 1 os
  inside_object here (link from to kind) = []
  inside_object here text = []
  inside_object here deleted = []

abbrev pub tree_names : Objects → List Port
tree_names t = own_names [] 1 t ++ inside_names [] 1 t

-- ---- lengths

pub length-class_names : (place : List ℕ) (c : PortClass) (n : ℕ) → length (class_names place c n) ≡ n
length-class_names place c n = length-map (range_with_len 1 n) (λ k. port place c (pos k)) ∙ length-range_with_len 1 n

pub class_named : (place : List ℕ) (c : PortClass) (n k : ℕ) → k < n → get_or (class_names place c n) k no_port ≡ port place c (pos (k + 1))
class_named place c n k h =
    let there : k < length (range_with_len 1 n) = omega (arith, length-range_with_len 1 n) in
    let is : get_or (range_with_len 1 n) k 0 ≡ k + 1 = omega (arith, get_or-range_with_len 1 n k 0 h) in
    get_or-map (λ k. port place c (pos k)) (range_with_len 1 n) k 0 no_port there ∙ ap (λ (i : ℕ). port place c (pos i)) is

pub length-seat_names : (place : List ℕ) (f : Fields) (n : ℕ) → past (seat_at n f) ≡ n + length (seat_names place f)
length-seat_names place f n =
    let a = length-class_names place Input (length f.ins) in
    let b = length-class_names place Output (length f.outs) in
    let c = length-class_names place ActivationInput f.evtin in
    let d = length-class_names place ActivationOutput f.evtout in
    let whole = length-append (class_names place Input (length f.ins)) (class_names place Output (length f.outs) ++ (class_names place ActivationInput f.evtin ++ class_names place ActivationOutput f.evtout)) in
    let rest = length-append (class_names place Output (length f.outs)) (class_names place ActivationInput f.evtin ++ class_names place ActivationOutput f.evtout) in
    let last = length-append (class_names place ActivationInput f.evtin) (class_names place ActivationOutput f.evtout) in
    omega arith

pub past_object : (here : List ℕ) (n : ℕ) (o : Object) → past (object_seat n o) ≡ n + length (object_names here o)
past_object here n (block gui f) = length-seat_names here f n
past_object here n (superblock gui f os) = length-seat_names here f n
past_object here n (link from to kind) = omega arith
past_object here n text = omega arith
past_object here n deleted = omega arith

pub past_own : (at : List ℕ) (k n : ℕ) (os : Objects) → own_past n os ≡ n + length (own_names at k os)
past_own at k n no_objects = omega arith
past_own at k n (object o os) =
    let one = past_object (at ++ k ∷ []) n o in
    let more = past_own at (k + 1) (past (object_seat n o)) os in
    let both = length-append (object_names (at ++ k ∷ []) o) (own_names at (k + 1) os) in
    omega (arith, one, more, both)

mutual
  unfolding insides_past inside_past

  pub past_insides : (at : List ℕ) (k n : ℕ) (os : Objects) → insides_past n os ≡ n + length (inside_names at k os)
  past_insides at k n no_objects = omega arith
  past_insides at k n (object o os) =
      let one = past_inside (at ++ k ∷ []) n o in
      let more = past_insides at (k + 1) (inside_past n o) os in
      let both = length-append (inside_object (at ++ k ∷ []) o) (inside_names at (k + 1) os) in
      omega (arith, one, more, both)

  pub past_inside : (here : List ℕ) (n : ℕ) (o : Object) → inside_past n o ≡ n + length (inside_object here o)
  past_inside here n (block gui f) = omega arith
  past_inside here n (superblock gui f os) =
      let own = past_own here 1 n os in
      let more = past_insides here 1 (own_past n os) os in
      let both = length-append (own_names here 1 os) (inside_names here 1 os) in
      omega (arith, own, more, both)
  past_inside here n (link from to kind) = omega arith
  past_inside here n text = omega arith
  past_inside here n deleted = omega arith

-- ---- a part of the list, from number n on

pub record At (names : List Port) (n : ℕ) (xs : List Port) : Type 0 where
  pub before : List Port
  pub after : List Port
  pub whole : names ≡ before ++ (xs ++ after)
  pub first : length before ≡ n

pub at_left : (names : List Port) (n : ℕ) (xs ys : List Port) → At names n (xs ++ ys) → At names n xs
at_left names n xs ys a = record { before = a.before; after = ys ++ a.after; whole = a.whole ∙ ap (λ (l : List Port). a.before ++ l) (append_assoc xs ys a.after); first = a.first }

pub at_right : (names : List Port) (n m : ℕ) (xs ys : List Port) → m ≡ n + length xs → At names n (xs ++ ys) → At names m ys
at_right names n m xs ys e a = record {
  before = a.before ++ xs;
  after = a.after;
  whole = a.whole ∙ (ap (λ (l : List Port). a.before ++ l) (append_assoc xs ys a.after) ∙ sym (append_assoc a.before xs (ys ++ a.after)));
  first = length-append a.before xs ∙ (ap (λ (i : ℕ). i + length xs) a.first ∙ sym e);
}

pub at_get : (names : List Port) (n : ℕ) (xs : List Port) → At names n xs → (k : ℕ) → k < length xs → get_or names (n + k) no_port ≡ get_or xs k no_port
at_get names n xs a k h =
    let P : ℕ → Type 0 = λ i. get_or names (i + k) no_port ≡ get_or xs k no_port in
    subst P a.first (ap (λ (l : List Port). get_or l (length a.before + k) no_port) a.whole ∙ (get_or-append-add a.before (xs ++ a.after) k no_port ∙ get_or_append_left xs a.after no_port k h))

pub at_inside : (names : List Port) (n : ℕ) (xs : List Port) → At names n xs → n + length xs ≤ length names
at_inside names n xs a = let long = ap length a.whole ∙ length-append a.before (xs ++ a.after) in let more = length-append xs a.after in omega (arith, long, more, a.first)

-- ---- the ports of one seat

pub record Seated (names : List Port) (place : List ℕ) (s : PortNumbers) : Type 0 where
  pub inside : (c : PortClass) (k : ℕ) → k < count s c → start s c + k < length names
  pub named : (c : PortClass) (k : ℕ) → k < count s c → get_or names (start s c + k) no_port ≡ port place c (pos (k + 1))

class_seated : (names : List Port) (place : List ℕ) (c : PortClass) (m n : ℕ) → At names m (class_names place c n) → (k : ℕ) → k < n → (m + k < length names) × (get_or names (m + k) no_port ≡ port place c (pos (k + 1)))
class_seated names place c m n a k h =
    let long = length-class_names place c n in
    let all = at_inside names m (class_names place c n) a in
    (omega (arith, long, all), at_get names m (class_names place c n) a k (omega (arith, long)) ∙ class_named place c n k h)

pub seated : (names : List Port) (place : List ℕ) (n : ℕ) (f : Fields) → At names n (seat_names place f) → Seated names place (seat_at n f)
seated names place n f a = record { inside = λ c k h. (each c k h).0; named = λ c k h. (each c k h).1 }
  where
    ins : List Port
    ins = class_names place Input (length f.ins)

    outs : List Port
    outs = class_names place Output (length f.outs)

    evtin : List Port
    evtin = class_names place ActivationInput f.evtin

    evtout : List Port
    evtout = class_names place ActivationOutput f.evtout

    at_outs : At names (n + length f.ins) (outs ++ (evtin ++ evtout))
    at_outs = at_right names n (n + length f.ins) ins (outs ++ (evtin ++ evtout)) (ap (λ (i : ℕ). n + i) (sym (length-class_names place Input (length f.ins)))) a

    at_evtin : At names (n + length f.ins + length f.outs) (evtin ++ evtout)
    at_evtin = at_right names (n + length f.ins) (n + length f.ins + length f.outs) outs (evtin ++ evtout) (ap (λ (i : ℕ). n + length f.ins + i) (sym (length-class_names place Output (length f.outs)))) at_outs

    at_evtout : At names (n + length f.ins + length f.outs + f.evtin) evtout
    at_evtout = at_right names (n + length f.ins + length f.outs) (n + length f.ins + length f.outs + f.evtin) evtin evtout (ap (λ (i : ℕ). n + length f.ins + length f.outs + i) (sym (length-class_names place ActivationInput f.evtin))) at_evtin

    each : (c : PortClass) (k : ℕ) → k < count (seat_at n f) c → (start (seat_at n f) c + k < length names) × (get_or names (start (seat_at n f) c + k) no_port ≡ port place c (pos (k + 1)))
    each Input k h = class_seated names place Input n (length f.ins) (at_left names n ins (outs ++ (evtin ++ evtout)) a) k h
    each Output k h = class_seated names place Output (n + length f.ins) (length f.outs) (at_left names (n + length f.ins) outs (evtin ++ evtout) at_outs) k h
    each ActivationInput k h = class_seated names place ActivationInput (n + length f.ins + length f.outs) f.evtin (at_left names (n + length f.ins + length f.outs) evtin evtout at_evtin) k h
    each ActivationOutput k h = class_seated names place ActivationOutput (n + length f.ins + length f.outs + f.evtin) f.evtout at_evtout k h

none_seated : (names : List Port) (place : List ℕ) (n : ℕ) → Seated names place (no_seat n)
none_seated names place n = record { inside = λ c k h. absurd (none c k h); named = λ c k h. absurd (none c k h) }
  where
    none : (c : PortClass) (k : ℕ) → k < count (no_seat n) c → ⊥
    none Input k h = absurd (omega arith)
    none Output k h = absurd (omega arith)
    none ActivationInput k h = absurd (omega arith)
    none ActivationOutput k h = absurd (omega arith)

pub object_seated : (names : List Port) (here : List ℕ) (n : ℕ) (o : Object) → At names n (object_names here o) → Seated names here (object_seat n o)
object_seated names here n (block gui f) a = seated names here n f a
object_seated names here n (superblock gui f os) a = seated names here n f a
object_seated names here n (link from to kind) a = none_seated names here n
object_seated names here n text a = none_seated names here n
object_seated names here n deleted a = none_seated names here n

pub outermost_seated : (names : List Port) → Seated names [] (no_seat 0)
outermost_seated names = none_seated names [] 0
