-- The links of a bulk diagram: each leads from an output to an input of its type, and no two regular links end at one input.
use Rattle.std.proofs.Common.{◌≡◌, ◌≤◌, ◌<◌, ◌+◌, ◌-◌, ◌++◌, ℕ, zero, suc, List, [], ◌∷◌, map, Bool, true, false, cond, ◌&&◌, ◌||◌, Option, Some, Ok, Err, ℤ, pos, refl, sym, ◌∙◌, ap, subst, arith, append-nil}
use Rattle.std.specs.Prelude.{slice_get, nat_le, int_le}
use Rattle.std.specs.List.{list_any}
use Rattle.std.proofs.lemmas.Bool.Decides.{nat_tests}
use Rattle.sci_base.specs.Fit.{int_eq}
use Rattle.sci_base.specs.Plain.{Violation}
use Rattle.sci_base.specs.Outcome.{Outcome, ◌>>=◌}
use Rattle.sci_diagram.specs.declared.diagram.End.{End}
use Rattle.sci_diagram.specs.Objects.{Object, Objects, objects_of}
use Rattle.sci_blocks.specs.declared.class.PortClass.{PortClass}
use Rattle.sci_blocks.specs.declared.class.PortClass.TheVariants.{Input, Output, ActivationInput, ActivationOutput}
use Rattle.sci_blocks.specs.declared.class.LinkType.{LinkType}
use Rattle.sci_blocks.specs.declared.class.LinkType.TheVariants.{Regular, Activation}
use Rattle.sci_blocks.specs.Wiring.{object_ports, at_position, ports_of, side_number, is_port_of, end_broken, end_judged, is_at, fed_twice, once_fed, ends_judged, fed_by, links_in, object_links, links_of}
use Rattle.sci_bulk.specs.declared.data_block.DataBlock.{DataBlock}
use Rattle.sci_bulk.specs.declared.data_block.DataBlock.TheVariants.{One, Delay, Sum, Triple}
use Rattle.sci_bulk.specs.Bulk.{clocks, clock, data_object, output_end, input_end, activates, feeds, clock_link, links_into, links_from, drawing}
use Rattle.sci_bulk.proofs.Ready.{same_list}
use Rattle.sci_bulk.proofs.Shapes.{Each, each_append, each_block, block_objects, link_objects}
use Rattle.sci_bulk.proofs.Drawn.{IsDrawn, AreDrawn, get_some, eight, data_within}

-- ---- which object stands where

pub clock_stands : (ds : List DataBlock) (j : ℕ) → 1 ≤ j → j ≤ 8 → at_position (objects_of (drawing ds)) (pos j) ≡ Some (clock j)
clock_stands ds j l m = eight (λ (i : ℕ). at_position (objects_of (drawing ds)) (pos i) ≡ Some (clock i)) refl refl refl refl refl refl refl refl j l m

data_get : (ds : List DataBlock) (rest : List Object) (m : ℕ) (d : DataBlock) → slice_get ds m ≡ Some d → slice_get (map data_object ds ++ rest) m ≡ Some (data_object d)
data_get [] rest m d e = cc
data_get (x ∷ ds) rest zero d e = let same : x ≡ d = cc in ap (λ (y : DataBlock). Some (data_object y)) same
data_get (x ∷ ds) rest (suc m) d e = data_get ds rest m d e

pub data_stands : (ds : List DataBlock) (b m : ℕ) (d : DataBlock) → b ≡ 9 + m → slice_get ds m ≡ Some d → at_position (objects_of (drawing ds)) (pos b) ≡ Some (data_object d)
data_stands ds b m d is e =
    let place : b ≡ suc (suc (suc (suc (suc (suc (suc (suc (suc m)))))))) = omega (arith, is) in
    ap (λ (i : ℕ). at_position (objects_of (drawing ds)) (pos i)) place
    ∙ (ap (λ (os : List Object). slice_get os m) (same_list (map data_object ds ++ link_objects ds)) ∙ data_get ds (link_objects ds) m d e)

-- data block a, one before this one
pub source_stands : (ds : List DataBlock) (m : ℕ) (d : DataBlock) (a : ℕ) → slice_get ds m ≡ Some d → 1 ≤ a → a < 1 + m
    → (x : DataBlock) × (slice_get ds (a - 1) ≡ Some x) × (at_position (objects_of (drawing ds)) (pos (8 + a)) ≡ Some (data_object x))
source_stands ds m d a is least less =
    let inside = data_within ds m d is in
    let found = get_some ds (a - 1) (omega (arith, inside, less, least)) in
    (found.0, found.1, data_stands ds (8 + a) (a - 1) found.0 (omega (arith, least)) found.1)

-- ---- ends

le_true : (m n : ℕ) → m ≤ n → nat_le m n ≡ true
le_true m n l = grind (arith, nat_tests)

le_false : (m n : ℕ) → n < m → nat_le m n ≡ false
le_false m n l = grind (arith, nat_tests)

three : (a b c : Bool) → a ≡ true → b ≡ true → c ≡ true → (a && b && c) ≡ true
three a b c h k l = rw (h, k, l) refl

port_kept : (all : Objects) (c : PortClass) (o p : ℕ) (s : ℤ) (x : Object) → at_position all (pos o) ≡ Some x → 1 ≤ p → p ≤ object_ports c x → int_eq s (side_number c) ≡ true
    → is_port_of all c (record { block = pos o; port = pos p; side = s }) ≡ true
port_kept all c o p s x there least most same =
    three (int_eq s (side_number c)) (int_le (pos 1) (pos p)) (int_le (pos p) (pos (ports_of c (at_position all (pos o)))))
    same (le_true 1 p least) (ap (λ (q : Option Object). int_le (pos p) (pos (ports_of c q))) there ∙ le_true p (object_ports c x) most)

abbrev unless_false : Bool → Violation → Outcome (Unit {0})
unless_false b v = cond b (Ok tt) (Err v)

abbrev unless_true : Bool → Violation → Outcome (Unit {0})
unless_true b v = cond b (Err v) (Ok tt)

passed : (b : Bool) (v : Violation) → b ≡ true → unless_false b v ≡ Ok tt
passed true v h = refl
passed false v h = cc

missed : (b : Bool) (v : Violation) → b ≡ false → unless_true b v ≡ Ok tt
missed true v h = cc
missed false v h = refl

end_kept : (here : List ℕ) (all : Objects) (c : PortClass) (e : End) (code : ℤ) → is_port_of all c e ≡ true → end_judged here all c e code ≡ Ok tt
end_kept here all c e code h = passed (is_port_of all c e) (end_broken here (code ∷ [])) h

once_kept : (here : List ℕ) (fed : List End) (to : End) → list_any (is_at to.block to.port) fed ≡ false → once_fed here fed Regular to ≡ Ok tt
once_kept here fed to h = missed (list_any (is_at to.block to.port) fed) (fed_twice here to) h

-- ---- links

both : (a b : Outcome (Unit {0})) → a ≡ Ok tt → b ≡ Ok tt → (a >>= λ _. b) ≡ Ok tt
both a b h k = rw (h, k) refl

all_judged : (s t : Outcome (Unit {0})) (u : LinkType → Outcome (Unit {0})) (l : LinkType) → s ≡ Ok tt → t ≡ Ok tt → u l ≡ Ok tt → ((s >>= λ _. t >>= λ _. Ok l) >>= u) ≡ Ok tt
all_judged s t u l h k e = rw (h, k) e

activation_kept : (here : List ℕ) (all : Objects) (fed : List End) (c o : ℕ) (x y : Object) → at_position all (pos c) ≡ Some x → 1 ≤ object_ports ActivationOutput x → at_position all (pos o) ≡ Some y → 1 ≤ object_ports ActivationInput y
    → object_links here all fed (activates c o) ≡ Ok tt
unfolding object_links ends_judged
activation_kept here all fed c o x y from some to more =
    all_judged (end_judged here all ActivationOutput (output_end c) (pos 1)) (end_judged here all ActivationInput (input_end o 1) (pos 2)) (λ t. once_fed here fed t (input_end o 1)) Activation
    (end_kept here all ActivationOutput (output_end c) (pos 1) (port_kept all ActivationOutput c 1 (pos 0) x from (omega arith) some refl))
    (end_kept here all ActivationInput (input_end o 1) (pos 2) (port_kept all ActivationInput o 1 (pos 1) y to (omega arith) more refl))
    refl

regular_kept : (here : List ℕ) (all : Objects) (fed : List End) (a o p : ℕ) (x y : Object) → at_position all (pos (8 + a)) ≡ Some x → 1 ≤ object_ports Output x → at_position all (pos o) ≡ Some y → 1 ≤ p → p ≤ object_ports Input y
    → list_any (is_at (pos o) (pos p)) fed ≡ false → object_links here all fed (feeds a o p) ≡ Ok tt
unfolding object_links ends_judged
regular_kept here all fed a o p x y from some to least most fresh =
    all_judged (end_judged here all Output (output_end (8 + a)) (pos 1)) (end_judged here all Input (input_end o p) (pos 2)) (λ t. once_fed here fed t (input_end o p)) Regular
    (end_kept here all Output (output_end (8 + a)) (pos 1) (port_kept all Output (8 + a) 1 (pos 0) x from (omega arith) some refl))
    (end_kept here all Input (input_end o p) (pos 2) (port_kept all Input o p (pos 1) y to least most refl))
    (once_kept here fed (input_end o p) fresh)

-- ---- ends of earlier links

-- the end is at another port than this
abbrev IsOther : ℕ → ℕ → End → Type 0
IsOther o p e = is_at (pos o) (pos p) e ≡ false

-- the end is at an object before this one
abbrev IsBelow : ℕ → End → Type 0
IsBelow o e = (b : ℕ) × (e.block ≡ pos b) × (b < o)

left_false : (a b c : Bool) → a ≡ false → ((a && b) && c) ≡ false
left_false a b c h = rw h refl

right_false : (a b : Bool) → b ≡ false → (a && b) ≡ false
right_false true b h = h
right_false false b h = refl

below_other : (o p : ℕ) (e : End) → IsBelow o e → IsOther o p e
below_other o p e h =
    let b = h.0 in
    ap (λ (z : ℤ). int_eq (pos o) z && int_eq (pos p) e.port) h.1
    ∙ left_false (nat_le o h.0) (nat_le h.0 o) (int_eq (pos p) e.port) (le_false o h.0 h.2)

all_below_other : (o p : ℕ) (fed : List End) → Each (IsBelow o) fed → Each (IsOther o p) fed
all_below_other o p [] h = tt
all_below_other o p (e ∷ fed) h = (below_other o p e h.0, all_below_other o p fed h.1)

below_next : (o : ℕ) (fed : List End) → Each (IsBelow o) fed → Each (IsBelow (suc o)) fed
below_next o [] h = tt
below_next o (e ∷ fed) h = ((h.0.0, h.0.1, (let l = h.0.2 in omega (arith, l))), below_next o fed h.1)

either_false : (a b : Bool) → a ≡ false → b ≡ false → (a || b) ≡ false
either_false a b h k = rw (h, k) refl

none_at : (o p : ℕ) (fed : List End) → Each (IsOther o p) fed → list_any (is_at (pos o) (pos p)) fed ≡ false
none_at o p [] h = refl
none_at o p (e ∷ fed) h = either_false (is_at (pos o) (pos p) e) (list_any (is_at (pos o) (pos p)) fed) h.0 (none_at o p fed h.1)

-- ---- links in turn

abbrev AreLinked : Objects → List End → List Object → Type 0
AreLinked all fed os = (k : ℕ) → links_in [] all fed k (objects_of os) ≡ Ok tt

none_linked : (all : Objects) (fed : List End) → AreLinked all fed []
unfolding links_in
none_linked all fed k = refl

linked_more : (all : Objects) (fed : List End) (o : Object) (os : List Object) → ((here : List ℕ) → object_links here all fed o ≡ Ok tt) → AreLinked all (fed ++ fed_by o) os → AreLinked all fed (o ∷ os)
unfolding links_in
linked_more all fed o os h rest k = both (object_links (k ∷ []) all fed o) (links_in [] all (fed ++ fed_by o) (k + 1) (objects_of os)) (h (k ∷ [])) (rest (k + 1))

-- no link
abbrev IsQuiet : Object → Type 0
IsQuiet o = (fed_by o ≡ []) × ((here : List ℕ) (all : Objects) (fed : List End) → object_links here all fed o ≡ Ok tt)

clock_quiet : (j : ℕ) → IsQuiet (clock j)
unfolding object_links
clock_quiet j = (refl, λ here all fed. refl)

data_quiet : (d : DataBlock) → IsQuiet (data_object d)
unfolding object_links
data_quiet One = (refl, λ here all fed. refl)
data_quiet (Delay c a) = (refl, λ here all fed. refl)
data_quiet (Sum a b) = (refl, λ here all fed. refl)
data_quiet (Triple a) = (refl, λ here all fed. refl)

linked_behind : (all : Objects) (os rest : List Object) → Each IsQuiet os → AreLinked all [] rest → AreLinked all [] (os ++ rest)
linked_behind all [] rest h more = more
linked_behind all (o ∷ os) rest h more =
    linked_more all [] o (os ++ rest) (λ here. h.0.1 here all []) (subst (λ (f : List End). AreLinked all f (os ++ rest)) (sym h.0.0) (linked_behind all os rest h.1 more))

clock_linked : (ds : List DataBlock) (j : ℕ) (os : List Object) → 1 ≤ j → j ≤ 8 → AreLinked (objects_of (drawing ds)) [] os → AreLinked (objects_of (drawing ds)) [] (clock_link j ∷ os)
clock_linked ds j os least most more =
    let there = clock_stands ds j least most in
    linked_more (objects_of (drawing ds)) [] (clock_link j) os (λ here. activation_kept here (objects_of (drawing ds)) [] j j (clock j) (clock j) there (omega arith) there (omega arith)) more

clocks_linked : (ds : List DataBlock) (os : List Object) → AreLinked (objects_of (drawing ds)) [] os → AreLinked (objects_of (drawing ds)) [] (map clock_link clocks ++ os)
clocks_linked ds os more =
    let h = clock_linked ds 8 os (omega arith) (omega arith) more in
    let g = clock_linked ds 7 (clock_link 8 ∷ os) (omega arith) (omega arith) h in
    let f = clock_linked ds 6 (clock_link 7 ∷ clock_link 8 ∷ os) (omega arith) (omega arith) g in
    let e = clock_linked ds 5 (clock_link 6 ∷ clock_link 7 ∷ clock_link 8 ∷ os) (omega arith) (omega arith) f in
    let d = clock_linked ds 4 (clock_link 5 ∷ clock_link 6 ∷ clock_link 7 ∷ clock_link 8 ∷ os) (omega arith) (omega arith) e in
    let c = clock_linked ds 3 (clock_link 4 ∷ clock_link 5 ∷ clock_link 6 ∷ clock_link 7 ∷ clock_link 8 ∷ os) (omega arith) (omega arith) d in
    let b = clock_linked ds 2 (clock_link 3 ∷ clock_link 4 ∷ clock_link 5 ∷ clock_link 6 ∷ clock_link 7 ∷ clock_link 8 ∷ os) (omega arith) (omega arith) c in
    clock_linked ds 1 (clock_link 2 ∷ clock_link 3 ∷ clock_link 4 ∷ clock_link 5 ∷ clock_link 6 ∷ clock_link 7 ∷ clock_link 8 ∷ os) (omega arith) (omega arith) b

-- ---- links into data blocks

data_outputs : (d : DataBlock) → 1 ≤ object_ports Output (data_object d)
data_outputs One = omega arith
data_outputs (Delay c a) = omega arith
data_outputs (Sum a b) = omega arith
data_outputs (Triple a) = omega arith

module _ (ds : List DataBlock) (m o : ℕ) (at : o ≡ 9 + m) (d : DataBlock) (is : slice_get ds m ≡ Some d) where
  abbrev all : Objects
  all = objects_of (drawing ds)

  here_stands : at_position all (pos o) ≡ Some (data_object d)
  here_stands = data_stands ds o m d at is

  -- input p is fed by data block a
  input_linked : (a p : ℕ) (fed : List End) (rest : List Object) → 1 ≤ a → a < 1 + m → 1 ≤ p → p ≤ object_ports Input (data_object d) → Each (IsOther o p) fed → AreLinked all (fed ++ input_end o p ∷ []) rest
      → AreLinked all fed (feeds a o p ∷ rest)
  input_linked a p fed rest least less one inside other more =
      let from = source_stands ds m d a is least less in
      linked_more all fed (feeds a o p) rest
      (λ here. regular_kept here all fed a o p (data_object from.0) (data_object d) from.2 (data_outputs from.0) here_stands one inside (none_at o p fed other)) more

  activation_linked : (c : ℕ) (fed : List End) (rest : List Object) → 1 ≤ c → c ≤ 8 → 1 ≤ object_ports ActivationInput (data_object d) → AreLinked all fed rest → AreLinked all fed (activates c o ∷ rest)
  activation_linked c fed rest least most some more =
      linked_more all fed (activates c o) rest
      (λ here. activation_kept here all fed c o (clock c) (data_object d) (clock_stands ds c least most) (omega arith) here_stands some)
      (subst (λ (f : List End). AreLinked all f rest) (sym (append-nil fed)) more)

  end_below : (fed : List End) (p : ℕ) → Each (IsBelow (suc o)) fed → Each (IsBelow (suc o)) (fed ++ input_end o p ∷ [])
  end_below fed p h = each_append (IsBelow (suc o)) fed (input_end o p ∷ []) h ((o, refl, omega arith), tt)

into_linked : (ds : List DataBlock) (m o i : ℕ) (d : DataBlock) (fed : List End) (rest : List Object) → o ≡ 9 + m → i ≡ 1 + m → slice_get ds m ≡ Some d → IsDrawn i d → Each (IsBelow o) fed
    → ((more : List End) → Each (IsBelow (suc o)) more → AreLinked (objects_of (drawing ds)) more rest) → AreLinked (objects_of (drawing ds)) fed (links_into o d ++ rest)
into_linked ds m o i One fed rest at count is h below go = go fed (below_next o fed below)
into_linked ds m o i (Delay c a) fed rest at count is h below go =
    activation_linked ds m o at (Delay c a) is c fed (feeds a o 1 ∷ rest) h.0 h.1 (omega arith)
    (input_linked ds m o at (Delay c a) is a 1 fed rest h.2 (let l = h.3 in omega (arith, l, count)) (omega arith) (omega arith) (all_below_other o 1 fed below)
    (go (fed ++ input_end o 1 ∷ []) (end_below ds m o at (Delay c a) is fed 1 (below_next o fed below))))
into_linked ds m o i (Sum a b) fed rest at count is h below go =
    let one : List End = fed ++ input_end o 1 ∷ [] in
    let below_one = end_below ds m o at (Sum a b) is fed 1 (below_next o fed below) in
    let other = each_append (IsOther o 2) fed (input_end o 1 ∷ []) (all_below_other o 2 fed below) (right_false (int_eq (pos o) (pos o)) false refl, tt) in
    input_linked ds m o at (Sum a b) is a 1 fed (feeds b o 2 ∷ rest) h.0 (let l = h.1 in omega (arith, l, count)) (omega arith) (omega arith) (all_below_other o 1 fed below)
    (input_linked ds m o at (Sum a b) is b 2 (fed ++ input_end o 1 ∷ []) rest h.2 (let l = h.3 in omega (arith, l, count)) (omega arith) (omega arith) other
    (go ((fed ++ input_end o 1 ∷ []) ++ input_end o 2 ∷ []) (end_below ds m o at (Sum a b) is (fed ++ input_end o 1 ∷ []) 2 below_one)))
into_linked ds m o i (Triple a) fed rest at count is h below go =
    input_linked ds m o at (Triple a) is a 1 fed rest h.0 (let l = h.1 in omega (arith, l, count)) (omega arith) (omega arith) (all_below_other o 1 fed below)
    (go (fed ++ input_end o 1 ∷ []) (end_below ds m o at (Triple a) is fed 1 (below_next o fed below)))

-- these data blocks are those from place m on
abbrev IsTail : List DataBlock → ℕ → List DataBlock → Type 0
IsTail all m ds = (j : ℕ) → slice_get all (m + j) ≡ slice_get ds j

from_linked : (whole : List DataBlock) (m o i : ℕ) (ds : List DataBlock) (fed : List End) → o ≡ 9 + m → i ≡ 1 + m → IsTail whole m ds → AreDrawn i ds → Each (IsBelow o) fed → AreLinked (objects_of (drawing whole)) fed (links_from o ds)
from_linked whole m o i [] fed at count tail h below = none_linked (objects_of (drawing whole)) fed
from_linked whole m o i (d ∷ ds) fed at count tail h below =
    let here : m ≡ m + 0 = omega arith in
    let is : slice_get whole m ≡ Some d = ap (slice_get whole) here ∙ tail 0 in
    into_linked whole m o i d fed (links_from (suc o) ds) at count is h.0 below
    (λ more low.
    from_linked whole (suc m) (suc o) (suc i) ds more (omega (arith, at)) (omega (arith, count))
    (λ j. let next : suc m + j ≡ m + suc j = omega arith in ap (slice_get whole) next ∙ tail (suc j)) h.1 low)

pub links_kept : (ds : List DataBlock) → AreDrawn 1 ds → links_of (objects_of (drawing ds)) ≡ Ok tt
unfolding links_of
links_kept ds h =
    linked_behind (objects_of (drawing ds)) (block_objects ds) (link_objects ds) (each_block IsQuiet clock_quiet data_quiet ds)
    (clocks_linked ds (links_from 9 ds) (from_linked ds 0 9 1 ds [] refl refl (λ j. ap (slice_get ds) (let e : 0 + j ≡ j = omega arith in e)) h tt)) 1
