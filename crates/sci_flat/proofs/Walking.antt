-- The objects of a diagram, one after another.
use Rattle.std.proofs.Common.{◌≡◌, ℕ, zero, suc, ◌+◌, ◌<◌, ◌≤◌, List, [], ◌∷◌, ◌++◌, length, drop, get_or, map, refl, sym, ap, ◌∙◌, subst, append_assoc, rules, arith}
use Rattle.std.specs.List.{range_with_len}
use Rattle.std.proofs.lemmas.List.{drop_more, drop_all, map-append, append-nil}
use Rattle.sci_diagram.specs.Objects.{objects_of, object_view, diagram_view, listed, object}
use Rattle.sci_diagram.specs.declared.diagram.Obj.{Obj}
use Rattle.sci_diagram.specs.declared.diagram.Diagram.{Diagram, out-Diagram, the_lemmas}
use Rattle.sci_diagram.specs.Count.{objects_in, objects_within}
use Rattle.sci_flat.specs.declared.steps.port_numbers.PortNumbers.{PortNumbers}
use Rattle.sci_flat.specs.Numbers.{Steps, insides_past, inside_past, steps_by, object_steps_by, blocks_by, object_blocks_by, tags_by, object_tags_by}

range_more : (a n : ℕ) → range_with_len a (suc n) ≡ range_with_len a n ++ (a + n) ∷ []
range_more a zero = let e : a + 0 ≡ a = omega arith in rw e refl
range_more a (suc n) = let e : (a + 1) + n ≡ a + suc n = omega arith in ap (λ l. a ∷ l) (range_more (a + 1) n ∙ ap (λ k. range_with_len (a + 1) n ++ k ∷ []) e)

pub fan_more : (f : ℕ → ℕ × ℕ) (a n : ℕ) (xs ys zs : Steps) → ys ≡ xs ++ map f (range_with_len a n) → zs ≡ ys ++ f (a + n) ∷ [] → zs ≡ xs ++ map f (range_with_len a (n + 1))
fan_more f a n xs ys zs before grown =
    let next : suc n ≡ n + 1 = omega arith in
    let more : map f (range_with_len a (n + 1)) ≡ map f (range_with_len a n) ++ f (a + n) ∷ [] = subst (λ (i : ℕ). map f (range_with_len a i) ≡ map f (range_with_len a n) ++ f (a + n) ∷ []) next (ap (map f) (range_more a n) ∙ map-append f (range_with_len a n) ((a + n) ∷ [])) in
    grown ∙ (ap (λ (l : Steps). l ++ f (a + n) ∷ []) before ∙ (append_assoc xs (map f (range_with_len a n)) (f (a + n) ∷ []) ∙ ap (λ (l : Steps). xs ++ l) (sym more)))

pub diagram_opens : (d : Diagram) → diagram_view d ≡ objects_of (map object_view (out-Diagram d).objs.items)
diagram_opens d = search (rules, the_lemmas)

pub objects_long : (os : List Obj) → length (listed (objects_of (map object_view os))) ≡ length os
objects_long [] = refl
objects_long (o ∷ os) = ap suc (objects_long os)

object_within : (os : List Obj) (i : ℕ) (d : Obj) → i < length os → objects_within (object_view (get_or os i d)) ≤ objects_in (objects_of (map object_view os))
object_within [] i d h = absurd (omega arith)
object_within (o ∷ os) zero d h = omega arith
object_within (o ∷ os) (suc i) d h = omega (arith, object_within os i d (omega arith))

pub object_small : (os : List Obj) (i : ℕ) (r : Obj) → i < length os → r ≡ get_or os i r → objects_within (object_view r) ≤ objects_in (objects_of (map object_view os))
object_small os i r h is = let P : Obj → Type 0 = λ o. objects_within (object_view o) ≤ objects_in (objects_of (map object_view os)) in subst P (sym is) (object_within os i r h)

pub opened : (os : List Obj) (i : ℕ) (r : Obj) → i < length os → r ≡ get_or os i r → objects_of (map object_view (drop i os)) ≡ object (object_view r) (objects_of (map object_view (drop (i + 1) os)))
opened os i r h is = ap (λ (l : List Obj). objects_of (map object_view l)) (drop_more os i r h ∙ ap (λ (o : Obj). o ∷ drop (i + 1) os) (sym is))

pub next_more : (os : List Obj) (i : ℕ) (r : Obj) → i < length os → r ≡ get_or os i r → (n m w : ℕ) → m ≡ inside_past n (object_view r) → insides_past n (objects_of (map object_view (drop i os))) ≡ w → insides_past m (objects_of (map object_view (drop (i + 1) os))) ≡ w
unfolding insides_past
next_more os i r h is n m w e whole = rw e (rw (opened os i r h is) at whole)

pub next_end : (os : List Obj) (i n w : ℕ) → length os ≤ i → insides_past n (objects_of (map object_view (drop i os))) ≡ w → n ≡ w
unfolding insides_past
next_end os i n w h whole = rw (drop_all i os h) at whole

pub steps_more : (all : List PortNumbers) (outer : PortNumbers) (ss : List PortNumbers) (d : PortNumbers) (os : List Obj) (i : ℕ) (r : Obj) → i < length ss → i < length os → r ≡ get_or os i r → (n m : ℕ) (xs ys w : Steps) → m ≡ inside_past n (object_view r)
    → ys ≡ xs ++ object_steps_by all outer (get_or ss i d) n (object_view r) → xs ++ steps_by all outer (drop i ss) n (objects_of (map object_view (drop i os))) ≡ w → ys ++ steps_by all outer (drop (i + 1) ss) m (objects_of (map object_view (drop (i + 1) os))) ≡ w
unfolding steps_by
steps_more all outer ss d os i r g h is n m xs ys w e grown whole =
    let now = rw (opened os i r h is, drop_more ss i d g) at whole in
    rw (grown, e) (append_assoc xs _ _ ∙ now)

pub steps_end : (all : List PortNumbers) (outer : PortNumbers) (ss : List PortNumbers) (os : List Obj) (i n : ℕ) (xs w : Steps) → length os ≤ i → xs ++ steps_by all outer ss n (objects_of (map object_view (drop i os))) ≡ w → xs ≡ w
unfolding steps_by
steps_end all outer ss os i n xs w h whole = sym (append-nil xs) ∙ (rw (drop_all i os h) at whole)

pub blocks_more : (ss : List PortNumbers) (d : PortNumbers) (os : List Obj) (i : ℕ) (r : Obj) → i < length ss → i < length os → r ≡ get_or os i r → (n m : ℕ) (xs ys w : List PortNumbers) → m ≡ inside_past n (object_view r)
    → ys ≡ xs ++ object_blocks_by (get_or ss i d) n (object_view r) → xs ++ blocks_by (drop i ss) n (objects_of (map object_view (drop i os))) ≡ w → ys ++ blocks_by (drop (i + 1) ss) m (objects_of (map object_view (drop (i + 1) os))) ≡ w
unfolding blocks_by
blocks_more ss d os i r g h is n m xs ys w e grown whole =
    let now = rw (opened os i r h is, drop_more ss i d g) at whole in
    rw (grown, e) (append_assoc xs _ _ ∙ now)

pub blocks_end : (ss : List PortNumbers) (os : List Obj) (i n : ℕ) (xs w : List PortNumbers) → length os ≤ i → xs ++ blocks_by ss n (objects_of (map object_view (drop i os))) ≡ w → xs ≡ w
unfolding blocks_by
blocks_end ss os i n xs w h whole = sym (append-nil xs) ∙ (rw (drop_all i os h) at whole)

pub tags_more : (ss : List PortNumbers) (d : PortNumbers) (os : List Obj) (i : ℕ) (r : Obj) → i < length ss → i < length os → r ≡ get_or os i r → (n m : ℕ) (xs ys w : List ℕ) → m ≡ inside_past n (object_view r)
    → ys ≡ xs ++ object_tags_by (get_or ss i d) n (object_view r) → xs ++ tags_by (drop i ss) n (objects_of (map object_view (drop i os))) ≡ w → ys ++ tags_by (drop (i + 1) ss) m (objects_of (map object_view (drop (i + 1) os))) ≡ w
unfolding tags_by
tags_more ss d os i r g h is n m xs ys w e grown whole =
    let now = rw (opened os i r h is, drop_more ss i d g) at whole in
    rw (grown, e) (append_assoc xs _ _ ∙ now)

pub tags_end : (ss : List PortNumbers) (os : List Obj) (i n : ℕ) (xs w : List ℕ) → length os ≤ i → xs ++ tags_by ss n (objects_of (map object_view (drop i os))) ≡ w → xs ≡ w
unfolding tags_by
tags_end ss os i n xs w h whole = sym (append-nil xs) ∙ (rw (drop_all i os h) at whole)
