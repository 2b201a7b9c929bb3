-- The blocks of a diagram are at places of their own, and no step leads to an output of one.
use Rattle.std.proofs.Common.{◌≡◌, ℕ, zero, suc, ◌+◌, ◌<◌, ◌≤◌, ◌-◌, List, [], ◌∷◌, ◌++◌, length, get_or, ◌⊎◌, inl, inr, Option, Some, None, Ok, refl, sym, ap, ◌∙◌, subst, arith, append_assoc, length-append}
use Rattle.std.proofs.lemmas.Bool.{cases_lt}
use Rattle.std.proofs.lemmas.List.{get_or_append_left, get_or-append-add}
use Rattle.sci_base.specs.Plain.{Fields}
use Rattle.sci_base.specs.Outcome.{Outcome, ◌>>=◌}
use Rattle.sci_diagram.specs.declared.diagram.End.{End}
use Rattle.sci_diagram.specs.Objects.{Object, block, superblock, link, text, deleted, Objects, no_objects, object}
use Rattle.sci_forms.specs.declared.spec.Spec.{Spec}
use Rattle.sci_check.specs.Check.{checked}
use Rattle.sci_blocks.specs.declared.class.PortClass.{PortClass}
use Rattle.sci_blocks.specs.declared.class.PortClass.TheVariants.{Input, Output}
use Rattle.sci_blocks.specs.declared.pass_through.PassThrough.{PassThrough}
use Rattle.sci_blocks.specs.Ports.{ports, no_ports, ports_matched, object_number, numbers}
use Rattle.sci_blocks.specs.Rows.{pass_through, joint_checked}
use Rattle.sci_blocks.specs.Blocks.{Placed, placed, block_parts, parts_in, object_parts, parts_of}
use Rattle.sci_blocks.specs.Wiring.{fed_by}
use Rattle.sci_blocks.specs.Kept.{AreObjectsKept, IsObjectKept, regular_ends}
use Rattle.sci_blocks.proofs.Keeping.{before, blocks_kept}
use Rattle.sci_net.specs.Parts.{no_spec}
use Rattle.sci_flat.specs.Chain.{Step}
use Rattle.sci_flat.specs.Ports.{Port, through_steps, steps_of, object_steps, tree_steps}
use Rattle.sci_flat.specs.Laws.{IsRegular}
use Rattle.sci_flat.proofs.Lists.{step_append, not_longer, same_first}
use Rattle.sci_flat.proofs.Leads.{First, Later, leads, object_leads}

abbrev pub nowhere : Placed
nowhere = placed [] no_spec

-- ---- an index into two lists

record Second (xs ys : List Placed) (i : ℕ) : Type 0 where
  j : ℕ
  there : j < length ys
  sum : i ≡ length xs + j
  is : get_or (xs ++ ys) i nowhere ≡ get_or ys j nowhere

split : (xs ys : List Placed) (i : ℕ) → i < length (xs ++ ys) → ((i < length xs) × (get_or (xs ++ ys) i nowhere ≡ get_or xs i nowhere)) ⊎ Second xs ys i
split xs ys i h = elim (cases_lt i (length xs)) [
  | inl l ↦ inl (l, get_or_append_left xs ys nowhere i l)
  | inr g ↦ inr (let sum : i ≡ length xs + (i - length xs) = omega arith in record {
    j = i - length xs;
    there = omega (arith, length-append xs ys);
    sum = sum;
    is = ap (λ (x : ℕ). get_or (xs ++ ys) x nowhere) sum ∙ get_or-append-add xs ys (i - length xs) nowhere;
  })
]

-- ---- the parts of a list of objects are those of the first and those of the others

pub record Two (at : List ℕ) (k : ℕ) (o : Object) (os : Objects) (ps : List Placed) : Type 0 where
  pub first : List Placed
  pub others : List Placed
  pub of_first : object_parts (at ++ k ∷ []) o ≡ Ok first
  pub of_others : parts_in at (k + 1) os ≡ Ok others
  pub both : first ++ others ≡ ps

pub two : (at : List ℕ) (k : ℕ) (o : Object) (os : Objects) (ps : List Placed) → parts_in at k (object o os) ≡ Ok ps → Two at k o os ps
unfolding parts_in object_parts
two at k o os ps h =
    let a = before (object_parts (at ++ k ∷ []) o) (λ ps. parts_in at (k + 1) os >>= λ qs. Ok (ps ++ qs)) ps h in
    let b = before (parts_in at (k + 1) os) (λ qs. Ok (a.0 ++ qs)) ps a.2 in
    record { first = a.0; others = b.0; of_first = a.1; of_others = b.1; both = let e = b.2 in cc }

pub inside : (here gui : List ℕ) (f : Fields) (os : Objects) (ps : List Placed) → object_parts here (superblock gui f os) ≡ Ok ps → parts_in here 1 os ≡ Ok ps
unfolding parts_in object_parts
inside here gui f os ps h = (before (ports_matched here (ports f) os) (λ _. parts_in here 1 os) ps h).2

-- what holds of an element of two lists, where it holds of each element of each
pub either_list : (P : Placed → Type 0) (xs ys ps : List Placed) → xs ++ ys ≡ ps → ((i : ℕ) → i < length xs → P (get_or xs i nowhere)) → ((i : ℕ) → i < length ys → P (get_or ys i nowhere)) → (i : ℕ) → i < length ps → P (get_or ps i nowhere)
either_list P xs ys ps e f g i l =
    subst (λ (l : List Placed). P (get_or l i nowhere)) e (elim (split xs ys i (subst (λ (l : List Placed). i < length l) (sym e) l)) as (λ _. P (get_or (xs ++ ys) i nowhere)) [
      | inl a ↦ subst P (sym a.1) (f i a.0)
      | inr b ↦ subst P (sym b.is) (g b.j b.there)
    ])

-- ---- places

-- within an object whose position is at least k
pub record From (at : List ℕ) (k : ℕ) (place : List ℕ) : Type 0 where
  pub j : ℕ
  pub rest : List ℕ
  pub is : place ≡ at ++ j ∷ rest
  pub later : k ≤ j

-- within the object at position k
pub record At (at : List ℕ) (k : ℕ) (place : List ℕ) : Type 0 where
  pub rest : List ℕ
  pub is : place ≡ at ++ k ∷ rest

at_from : (at : List ℕ) (k : ℕ) (place : List ℕ) → At at k place → From at k place
at_from at k place a = record { j = k; rest = a.rest; is = a.is; later = omega arith }

later_from : (at : List ℕ) (k : ℕ) (place : List ℕ) → From at (k + 1) place → From at k place
later_from at k place a = record { j = a.j; rest = a.rest; is = a.is; later = omega (arith, a.later) }

from_at : (at : List ℕ) (k : ℕ) (place : List ℕ) → From (at ++ k ∷ []) 1 place → At at k place
from_at at k place a = record { rest = a.j ∷ a.rest; is = a.is ∙ append_assoc at (k ∷ []) (a.j ∷ a.rest) }

pub none_given : (ps : List Placed) → (let o : Outcome (List Placed) = Ok [] in o ≡ Ok ps) → [] ≡ ps
none_given ps h = cc

pub none_there : (ps : List Placed) → [] ≡ ps → (i : ℕ) → i < length ps → ⊥
none_there ps e i l = below (subst (λ (l : List Placed). i < length l) (sym e) l)
  where
    below : i < 0 → ⊥
    below l = omega (arith, l)

block_at_place : (at : List ℕ) (k : ℕ) (gui : List ℕ) (f : Fields) (o : Option PassThrough) (ps : List Placed) → block_parts (at ++ k ∷ []) gui f o ≡ Ok ps → (i : ℕ) → i < length ps → At at k (get_or ps i nowhere).place
block_at_place at k gui f None ps h i l =
    let a = before (checked (at ++ k ∷ []) gui f) (λ s. Ok (placed (at ++ k ∷ []) s ∷ [])) ps h in
    let e : placed (at ++ k ∷ []) a.0 ∷ [] ≡ ps = let q = a.2 in cc in
    subst (λ (l : List Placed). At at k (get_or l i nowhere).place) e (first a.0 i (subst (λ (l : List Placed). i < length l) (sym e) l))
  where
    first : (s : Spec) (i : ℕ) → i < length (placed (at ++ k ∷ []) s ∷ []) → At at k (get_or (placed (at ++ k ∷ []) s ∷ []) i nowhere).place
    first s zero l = record { rest = []; is = refl }
    first s (suc i) l = absurd (omega (arith, l))
block_at_place at k gui f (Some p) ps h i l =
    let a = before (joint_checked (at ++ k ∷ []) p f) (λ _. Ok []) ps h in
    let e : [] ≡ ps = let q = a.2 in cc in
    absurd (none_there ps e i l)

mutual
  unfolding parts_in object_parts

  places_in : (at : List ℕ) (k : ℕ) (os : Objects) (ps : List Placed) → parts_in at k os ≡ Ok ps → (i : ℕ) → i < length ps → From at k (get_or ps i nowhere).place
  places_in at k no_objects ps h i l = absurd (none_there ps (none_given ps h) i l)
  places_in at k (object o os) ps h i l =
      let w = two at k o os ps h in
      either_list (λ p. From at k p.place) w.first w.others ps w.both
      (λ i l. at_from at k (get_or w.first i nowhere).place (places_of at k o w.first w.of_first i l))
      (λ i l. later_from at k (get_or w.others i nowhere).place (places_in at (k + 1) os w.others w.of_others i l)) i l

  places_of : (at : List ℕ) (k : ℕ) (o : Object) (ps : List Placed) → object_parts (at ++ k ∷ []) o ≡ Ok ps → (i : ℕ) → i < length ps → At at k (get_or ps i nowhere).place
  places_of at k (block gui f) ps h i l = block_at_place at k gui f (pass_through gui) ps h i l
  places_of at k (superblock gui f os) ps h i l = from_at at k (get_or ps i nowhere).place (places_in (at ++ k ∷ []) 1 os ps (inside (at ++ k ∷ []) gui f os ps h) i l)
  places_of at k (link from to kind) ps h i l = absurd (none_there ps (none_given ps h) i l)
  places_of at k text ps h i l = absurd (none_there ps (none_given ps h) i l)
  places_of at k deleted ps h i l = absurd (none_there ps (none_given ps h) i l)

-- ---- no two blocks at one place

abbrev AreApart : List Placed → Type 0
AreApart ps = (i j : ℕ) → i < length ps → j < length ps → (get_or ps i nowhere).place ≡ (get_or ps j nowhere).place → i ≡ j

none_apart : (ps : List Placed) → [] ≡ ps → AreApart ps
none_apart ps e i j l m q = absurd (none_there ps e i l)

one_apart : (p : Placed) → AreApart (p ∷ [])
one_apart p i j l m q = omega (arith, l, m)

off : (at : List ℕ) (k : ℕ) (a b : List ℕ) → At at k a → From at (k + 1) b → a ≡ b → ⊥
off at k a b x y e = omega (arith, same_first at k y.j x.rest y.rest (sym x.is ∙ (e ∙ y.is)), y.later)

two_apart : (at : List ℕ) (k : ℕ) (xs ys ps : List Placed) → xs ++ ys ≡ ps → ((i : ℕ) → i < length xs → At at k (get_or xs i nowhere).place) → ((i : ℕ) → i < length ys → From at (k + 1) (get_or ys i nowhere).place)
    → AreApart xs → AreApart ys → AreApart ps
two_apart at k xs ys ps e f g a b = subst AreApart e whole
  where
    whole : AreApart (xs ++ ys)
    whole i j l m q = elim (split xs ys i l) [
      | inl x ↦ elim (split xs ys j m) [
        | inl y ↦ a i j x.0 y.0 (sym (ap (λ (p : Placed). p.place) x.1) ∙ (q ∙ ap (λ (p : Placed). p.place) y.1))
        | inr y ↦ absurd (off at k _ _ (f i x.0) (g y.j y.there) (sym (ap (λ (p : Placed). p.place) x.1) ∙ (q ∙ ap (λ (p : Placed). p.place) y.is)))
      ]
      | inr x ↦ elim (split xs ys j m) [
        | inl y ↦ absurd (off at k _ _ (f j y.0) (g x.j x.there) (sym (ap (λ (p : Placed). p.place) y.1) ∙ (sym q ∙ ap (λ (p : Placed). p.place) x.is)))
        | inr y ↦ omega (arith, x.sum, y.sum, b x.j y.j x.there y.there (sym (ap (λ (p : Placed). p.place) x.is) ∙ (q ∙ ap (λ (p : Placed). p.place) y.is)))
      ]
    ]

block_apart : (here gui : List ℕ) (f : Fields) (o : Option PassThrough) (ps : List Placed) → block_parts here gui f o ≡ Ok ps → AreApart ps
block_apart here gui f None ps h =
    let a = before (checked here gui f) (λ s. Ok (placed here s ∷ [])) ps h in
    let e : placed here a.0 ∷ [] ≡ ps = let q = a.2 in cc in
    subst AreApart e (one_apart (placed here a.0))
block_apart here gui f (Some p) ps h =
    let a = before (joint_checked here p f) (λ _. Ok []) ps h in
    let e : [] ≡ ps = let q = a.2 in cc in
    none_apart ps e

mutual
  unfolding parts_in object_parts

  apart_in : (at : List ℕ) (k : ℕ) (os : Objects) (ps : List Placed) → parts_in at k os ≡ Ok ps → AreApart ps
  apart_in at k no_objects ps h = none_apart ps (none_given ps h)
  apart_in at k (object o os) ps h =
      let w = two at k o os ps h in
      two_apart at k w.first w.others ps w.both (places_of at k o w.first w.of_first) (places_in at (k + 1) os w.others w.of_others) (apart_of at k o w.first w.of_first) (apart_in at (k + 1) os w.others w.of_others)

  apart_of : (at : List ℕ) (k : ℕ) (o : Object) (ps : List Placed) → object_parts (at ++ k ∷ []) o ≡ Ok ps → AreApart ps
  apart_of at k (block gui f) ps h = block_apart (at ++ k ∷ []) gui f (pass_through gui) ps h
  apart_of at k (superblock gui f os) ps h = apart_in (at ++ k ∷ []) 1 os ps (inside (at ++ k ∷ []) gui f os ps h)
  apart_of at k (link from to kind) ps h = none_apart ps (none_given ps h)
  apart_of at k text ps h = none_apart ps (none_given ps h)
  apart_of at k deleted ps h = none_apart ps (none_given ps h)

-- ---- no step to an output of a block

pub later_off : (at : List ℕ) (k : ℕ) (ns : List ℕ) (es : List End) (place : List ℕ) (q : Port) → At at k place → q.place ≡ place → q.class ≡ Output → Later at (k + 1) ns es q → ⊥
later_off at k ns es place q a e c (inl u) = not_longer at k a.rest (sym u.place ∙ (e ∙ a.is))
later_off at k ns es place q a e c (inr (inl b)) = let f : Output ≡ Input = sym c ∙ b.class in cc
later_off at k ns es place q a e c (inr (inr d)) = omega (arith, same_first at k d.j a.rest d.rest (sym a.is ∙ (sym e ∙ d.place)), d.there)

pub first_off : (at : List ℕ) (k : ℕ) (ns : List ℕ) (es : List End) (place : List ℕ) (q : Port) → From at (k + 1) place → q.place ≡ place → q.class ≡ Output → First at k ns es q → ⊥
first_off at k ns es place q a e c (inl u) = not_longer at a.j a.rest (sym u.place ∙ (e ∙ a.is))
first_off at k ns es place q a e c (inr (inl b)) = let f : Output ≡ Input = sym c ∙ b.class in cc
first_off at k ns es place q a e c (inr (inr d)) = omega (arith, same_first at a.j d.j a.rest d.rest (sym a.is ∙ (sym e ∙ d.place)), a.later, d.there)

pub output_regular : (q : Port) → q.class ≡ Output → IsRegular q.class
output_regular q c = subst (λ (x : PortClass). IsRegular x) (sym c) tt

-- none of the steps leads to an output of this block
abbrev IsSource : List (Port × Port) → Placed → Type 0
IsSource es b = (p q : Port) → q.place ≡ b.place → q.class ≡ Output → Step es p q → ⊥

block_source : (at : List ℕ) (here gui : List ℕ) (f : Fields) (o : Option PassThrough) (ps : List Placed) → block_parts here gui f o ≡ Ok ps → (i : ℕ) → i < length ps → IsSource (through_steps at here f o) (get_or ps i nowhere)
block_source at here gui f None ps h i l p q e c s = absurd s
block_source at here gui f (Some t) ps h i l p q e c s =
    let a = before (joint_checked here t f) (λ _. Ok []) ps h in
    let e : [] ≡ ps = let q = a.2 in cc in
    none_there ps e i l

mutual
  unfolding parts_in object_parts steps_of object_steps

  sources_in : (at : List ℕ) (k : ℕ) (os : Objects) (ps : List Placed) → parts_in at k os ≡ Ok ps → AreObjectsKept os → (i : ℕ) → i < length ps → IsSource (steps_of at k os) (get_or ps i nowhere)
  sources_in at k no_objects ps h kept i l = absurd (none_there ps (none_given ps h) i l)
  sources_in at k (object o os) ps h kept i l =
      let w = two at k o os ps h in
      either_list (λ b. IsSource (object_steps at (at ++ k ∷ []) o ++ steps_of at (k + 1) os) b) w.first w.others ps w.both
      (λ i l p q e c s. elim (step_append (object_steps at (at ++ k ∷ []) o) (steps_of at (k + 1) os) p q s) [
        | inl a ↦ sources_of at k o w.first w.of_first kept.0 i l p q e c a
        | inr a ↦ later_off at k (numbers Output os) (regular_ends os) (get_or w.first i nowhere).place q (places_of at k o w.first w.of_first i l) e c (leads at (k + 1) os kept.1 p q (output_regular q c) a)
      ])
      (λ i l p q e c s. elim (step_append (object_steps at (at ++ k ∷ []) o) (steps_of at (k + 1) os) p q s) [
        | inl a ↦ first_off at k (object_number Output o) (fed_by o) (get_or w.others i nowhere).place q (places_in at (k + 1) os w.others w.of_others i l) e c (object_leads at k o kept.0 p q (output_regular q c) a)
        | inr a ↦ sources_in at (k + 1) os w.others w.of_others kept.1 i l p q e c a
      ]) i l

  sources_of : (at : List ℕ) (k : ℕ) (o : Object) (ps : List Placed) → object_parts (at ++ k ∷ []) o ≡ Ok ps → IsObjectKept o → (i : ℕ) → i < length ps → IsSource (object_steps at (at ++ k ∷ []) o) (get_or ps i nowhere)
  sources_of at k (block gui f) ps h kept i l = block_source at (at ++ k ∷ []) gui f (pass_through gui) ps h i l
  sources_of at k (superblock gui f os) ps h kept i l = sources_in (at ++ k ∷ []) 1 os ps (inside (at ++ k ∷ []) gui f os ps h) kept.1 i l
  sources_of at k (link from to kind) ps h kept i l = absurd (none_there ps (none_given ps h) i l)
  sources_of at k text ps h kept i l = absurd (none_there ps (none_given ps h) i l)
  sources_of at k deleted ps h kept i l = absurd (none_there ps (none_given ps h) i l)

-- ---- the blocks of a whole diagram

pub whole : (t : Objects) (ps : List Placed) → parts_of t ≡ Ok ps → parts_in [] 1 t ≡ Ok ps
unfolding parts_of
whole t ps h = (before (ports_matched [] no_ports t) (λ _. parts_in [] 1 t) ps h).2

pub own_place : (t : Objects) (ps : List Placed) → parts_of t ≡ Ok ps → (i j : ℕ) → i < length ps → j < length ps → (get_or ps i nowhere).place ≡ (get_or ps j nowhere).place → i ≡ j
own_place t ps h = apart_in [] 1 t ps (whole t ps h)

pub none_drawn_into : (t : Objects) (ps : List Placed) → parts_of t ≡ Ok ps → (i : ℕ) → i < length ps → (p q : Port) → q.place ≡ (get_or ps i nowhere).place → q.class ≡ Output → Step (tree_steps t) p q → ⊥
none_drawn_into t ps h i l = sources_in [] 1 t ps (whole t ps h) (blocks_kept t ps h).1 i l
