-- Where a tag leads: to the output of a tag object, to which nothing leads that is drawn; no two tag objects and no blocks share a place.
use Rattle.std.proofs.Common.{◌≡◌, ℕ, zero, suc, ◌+◌, ◌<◌, ◌≤◌, pos, List, [], ◌∷◌, ◌++◌, length, get_or, Bool, true, false, cond, inl, inr, Option, Some, None, Ok, Err, refl, sym, ap, ◌∙◌, subst, arith, append_assoc}
use Rattle.std.specs.Prelude.{nat_eq, flat_map}
use Rattle.std.specs.List.{list_any}
use Rattle.std.proofs.lemmas.Bool.{eqb-true, eq-eqb, ne_eqb}
use Rattle.sci_base.specs.Plain.{Violation, Fields}
use Rattle.sci_base.specs.Outcome.{Outcome}
use Rattle.sci_diagram.specs.Objects.{Object, block, superblock, link, text, deleted, Objects, no_objects, object}
use Rattle.sci_forms.specs.declared.spec.Spec.{Spec}
use Rattle.sci_check.specs.Check.{checked}
use Rattle.sci_blocks.specs.declared.class.PortClass.TheVariants.{Output}
use Rattle.sci_blocks.specs.declared.class.LinkType.{LinkType}
use Rattle.sci_blocks.specs.declared.class.LinkType.TheVariants.{Regular, Activation}
use Rattle.sci_blocks.specs.declared.pass_through.PassThrough.{PassThrough}
use Rattle.sci_blocks.specs.declared.pass_through.PassThrough.TheVariants.{Split, ActivationSplit, Union, PortBlock, Giver, Taker}
use Rattle.sci_blocks.specs.Ports.{object_number, numbers}
use Rattle.sci_blocks.specs.Rows.{pass_through, joint_checked}
use Rattle.sci_blocks.specs.Blocks.{Placed, placed, block_parts, parts_in, object_parts, parts_of}
use Rattle.sci_blocks.specs.Wiring.{fed_by, source_class, target_class}
use Rattle.sci_blocks.specs.Kept.{AreObjectsKept, IsObjectKept, AreBlocksKept, AreLinksKept, regular_ends}
use Rattle.sci_blocks.proofs.Keeping.{before}
use Rattle.sci_goto.specs.declared.tag.Tag.{Tag}
use Rattle.sci_goto.specs.declared.tag.TagForm.{TagForm}
use Rattle.sci_goto.specs.declared.tag.TagForm.TheVariants.{WrongPorts, WrongParameters, Gives, Takes}
use Rattle.sci_goto.specs.Forms.{form_of}
use Rattle.sci_goto.specs.Phase.{Standing, standing_as, standing_in, object_standing, standing, Giving, Taking, Tags, no_tags, taking, giving, gives, server, few_enough, joined, gathered, all_served, tags_of}
use Rattle.sci_flat.specs.Chain.{Step}
use Rattle.sci_flat.specs.Ports.{Port, port, PortStep, through_steps, steps_of, object_steps, tree_steps}
use Rattle.sci_flat.specs.Tagged.{tag_step, tag_steps, all_steps}
use Rattle.sci_flat.specs.Laws.{IsRegular}
use Rattle.sci_flat.proofs.Lists.{step_append}
use Rattle.sci_flat.proofs.Leads.{leads, object_leads}
use Rattle.sci_flat.proofs.Before.{regular_drawn_before}
use Rattle.sci_flat.proofs.OneBefore.{one_drawn_before}
use Rattle.sci_flat.proofs.SingleBlocks.{nowhere, two, inside, either_list, none_given, none_there, whole, first_off, later_off, output_regular, none_drawn_into}

abbrev Block : Type 0
Block = List ℕ × Fields

-- ---- the block at a path

-- the name and the fields of the block, which is no superblock, to which a path leads among objects the first of which is at position k
unfoldable mutual
  block_in : ℕ → List ℕ → Objects → Option Block
  block_in k path no_objects = None
  block_in k [] (object o os) = None
  block_in k (j ∷ rest) (object o os) = cond (nat_eq j k) (block_of o rest) (block_in (k + 1) (j ∷ rest) os)

  block_of : Object → List ℕ → Option Block
  block_of (block gui f) [] = Some (gui, f)
  block_of (block gui f) (j ∷ rest) = None
  block_of (superblock gui f os) [] = None
  block_of (superblock gui f os) (j ∷ rest) = block_in 1 (j ∷ rest) os
  block_of (link from to kind) path = None
  block_of text path = None
  block_of deleted path = None

nothing : (b : Block) → None ≡ Some b → ⊥
nothing b e = cc

skips : (k j : ℕ) (rest : List ℕ) (o : Object) (os : Objects) → k + 1 ≤ j → block_in k (j ∷ rest) (object o os) ≡ block_in (k + 1) (j ∷ rest) os
unfolding block_in block_of
skips k j rest o os h = ap (λ (b : Bool). cond b (block_of o rest) (block_in (k + 1) (j ∷ rest) os)) (ne_eqb j k (λ e. omega (arith, e, h)))

stays : (k : ℕ) (rest : List ℕ) (o : Object) (os : Objects) → block_in k (k ∷ rest) (object o os) ≡ block_of o rest
unfolding block_in block_of
stays k rest o os = ap (λ (b : Bool). cond b (block_of o rest) (block_in (k + 1) (k ∷ rest) os)) (eq-eqb k k refl)

from_first : (k : ℕ) (os : Objects) (j : ℕ) (rest : List ℕ) (b : Block) → block_in k (j ∷ rest) os ≡ Some b → k ≤ j
unfolding block_in block_of
from_first k no_objects j rest b e = absurd (nothing b e)
from_first k (object o os) j rest b e = by_test (nat_eq j k) refl e (λ i. from_first (k + 1) os j rest b i)
  where
    by_test : (c : Bool) → nat_eq j k ≡ c → cond c (block_of o rest) (block_in (k + 1) (j ∷ rest) os) ≡ Some b → (block_in (k + 1) (j ∷ rest) os ≡ Some b → k + 1 ≤ j) → k ≤ j
    by_test true p q ih = omega (arith, eqb-true j k p)
    by_test false p q ih = omega (arith, ih q)

-- ---- what lies at a place

-- among the objects of the diagram at a place, the first of them at position k: a block of which this holds
record Lies (at : List ℕ) (k : ℕ) (os : Objects) (place : List ℕ) (P : Block → Type 0) : Type 0 where
  j : ℕ
  rest : List ℕ
  later : k ≤ j
  is_place : place ≡ at ++ j ∷ rest
  b : Block
  is : block_in k (j ∷ rest) os ≡ Some b
  own : P b

-- within the object at position k
record LiesIn (at : List ℕ) (k : ℕ) (o : Object) (place : List ℕ) (P : Block → Type 0) : Type 0 where
  rest : List ℕ
  is_place : place ≡ (at ++ k ∷ []) ++ rest
  b : Block
  is : block_of o rest ≡ Some b
  own : P b

first_lies : (at : List ℕ) (k : ℕ) (o : Object) (os : Objects) (place : List ℕ) (P : Block → Type 0) → LiesIn at k o place P → Lies at k (object o os) place P
first_lies at k o os place P l = record { j = k; rest = l.rest; later = omega arith; is_place = l.is_place ∙ append_assoc at (k ∷ []) l.rest; b = l.b; is = stays k l.rest o os ∙ l.is; own = l.own }

later_lies : (at : List ℕ) (k : ℕ) (o : Object) (os : Objects) (place : List ℕ) (P : Block → Type 0) → Lies at (k + 1) os place P → Lies at k (object o os) place P
later_lies at k o os place P l = record { j = l.j; rest = l.rest; later = omega (arith, l.later); is_place = l.is_place; b = l.b; is = skips k l.j l.rest o os l.later ∙ l.is; own = l.own }

within_lies : (at : List ℕ) (k : ℕ) (gui : List ℕ) (f : Fields) (os : Objects) (place : List ℕ) (P : Block → Type 0) → Lies (at ++ k ∷ []) 1 os place P → LiesIn at k (superblock gui f os) place P
unfolding block_in block_of
within_lies at k gui f os place P l = record { rest = l.j ∷ l.rest; is_place = l.is_place; b = l.b; is = l.is; own = l.own }

nil_right : (xs : List ℕ) → xs ≡ xs ++ []
nil_right [] = refl
nil_right (x ∷ xs) = ap (λ (l : List ℕ). x ∷ l) (nil_right xs)

here_lies : (at : List ℕ) (k : ℕ) (gui : List ℕ) (f : Fields) (P : Block → Type 0) → P (gui, f) → LiesIn at k (block gui f) (at ++ k ∷ []) P
unfolding block_in block_of
here_lies at k gui f P p = record { rest = []; is_place = nil_right (at ++ k ∷ []); b = (gui, f); is = refl; own = p }

-- at one place lies one block
same_block : (t : Objects) (x y : List ℕ) (P Q : Block → Type 0) (l : Lies [] 1 t x P) (m : Lies [] 1 t y Q) → x ≡ y → l.b ≡ m.b
same_block t x y P Q l m e =
    let path : l.j ∷ l.rest ≡ m.j ∷ m.rest = sym l.is_place ∙ (e ∙ m.is_place) in
    let same : Some l.b ≡ Some m.b = sym l.is ∙ (ap (λ (p : List ℕ). block_in 1 p t) path ∙ m.is) in
    cc

-- ---- tag objects

-- the block is a tag object, and says this
abbrev Says : Block → TagForm → Type 0
Says b form = form_of (pass_through b.0) b.1 ≡ Some form

-- a tag object that says what the object at a position among those around it says
record IsTagOf (s : Standing) (b : Block) : Type 0 where
  says : Says b s.form
  last : ℕ
  position : s.place ≡ s.around ++ last ∷ []

abbrev Each : (Standing → Type 0) → List Standing → Type 0
Each P [] = Unit {0}
Each P (s ∷ ss) = P s × Each P ss

each_append : (P : Standing → Type 0) (xs ys : List Standing) → Each P xs → Each P ys → Each P (xs ++ ys)
each_append P [] ys a b = b
each_append P (x ∷ xs) ys a b = (a.0, each_append P xs ys a.1 b)

each_more : (P Q : Standing → Type 0) (xs : List Standing) → ((s : Standing) → P s → Q s) → Each P xs → Each Q xs
each_more P Q [] f a = tt
each_more P Q (x ∷ xs) f a = (f x a.0, each_more P Q xs f a.1)

block_stands : (at : List ℕ) (k : ℕ) (gui : List ℕ) (f : Fields) (o : Option TagForm) → form_of (pass_through gui) f ≡ o → Each (λ s. LiesIn at k (block gui f) s.place (IsTagOf s)) (standing_as at (at ++ k ∷ []) o)
block_stands at k gui f None e = tt
block_stands at k gui f (Some form) e =
    let s : Standing = record { around = at; place = at ++ k ∷ []; form = form } in
    (here_lies at k gui f (IsTagOf s) (record { says = e; last = k; position = refl }), tt)

mutual
  unfolding standing_in object_standing

  stands : (at : List ℕ) (k : ℕ) (os : Objects) → Each (λ s. Lies at k os s.place (IsTagOf s)) (standing_in at k os)
  stands at k no_objects = tt
  stands at k (object o os) =
      each_append (λ s. Lies at k (object o os) s.place (IsTagOf s)) (object_standing at (at ++ k ∷ []) o) (standing_in at (k + 1) os)
      (each_more (λ s. LiesIn at k o s.place (IsTagOf s)) (λ s. Lies at k (object o os) s.place (IsTagOf s)) (object_standing at (at ++ k ∷ []) o) (λ s l. first_lies at k o os s.place (IsTagOf s) l) (object_stands at k o))
      (each_more (λ s. Lies at (k + 1) os s.place (IsTagOf s)) (λ s. Lies at k (object o os) s.place (IsTagOf s)) (standing_in at (k + 1) os) (λ s l. later_lies at k o os s.place (IsTagOf s) l) (stands at (k + 1) os))

  object_stands : (at : List ℕ) (k : ℕ) (o : Object) → Each (λ s. LiesIn at k o s.place (IsTagOf s)) (object_standing at (at ++ k ∷ []) o)
  object_stands at k (block gui f) = block_stands at k gui f (form_of (pass_through gui) f) refl
  object_stands at k (superblock gui f os) =
      each_more (λ s. Lies (at ++ k ∷ []) 1 os s.place (IsTagOf s)) (λ s. LiesIn at k (superblock gui f os) s.place (IsTagOf s)) (standing_in (at ++ k ∷ []) 1 os) (λ s l. within_lies at k gui f os s.place (IsTagOf s) l) (stands (at ++ k ∷ []) 1 os)
  object_stands at k (link from to kind) = tt
  object_stands at k text = tt
  object_stands at k deleted = tt

-- ---- what takes a tag

-- the object that takes a tag, and the diagram that it stands in
record IsTakingOf (t : Taking) (b : Block) : Type 0 where
  says : Says b (Takes t.tag)
  last : ℕ
  position : t.place ≡ t.around ++ last ∷ []

abbrev IsTaken : Objects → Taking → Type 0
IsTaken d t = Lies [] 1 d t.place (IsTakingOf t)

abbrev EachTaken : (Taking → Type 0) → List Taking → Type 0
EachTaken P [] = Unit {0}
EachTaken P (t ∷ ts) = P t × EachTaken P ts

taken_append : (P : Taking → Type 0) (xs ys : List Taking) → EachTaken P xs → EachTaken P ys → EachTaken P (xs ++ ys)
taken_append P [] ys a b = b
taken_append P (x ∷ xs) ys a b = (a.0, taken_append P xs ys a.1 b)

-- a tag object of which this holds, where it takes a tag
abbrev WhereTaken : (Taking → Type 0) → Standing → Type 0
WhereTaken P s = (t : Tag) → s.form ≡ Takes t → P (taking s t)

joined_taken : (P : Taking → Type 0) (tags more : Tags) (s : Standing) (form : TagForm) → s.form ≡ form → joined tags s form ≡ Ok more → EachTaken P tags.takers → WhereTaken P s → EachTaken P more.takers
joined_taken P tags more s WrongPorts e h a w = cc
joined_taken P tags more s WrongParameters e h a w = cc
joined_taken P tags more s (Gives t scope) e h a w = once (list_any (gives t (giving s t scope).within) tags.givers) _ h
  where
    once : (b : Bool) (v : Violation) → cond b (Err v) (Ok (record { givers = tags.givers ++ giving s t scope ∷ []; takers = tags.takers })) ≡ Ok more → EachTaken P more.takers
    once true v q = cc
    once false v q = let is : record { givers = tags.givers ++ giving s t scope ∷ []; takers = tags.takers } ≡ more = cc in subst (λ (x : Tags). EachTaken P x.takers) is a
joined_taken P tags more s (Takes t) e h a w =
    let is : record { givers = tags.givers; takers = tags.takers ++ taking s t ∷ [] } ≡ more = cc in
    subst (λ (x : Tags). EachTaken P x.takers) is (taken_append P tags.takers (taking s t ∷ []) a (w t e, tt))

gathered_taken : (P : Taking → Type 0) (tags r : Tags) (ss : List Standing) → gathered tags ss ≡ Ok r → EachTaken P tags.takers → Each (WhereTaken P) ss → EachTaken P r.takers
unfolding gathered
gathered_taken P tags r [] h a w = let is : tags ≡ r = cc in subst (λ (x : Tags). EachTaken P x.takers) is a
gathered_taken P tags r (s ∷ ss) h a w =
    let m = before (joined tags s s.form) (λ more. gathered more ss) r h in
    gathered_taken P m.0 r ss m.2 (joined_taken P tags m.0 s s.form refl m.1 a w.0) w.1

tags_gathered : (d : Objects) (tags : Tags) → tags_of d ≡ Ok tags → gathered no_tags (standing d) ≡ Ok tags
unfolding tags_of
tags_gathered d tags h =
    let a = before (few_enough (length (standing d))) _ tags h in
    let b = before (gathered no_tags (standing d)) _ tags a.2 in
    let c = before (all_served b.0.givers b.0.takers) _ tags b.2 in
    let is : b.0 ≡ tags = let q = c.2 in cc in
    b.1 ∙ ap Ok is

all_taken : (d : Objects) (tags : Tags) → tags_of d ≡ Ok tags → EachTaken (IsTaken d) tags.takers
all_taken d tags h = gathered_taken (IsTaken d) no_tags tags (standing d) (tags_gathered d tags h) tt (each_more (λ s. Lies [] 1 d s.place (IsTagOf s)) (WhereTaken (IsTaken d)) (standing d) as_taken (stands [] 1 d))
  where
    as_taken : (s : Standing) → Lies [] 1 d s.place (IsTagOf s) → WhereTaken (IsTaken d) s
    as_taken s l t e = record {
      j = l.j;
      rest = l.rest;
      later = l.later;
      is_place = l.is_place;
      b = l.b;
      is = l.is;
      own = record { says = l.own.says ∙ ap Some e; last = l.own.last; position = l.own.position };
    }

-- ---- one taker at each place

front : (xs ys : List ℕ) (x y : ℕ) → xs ++ x ∷ [] ≡ ys ++ y ∷ [] → xs ≡ ys
front [] [] x y e = refl
front [] (b ∷ []) x y e = cc
front [] (b ∷ c ∷ ys) x y e = cc
front (a ∷ []) [] x y e = cc
front (a ∷ c ∷ xs) [] x y e = cc
front (a ∷ xs) (b ∷ ys) x y e =
    let head : a ≡ b = cc in
    let tail : xs ++ x ∷ [] ≡ ys ++ y ∷ [] = cc in
    ap (λ (h : ℕ). h ∷ xs) head ∙ ap (λ (l : List ℕ). b ∷ l) (front xs ys x y tail)

same_taker : (d : Objects) (t u : Taking) → IsTaken d t → IsTaken d u → t.place ≡ u.place → t ≡ u
same_taker d t u l m e =
    let b : l.b ≡ m.b = same_block d t.place u.place (IsTakingOf t) (IsTakingOf u) l m e in
    let tag : t.tag ≡ u.tag = let q : Some (Takes t.tag) ≡ Some (Takes u.tag) = sym l.own.says ∙ (ap (λ (x : Block). form_of (pass_through x.0) x.1) b ∙ m.own.says) in cc in
    let around : t.around ≡ u.around = front t.around u.around l.own.last m.own.last (sym l.own.position ∙ (e ∙ m.own.position)) in
    whole t.place u.place t.around u.around t.tag u.tag e around tag
  where
    whole : (p q a b : List ℕ) (x y : Tag) → p ≡ q → a ≡ b → x ≡ y → (let v : Taking = record { place = p; around = a; tag = x } in v) ≡ (let w : Taking = record { place = q; around = b; tag = y } in w)
    whole p q a b x y e f g = rw (e, f, g) refl

-- ---- one step of a tag

abbrev givers_of : Outcome Tags → List Giving
givers_of (Ok tags) = tags.givers
givers_of (Err v) = []

record ByTag (d : Objects) (gs : List Giving) (p q : Port) : Type 0 where
  t : Taking
  taken : IsTaken d t
  step : Step (tag_step t (server gs t)) p q

served_by : (d : Objects) (gs : List Giving) (ts : List Taking) → EachTaken (IsTaken d) ts → (p q : Port) → Step (flat_map (λ t. tag_step t (server gs t)) ts) p q → ByTag d gs p q
served_by d gs [] a p q s = absurd s
served_by d gs (t ∷ ts) a p q s = elim (step_append (tag_step t (server gs t)) (flat_map (λ t. tag_step t (server gs t)) ts) p q s) [
  | inl x ↦ record { t = t; taken = a.0; step = x }
  | inr y ↦ served_by d gs ts a.1 p q y
]

by_tag : (d : Objects) (o : Outcome Tags) → tags_of d ≡ o → (p q : Port) → Step (tag_steps o) p q → ByTag d (givers_of o) p q
by_tag d (Ok tags) e p q s = served_by d tags.givers tags.takers (all_taken d tags e) p q s
by_tag d (Err v) e p q s = absurd s

one_giver : (t : Taking) (o : Option Giving) (p p' q : Port) → Step (tag_step t o) p q → Step (tag_step t o) p' q → p ≡ p'
one_giver t None p p' q s u = absurd s
one_giver t (Some g) p p' q (inl s) (inl u) = sym s.0 ∙ u.0
one_giver t (Some g) p p' q (inr s) u = absurd s
one_giver t (Some g) p p' q (inl s) (inr u) = absurd u

leads_to : (t : Taking) (o : Option Giving) (p q : Port) → Step (tag_step t o) p q → port t.place (source_class t.tag.link) (pos 1) ≡ q
leads_to t None p q s = absurd s
leads_to t (Some g) p q (inl s) = s.1
leads_to t (Some g) p q (inr s) = absurd s

leads_from : (t : Taking) (o : Option Giving) (p q : Port) → Step (tag_step t o) p q → target_class t.tag.link ≡ p.class
leads_from t None p q s = absurd s
leads_from t (Some g) p q (inl s) = ap (λ (x : Port). x.class) s.0
leads_from t (Some g) p q (inr s) = absurd s

-- ---- nothing that is drawn leads to a tag object's output

silent : (p : Option PassThrough) (f : Fields) (form : TagForm) → form_of p f ≡ Some form → (at here : List ℕ) → through_steps at here f p ≡ []
silent None f form e at here = cc
silent (Some Split) f form e at here = cc
silent (Some ActivationSplit) f form e at here = cc
silent (Some Union) f form e at here = cc
silent (Some (PortBlock c)) f form e at here = cc
silent (Some (Giver l)) f form e at here = refl
silent (Some (Taker l)) f form e at here = refl

abbrev NoStep : List ℕ → Objects → ℕ → List ℕ → Type 0
NoStep at os k path = (p q : Port) → q.place ≡ at ++ path → q.class ≡ Output → Step (steps_of at k os) p q → ⊥

module _ (at : List ℕ) (k j : ℕ) (rest : List ℕ) (b : Block) (o : Object) (os : Objects) (kept : IsObjectKept o × AreObjectsKept os) where
  chosen : (c : Bool) → nat_eq j k ≡ c → cond c (block_of o rest) (block_in (k + 1) (j ∷ rest) os) ≡ Some b → (p q : Port) → q.place ≡ at ++ j ∷ rest → q.class ≡ Output
      → (block_of o rest ≡ Some b → q.place ≡ (at ++ k ∷ []) ++ rest → Step (object_steps at (at ++ k ∷ []) o) p q → ⊥) → (block_in (k + 1) (j ∷ rest) os ≡ Some b → Step (steps_of at (k + 1) os) p q → ⊥)
      → Step (object_steps at (at ++ k ∷ []) o ++ steps_of at (k + 1) os) p q → ⊥
  chosen true e i p q place class f g s =
      let same = eqb-true j k e in
      let here : q.place ≡ at ++ k ∷ rest = place ∙ ap (λ (x : ℕ). at ++ x ∷ rest) same in
      elim (step_append (object_steps at (at ++ k ∷ []) o) (steps_of at (k + 1) os) p q s) [
        | inl x ↦ f i (here ∙ sym (append_assoc at (k ∷ []) rest)) x
        | inr y ↦ later_off at k (numbers Output os) (regular_ends os) (at ++ k ∷ rest) q (record { rest = rest; is = refl }) here class (leads at (k + 1) os kept.1 p q (output_regular q class) y)
      ]
  chosen false e i p q place class f g s =
      elim (step_append (object_steps at (at ++ k ∷ []) o) (steps_of at (k + 1) os) p q s) [
        | inl x ↦ first_off at k (object_number Output o) (fed_by o) (at ++ j ∷ rest) q (record { j = j; rest = rest; is = refl; later = from_first (k + 1) os j rest b i }) place class (object_leads at k o kept.0 p q (output_regular q class) x)
        | inr y ↦ g i y
      ]

block_silent : (at here : List ℕ) (gui : List ℕ) (f : Fields) (b : Block) (form : TagForm) → (gui, f) ≡ b → Says b form → (p q : Port) → Step (through_steps at here f (pass_through gui)) p q → ⊥
block_silent at here gui f b form e says p q s =
    let is : Says (gui, f) form = ap (λ (x : Block). form_of (pass_through x.0) x.1) e ∙ says in
    subst (λ (x : List PortStep). Step x p q) (silent (pass_through gui) f form is at here) s

mutual
  unfolding block_in block_of steps_of object_steps

  undrawn_in : (at : List ℕ) (k : ℕ) (os : Objects) → AreObjectsKept os → (j : ℕ) (rest : List ℕ) (b : Block) (form : TagForm) → block_in k (j ∷ rest) os ≡ Some b → Says b form
      → (p q : Port) → q.place ≡ at ++ j ∷ rest → q.class ≡ Output → Step (steps_of at k os) p q → ⊥
  undrawn_in at k no_objects kept j rest b form e says p q place class s = absurd s
  undrawn_in at k (object o os) kept j rest b form e says p q place class s =
      chosen at k j rest b o os kept (nat_eq j k) refl e p q place class
      (λ i here x. undrawn_of at k o kept.0 rest b form i says p q here class x)
      (λ i y. undrawn_in at (k + 1) os kept.1 j rest b form i says p q place class y) s

  undrawn_of : (at : List ℕ) (k : ℕ) (o : Object) → IsObjectKept o → (rest : List ℕ) (b : Block) (form : TagForm) → block_of o rest ≡ Some b → Says b form
      → (p q : Port) → q.place ≡ (at ++ k ∷ []) ++ rest → q.class ≡ Output → Step (object_steps at (at ++ k ∷ []) o) p q → ⊥
  undrawn_of at k (block gui f) kept [] b form e says p q place class s = block_silent at (at ++ k ∷ []) gui f b form (let is : (gui, f) ≡ b = cc in is) says p q s
  undrawn_of at k (block gui f) kept (j ∷ rest) b form e says p q place class s = absurd (nothing b e)
  undrawn_of at k (superblock gui f os) kept [] b form e says p q place class s = absurd (nothing b e)
  undrawn_of at k (superblock gui f os) kept (j ∷ rest) b form e says p q place class s = undrawn_in (at ++ k ∷ []) 1 os kept.1 j rest b form e says p q place class s
  undrawn_of at k (link from to kind) kept rest b form e says p q place class s = absurd (nothing b e)
  undrawn_of at k text kept rest b form e says p q place class s = absurd s
  undrawn_of at k deleted kept rest b form e says p q place class s = absurd s

-- a taker's output, where it is regular
taken_output : (l : LinkType) → IsRegular (source_class l) → source_class l ≡ Output
taken_output Regular r = refl
taken_output Activation r = absurd r

undrawn : (t : Objects) → AreBlocksKept t → (gs : List Giving) (p p' q : Port) → IsRegular q.class → ByTag t gs p q → Step (tree_steps t) p' q → ⊥
undrawn t kept gs p p' q r x s =
    let is = leads_to x.t (server gs x.t) p q x.step in
    let class : source_class x.t.tag.link ≡ q.class = ap (λ (y : Port). y.class) is in
    let place : x.t.place ≡ q.place = ap (λ (y : Port). y.place) is in
    undrawn_in [] 1 t kept.1 x.taken.j x.taken.rest x.taken.b (Takes x.t.tag) x.taken.is x.taken.own.says p' q (sym place ∙ x.taken.is_place)
    (sym class ∙ taken_output x.t.tag.link (subst IsRegular (sym class) r)) s

-- ---- over all steps

pub one_before : (t : Objects) → AreBlocksKept t → AreLinksKept t → (p p' q : Port) → IsRegular q.class → Step (all_steps t) p q → Step (all_steps t) p' q → p ≡ p'
one_before t blocks links p p' q r s s' = elim (step_append (tree_steps t) (tag_steps (tags_of t)) p q s) [
  | inl a ↦ elim (step_append (tree_steps t) (tag_steps (tags_of t)) p' q s') [
    | inl b ↦ one_drawn_before t blocks links p p' q r a b
    | inr b ↦ absurd (undrawn t blocks _ p' p q r (by_tag t (tags_of t) refl p' q b) a)
  ]
  | inr a ↦ elim (step_append (tree_steps t) (tag_steps (tags_of t)) p' q s') [
    | inl b ↦ absurd (undrawn t blocks _ p p' q r (by_tag t (tags_of t) refl p q a) b)
    | inr b ↦ by_one_tag t (givers_of (tags_of t)) p p' q (by_tag t (tags_of t) refl p q a) (by_tag t (tags_of t) refl p' q b)
  ]
]
  where
    by_one_tag : (t : Objects) (gs : List Giving) (p p' q : Port) → ByTag t gs p q → ByTag t gs p' q → p ≡ p'
    by_one_tag t gs p p' q x y =
        let place : x.t.place ≡ y.t.place = ap (λ (z : Port). z.place) (leads_to x.t (server gs x.t) p q x.step ∙ sym (leads_to y.t (server gs y.t) p' q y.step)) in
        let same = same_taker t x.t y.t x.taken y.taken place in
        one_giver y.t (server gs y.t) p p' q (subst (λ (z : Taking). Step (tag_step z (server gs z)) p q) same x.step) y.step

pub regular_before : (t : Objects) (p q : Port) → IsRegular q.class → Step (all_steps t) p q → IsRegular p.class
regular_before t p q r s = elim (step_append (tree_steps t) (tag_steps (tags_of t)) p q s) [
  | inl a ↦ regular_drawn_before t p q r a
  | inr b ↦ of_tag (by_tag t (tags_of t) refl p q b)
]
  where
    both : (l : LinkType) → IsRegular (source_class l) → IsRegular (target_class l)
    both Regular r = tt
    both Activation r = absurd r

    of_tag : ByTag t (givers_of (tags_of t)) p q → IsRegular p.class
    of_tag x =
        let class : source_class x.t.tag.link ≡ q.class = ap (λ (y : Port). y.class) (leads_to x.t _ p q x.step) in
        subst IsRegular (leads_from x.t _ p q x.step) (both x.t.tag.link (subst IsRegular (sym class) r))

-- ---- blocks

abbrev IsBlock : Block → Type 0
IsBlock b = pass_through b.0 ≡ None

block_lies : (at : List ℕ) (k : ℕ) (gui : List ℕ) (f : Fields) (o : Option PassThrough) (ps : List Placed) → pass_through gui ≡ o → block_parts (at ++ k ∷ []) gui f o ≡ Ok ps → (i : ℕ) → i < length ps → LiesIn at k (block gui f) (get_or ps i nowhere).place IsBlock
block_lies at k gui f None ps e h i l =
    let a = before (checked (at ++ k ∷ []) gui f) (λ s. Ok (placed (at ++ k ∷ []) s ∷ [])) ps h in
    let one : placed (at ++ k ∷ []) a.0 ∷ [] ≡ ps = let q = a.2 in cc in
    subst (λ (l : List Placed). LiesIn at k (block gui f) (get_or l i nowhere).place IsBlock) one (first a.0 i (subst (λ (l : List Placed). i < length l) (sym one) l))
  where
    first : (s : Spec) (i : ℕ) → i < length (placed (at ++ k ∷ []) s ∷ []) → LiesIn at k (block gui f) (get_or (placed (at ++ k ∷ []) s ∷ []) i nowhere).place IsBlock
    first s zero l = here_lies at k gui f IsBlock e
    first s (suc i) l = absurd (omega (arith, l))
block_lies at k gui f (Some p) ps e h i l =
    let a = before (joint_checked (at ++ k ∷ []) p f) (λ _. Ok []) ps h in
    let none : [] ≡ ps = let q = a.2 in cc in
    absurd (none_there ps none i l)

mutual
  unfolding parts_in object_parts

  blocks_lie : (at : List ℕ) (k : ℕ) (os : Objects) (ps : List Placed) → parts_in at k os ≡ Ok ps → (i : ℕ) → i < length ps → Lies at k os (get_or ps i nowhere).place IsBlock
  blocks_lie at k no_objects ps h i l = absurd (none_there ps (none_given ps h) i l)
  blocks_lie at k (object o os) ps h i l =
      let w = two at k o os ps h in
      either_list (λ p. Lies at k (object o os) p.place IsBlock) w.first w.others ps w.both
      (λ i l. first_lies at k o os (get_or w.first i nowhere).place IsBlock (object_lies at k o w.first w.of_first i l))
      (λ i l. later_lies at k o os (get_or w.others i nowhere).place IsBlock (blocks_lie at (k + 1) os w.others w.of_others i l)) i l

  object_lies : (at : List ℕ) (k : ℕ) (o : Object) (ps : List Placed) → object_parts (at ++ k ∷ []) o ≡ Ok ps → (i : ℕ) → i < length ps → LiesIn at k o (get_or ps i nowhere).place IsBlock
  object_lies at k (block gui f) ps h i l = block_lies at k gui f (pass_through gui) ps refl h i l
  object_lies at k (superblock gui f os) ps h i l = within_lies at k gui f os (get_or ps i nowhere).place IsBlock (blocks_lie (at ++ k ∷ []) 1 os ps (inside (at ++ k ∷ []) gui f os ps h) i l)
  object_lies at k (link from to kind) ps h i l = absurd (none_there ps (none_given ps h) i l)
  object_lies at k text ps h i l = absurd (none_there ps (none_given ps h) i l)
  object_lies at k deleted ps h i l = absurd (none_there ps (none_given ps h) i l)

-- a block's name is none of a tag object
no_tag_object : (b : Block) (form : TagForm) → IsBlock b → Says b form → ⊥
no_tag_object b form e says = let q : None ≡ Some form = sym (ap (λ (p : Option PassThrough). form_of p b.1) e) ∙ says in cc

pub none_into : (t : Objects) (ps : List Placed) → parts_of t ≡ Ok ps → (i : ℕ) → i < length ps → (p q : Port) → q.place ≡ (get_or ps i nowhere).place → q.class ≡ Output → Step (all_steps t) p q → ⊥
none_into t ps h i l p q place class s = elim (step_append (tree_steps t) (tag_steps (tags_of t)) p q s) [
  | inl a ↦ none_drawn_into t ps h i l p q place class a
  | inr b ↦ of_tag (by_tag t (tags_of t) refl p q b)
]
  where
    of_tag : ByTag t (givers_of (tags_of t)) p q → ⊥
    of_tag x =
        let here = blocks_lie [] 1 t ps (whole t ps h) i l in
        let at : x.t.place ≡ (get_or ps i nowhere).place = ap (λ (y : Port). y.place) (leads_to x.t _ p q x.step) ∙ place in
        let same = same_block t x.t.place (get_or ps i nowhere).place (IsTakingOf x.t) IsBlock x.taken here at in
        no_tag_object here.b (Takes x.t.tag) here.own (ap (λ (y : Block). form_of (pass_through y.0) y.1) (sym same) ∙ x.taken.own.says)
