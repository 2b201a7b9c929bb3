-- What a diagram has that passes the rules on each object and each link: every link joins ports that are there, and so does every
-- pass-through object.
use Rattle.std.proofs.Common.{◌≡◌, ◌<◌, ◌≤◌, ◌+◌, ℕ, zero, suc, ℤ, pos, negsuc, List, [], ◌∷◌, ◌++◌, length, Bool, true, false, cond, not, ◌||◌, codes, Option, Some, None, Result, Ok, Err, refl, sym, ap, ◌∙◌, subst, arith}
use Rattle.std.specs.Prelude.{nat_lt, nat_le, filter}
use Rattle.std.specs.Str.{bytes_eq}
use Rattle.std.proofs.lemmas.Bool.Decides.{nat_tests}
use Rattle.sci_base.specs.Plain.{Violation, Fields}
use Rattle.sci_base.specs.Outcome.{◌>>=◌}
use Rattle.sci_diagram.specs.declared.diagram.End.{End}
use Rattle.sci_diagram.specs.Objects.{Object, block, superblock, link, text, deleted, Objects, no_objects, object}
use Rattle.sci_forms.specs.declared.broken.Broken.{Broken}
use Rattle.sci_forms.specs.Forms.{within, or_else, given, first_not}
use Rattle.sci_check.specs.Check.{shape}
use Rattle.sci_blocks.specs.declared.class.PortClass.{PortClass}
use Rattle.sci_blocks.specs.declared.class.PortClass.TheVariants.{Input, Output, ActivationInput, ActivationOutput}
use Rattle.sci_blocks.specs.declared.class.LinkType.{LinkType}
use Rattle.sci_blocks.specs.declared.class.LinkType.TheVariants.{Regular, Activation}
use Rattle.sci_blocks.specs.declared.pass_through.PassThrough.{PassThrough}
use Rattle.sci_blocks.specs.declared.pass_through.PassThrough.TheVariants.{Split, ActivationSplit, Union, PortBlock, Giver, Taker}
use Rattle.sci_blocks.specs.Rows.{pass_through, row, row_broken, number_broken, parameters_broken, outcome_at, joint_checked}
use Rattle.sci_blocks.specs.Ports.{ports, no_ports, name_of, number, object_number, numbers, is_once, least, first_broken, unless_broken, class_matched, ports_matched}
use Rattle.sci_blocks.specs.Blocks.{Placed, block_parts, parts_in, object_parts, parts_of}
use Rattle.sci_blocks.specs.Wiring.{is_port_of, link_type, source_class, target_class, links_of}
use Rattle.sci_blocks.specs.Kept.{IsLinkKept, AreEndsKept, AreObjectEndsKept}
use Rattle.sci_blocks.proofs.Keeping.{links_kept}

-- the other side of a superblock's port: the port of the port block inside
abbrev pub opposite : PortClass → PortClass
opposite Input = Output
opposite Output = Input
opposite ActivationInput = ActivationOutput
opposite ActivationOutput = ActivationInput

-- a port block stands for a port of the superblock around it
pub record StandsFor (cnt : PortClass → ℕ) (c : PortClass) (f : Fields) : Type 0 where
  pub k : ℕ
  pub ipar : f.ipar ≡ pos (suc k) ∷ []
  pub there : k < cnt c
  pub own : 1 ≤ ports f (opposite c)

abbrev pub JointOk : (PortClass → ℕ) → Fields → Option PassThrough → Type 0
JointOk cnt f None = Unit {0}
JointOk cnt f (Some Split) = 1 ≤ length f.ins
JointOk cnt f (Some ActivationSplit) = 1 ≤ f.evtin
JointOk cnt f (Some Union) = 1 ≤ f.evtout
JointOk cnt f (Some (PortBlock c)) = StandsFor cnt c f
JointOk cnt f (Some (Giver l)) = Unit {0}
JointOk cnt f (Some (Taker l)) = Unit {0}

abbrev pub LinkOk : Objects → End → End → Option LinkType → Type 0
LinkOk all from to None = ⊥
LinkOk all from to (Some t) = (is_port_of all (source_class t) from ≡ true) × (is_port_of all (target_class t) to ≡ true)

-- objects of a diagram with all these objects, inside a superblock with these counts of ports
abbrev mutual
  pub DiagramOk : Objects → (PortClass → ℕ) → Objects → Type 0
  DiagramOk all cnt no_objects = Unit {0}
  DiagramOk all cnt (object o os) = ObjectOk all cnt o × DiagramOk all cnt os

  pub ObjectOk : Objects → (PortClass → ℕ) → Object → Type 0
  ObjectOk all cnt (block gui f) = JointOk cnt f (pass_through gui)
  ObjectOk all cnt (superblock gui f os) = DiagramOk os (ports f) os
  ObjectOk all cnt (link from to kind) = LinkOk all from to (link_type kind)
  ObjectOk all cnt text = Unit {0}
  ObjectOk all cnt deleted = Unit {0}

-- ---- steps of outcomes

pub then_ok : {A B : Type 0} (o : Result A Violation) (f : A → Result B Violation) (b : B) → (o >>= f) ≡ Ok b → (a : A) × (o ≡ Ok a) × (f a ≡ Ok b)
then_ok (Err e) f b h = cc
then_ok (Ok a) f b h = (a, refl, h)

if_none : (b : Bool) (x : Broken) (r : Option Broken) → cond (not b) (Some x) r ≡ None → (b ≡ true) × (r ≡ None)
if_none true x r h = (refl, h)
if_none false x r h = cc

none_both : {A : Type 0} (a b : Option A) → or_else a b ≡ None → (a ≡ None) × (b ≡ None)
none_both (Some x) b h = cc
none_both None b h = (refl, h)

outcome_ok : (place : List ℕ) (o : Option Broken) (u : Unit {0}) → outcome_at place o ≡ Ok u → o ≡ None
outcome_ok place None u h = refl
outcome_ok place (Some b) u h = cc

at_least : (a b n : ℕ) → within a b n ≡ true → a ≤ n
at_least a b n h = grind (arith, nat_tests)

-- ---- a superblock's ports

abbrev pub AllLow : ℕ → List ℕ → Type 0
AllLow count [] = Unit {0}
AllLow count (n ∷ ns) = (n ≤ count) × AllLow count ns

low_left : (count : ℕ) (xs ys : List ℕ) → AllLow count (xs ++ ys) → AllLow count xs
low_left count [] ys h = tt
low_left count (x ∷ xs) ys h = (h.0, low_left count xs ys h.1)

low_right : (count : ℕ) (xs ys : List ℕ) → AllLow count (xs ++ ys) → AllLow count ys
low_right count [] ys h = h
low_right count (x ∷ xs) ys h = low_right count xs ys h.1

not_above : (count n : ℕ) → nat_lt count n ≡ false → n ≤ count
not_above count n h = grind (arith, nat_tests)

low_filter : (count : ℕ) (ns : List ℕ) → least (filter (λ n. nat_lt count n) ns) ≡ None → AllLow count ns
low_filter count [] h = tt
low_filter count (n ∷ ns) h = step (nat_lt count n) refl h (low_filter count ns)
  where
    step : (b : Bool) → nat_lt count n ≡ b → least (cond b (n ∷ filter (λ n. nat_lt count n) ns) (filter (λ n. nat_lt count n) ns)) ≡ None → (least (filter (λ n. nat_lt count n) ns) ≡ None → AllLow count ns) → (n ≤ count) × AllLow count ns
    step true e h more = cc
    step false e h more = (not_above count n e, more h)

low_class : (at : List ℕ) (cnt : PortClass → ℕ) (os : Objects) (c : PortClass) (u : Unit {0}) → class_matched at cnt os c ≡ Ok u → AllLow (cnt c) (numbers c os)
low_class at cnt os c u h = low_filter (cnt c) (numbers c os) ((none_both (given (first_not (is_once (numbers c os)) (cnt c)) (λ k. k + 1)) (least (filter (λ n. nat_lt (cnt c) n) (numbers c os))) (unless_none (first_broken (cnt c) (numbers c os)) h)).1)
  where
    unless_none : (o : Option ℕ) → unless_broken at c o ≡ Ok u → o ≡ None
    unless_none None h = refl
    unless_none (Some n) h = cc

low_all : (at : List ℕ) (cnt : PortClass → ℕ) (os : Objects) (u : Unit {0}) → ports_matched at cnt os ≡ Ok u → (c : PortClass) → AllLow (cnt c) (numbers c os)
unfolding ports_matched
low_all at cnt os u h =
    let a = then_ok (class_matched at cnt os Input) _ u h in
    let b = then_ok (class_matched at cnt os Output) _ u a.2 in
    let d = then_ok (class_matched at cnt os ActivationInput) _ u b.2 in
    pick a.0 a.1 b.0 b.1 d.0 d.1 d.2
  where
    pick : (i : Unit {0}) → class_matched at cnt os Input ≡ Ok i → (o : Unit {0}) → class_matched at cnt os Output ≡ Ok o → (e : Unit {0}) → class_matched at cnt os ActivationInput ≡ Ok e → class_matched at cnt os ActivationOutput ≡ Ok u → (c : PortClass) → AllLow (cnt c) (numbers c os)
    pick i h1 o h2 e h3 h4 Input = low_class at cnt os Input i h1
    pick i h1 o h2 e h3 h4 Output = low_class at cnt os Output o h2
    pick i h1 o h2 e h3 h4 ActivationInput = low_class at cnt os ActivationInput e h3
    pick i h1 o h2 e h3 h4 ActivationOutput = low_class at cnt os ActivationOutput u h4

-- ---- pass-through objects

abbrev picked : Bool → Bool → Bool → Bool → PortClass → Bool
picked d e f g Input = d
picked d e f g Output = e
picked d e f g ActivationInput = f
picked d e f g ActivationOutput = g

-- no tag object is a port block
no_tag_block : (a b c d : Bool) (k : PortClass) → cond a (Some (Giver Regular)) (cond b (Some (Taker Regular)) (cond c (Some (Giver Activation)) (cond d (Some (Taker Activation)) None))) ≡ Some (PortBlock k) → ⊥
no_tag_block true b c d k h = cc
no_tag_block false true c d k h = cc
no_tag_block false false true d k h = cc
no_tag_block false false false true k h = cc
no_tag_block false false false false k h = cc

by_name : (a b c d e f g : Bool) (t : Option PassThrough) (k : PortClass) → (t ≡ Some (PortBlock k) → ⊥)
    → cond a (Some Split) (cond b (Some ActivationSplit) (cond c (Some Union) (cond d (Some (PortBlock Input)) (cond e (Some (PortBlock Output)) (cond f (Some (PortBlock ActivationInput)) (cond g (Some (PortBlock ActivationOutput)) t)))))) ≡ Some (PortBlock k)
    → picked d e f g k ≡ true
by_name true b c d e f g t k none h = cc
by_name false true c d e f g t k none h = cc
by_name false false true d e f g t k none h = cc
by_name false false false true e f g t Input none h = refl
by_name false false false true e f g t Output none h = cc
by_name false false false true e f g t ActivationInput none h = cc
by_name false false false true e f g t ActivationOutput none h = cc
by_name false false false false true f g t Input none h = cc
by_name false false false false true f g t Output none h = refl
by_name false false false false true f g t ActivationInput none h = cc
by_name false false false false true f g t ActivationOutput none h = cc
by_name false false false false false true g t Input none h = cc
by_name false false false false false true g t Output none h = cc
by_name false false false false false true g t ActivationInput none h = refl
by_name false false false false false true g t ActivationOutput none h = cc
by_name false false false false false false true t Input none h = cc
by_name false false false false false false true t Output none h = cc
by_name false false false false false false true t ActivationInput none h = cc
by_name false false false false false false true t ActivationOutput none h = refl
by_name false false false false false false false t k none h = absurd (none h)

pub block_name : (gui : List ℕ) (k : PortClass) → pass_through gui ≡ Some (PortBlock k) → bytes_eq gui (name_of k) ≡ true
block_name gui k h = pick k (by_name (bytes_eq gui (codes "SPLIT_f")) (bytes_eq gui (codes "CLKSPLIT_f")) (bytes_eq gui (codes "CLKSOM_f") || bytes_eq gui (codes "CLKSOMV_f")) (bytes_eq gui (codes "IN_f")) (bytes_eq gui (codes "OUT_f")) (bytes_eq gui (codes "CLKINV_f")) (bytes_eq gui (codes "CLKOUTV_f")) _
    k (no_tag_block (bytes_eq gui (codes "GOTO")) (bytes_eq gui (codes "FROM")) (bytes_eq gui (codes "CLKGOTO")) (bytes_eq gui (codes "CLKFROM")) k) h)
  where
    pick : (k : PortClass) → picked (bytes_eq gui (codes "IN_f")) (bytes_eq gui (codes "OUT_f")) (bytes_eq gui (codes "CLKINV_f")) (bytes_eq gui (codes "CLKOUTV_f")) k ≡ true → bytes_eq gui (name_of k) ≡ true
    pick Input h = h
    pick Output h = h
    pick ActivationInput h = h
    pick ActivationOutput h = h

number_is : (ps : List ℤ) → number_broken ps ≡ None → (k : ℕ) × (ps ≡ pos (suc k) ∷ [])
number_is [] h = cc
number_is (pos zero ∷ []) h = cc
number_is (pos (suc k) ∷ []) h = (k, refl)
number_is (negsuc k ∷ []) h = cc
number_is (n ∷ m ∷ ns) h = cc

pub number_listed : (k : ℕ) → number (pos (suc k) ∷ []) ≡ suc k ∷ []
number_listed k = let e : nat_le 1 (suc k) ≡ true = grind (arith, nat_tests) in ap (λ (b : Bool). cond b (suc k ∷ []) []) e

-- the counts of a row
row_ok : (p : PassThrough) (f : Fields) → row_broken (row p) f ≡ None
    → ((row p).ins_least ≤ length f.ins) × ((row p).outs_least ≤ length f.outs) × ((row p).evtin_least ≤ f.evtin) × ((row p).evtout_least ≤ f.evtout)
row_ok p f h =
    let c = row p in
    let a = if_none (within c.ins_least c.ins_most (length f.ins)) (shape (pos 1) (length f.ins)) _ h in
    let b = if_none (within c.outs_least c.outs_most (length f.outs)) (shape (pos 2) (length f.outs)) _ a.1 in
    let d = if_none (within c.evtin_least c.evtin_most f.evtin) (shape (pos 3) f.evtin) _ b.1 in
    let e = if_none (within c.evtout_least c.evtout_most f.evtout) (shape (pos 4) f.evtout) None d.1 in
    (at_least c.ins_least c.ins_most (length f.ins) a.0, at_least c.outs_least c.outs_most (length f.outs) b.0, at_least c.evtin_least c.evtin_most f.evtin d.0, at_least c.evtout_least c.evtout_most f.evtout e.0)

stands_for : (cnt : PortClass → ℕ) (gui : List ℕ) (f : Fields) (c : PortClass) → bytes_eq gui (name_of c) ≡ true → number_broken f.ipar ≡ None → 1 ≤ ports f (opposite c) → AllLow (cnt c) (object_number c (block gui f)) → StandsFor cnt c f
stands_for cnt gui f c is ok own low =
    let n = number_is f.ipar ok in
    let listed : object_number c (block gui f) ≡ suc n.0 ∷ [] = ap (λ (b : Bool). cond b (number f.ipar) []) is ∙ (ap number n.1 ∙ number_listed n.0) in
    let here = subst (AllLow (cnt c)) listed low in
    record { k = n.0; ipar = n.1; there = omega (arith, here.0); own = own }

joint_ok : (here gui : List ℕ) (f : Fields) (cnt : PortClass → ℕ) (o : Option PassThrough) (ps : List Placed) → pass_through gui ≡ o → block_parts here gui f o ≡ Ok ps → ((c : PortClass) → AllLow (cnt c) (object_number c (block gui f))) → JointOk cnt f o
joint_ok here gui f cnt None ps e h low = tt
joint_ok here gui f cnt (Some p) ps e h low =
    let a = then_ok (joint_checked here p f) (λ _. Ok []) ps h in
    let b = none_both (row_broken (row p) f) (parameters_broken p f.ipar) (outcome_ok here (or_else (row_broken (row p) f) (parameters_broken p f.ipar)) a.0 a.1) in
    kinds p e (row_ok p f b.0) b.1
  where
    kinds : (p : PassThrough) → pass_through gui ≡ Some p → ((row p).ins_least ≤ length f.ins) × ((row p).outs_least ≤ length f.outs) × ((row p).evtin_least ≤ f.evtin) × ((row p).evtout_least ≤ f.evtout) → parameters_broken p f.ipar ≡ None → JointOk cnt f (Some p)
    kinds Split e r q = r.0
    kinds ActivationSplit e r q = r.2
    kinds Union e r q = r.3
    kinds (PortBlock Input) e r q = stands_for cnt gui f Input (block_name gui Input e) q r.1 (low Input)
    kinds (PortBlock Output) e r q = stands_for cnt gui f Output (block_name gui Output e) q r.0 (low Output)
    kinds (PortBlock ActivationInput) e r q = stands_for cnt gui f ActivationInput (block_name gui ActivationInput e) q r.3 (low ActivationInput)
    kinds (PortBlock ActivationOutput) e r q = stands_for cnt gui f ActivationOutput (block_name gui ActivationOutput e) q r.2 (low ActivationOutput)
    kinds (Giver l) e r q = tt
    kinds (Taker l) e r q = tt

-- ---- links

link_ok : (all : Objects) (from to : End) (kind : ℤ) → IsLinkKept all from to kind → LinkOk all from to (link_type kind)
link_ok all from to kind l = let P : Option LinkType → Type 0 = LinkOk all from to in subst P (sym l.typed) (l.source, l.target)

-- ---- whole diagrams

mutual
  unfolding parts_in object_parts

  diagram_ok : (at : List ℕ) (k : ℕ) (all : Objects) (cnt : PortClass → ℕ) (os : Objects) (ps : List Placed) → parts_in at k os ≡ Ok ps → AreEndsKept all os → ((c : PortClass) → AllLow (cnt c) (numbers c os)) → DiagramOk all cnt os
  diagram_ok at k all cnt no_objects ps h l low = tt
  diagram_ok at k all cnt (object o os) ps h l low =
      let a = then_ok (object_parts (at ++ k ∷ []) o) _ ps h in
      let b = then_ok (parts_in at (k + 1) os) (λ qs. Ok (a.0 ++ qs)) ps a.2 in (
        object_ok (at ++ k ∷ []) all cnt o a.0 a.1 l.0 (λ c. low_left (cnt c) (object_number c o) (numbers c os) (low c)),
        diagram_ok at (k + 1) all cnt os b.0 b.1 l.1 (λ c. low_right (cnt c) (object_number c o) (numbers c os) (low c)),
      )

  object_ok : (here : List ℕ) (all : Objects) (cnt : PortClass → ℕ) (o : Object) (ps : List Placed) → object_parts here o ≡ Ok ps → AreObjectEndsKept all o → ((c : PortClass) → AllLow (cnt c) (object_number c o)) → ObjectOk all cnt o
  object_ok here all cnt (block gui f) ps h l low = joint_ok here gui f cnt (pass_through gui) ps refl h low
  object_ok here all cnt (superblock gui f os) ps h l low =
      let a = then_ok (ports_matched here (ports f) os) _ ps h in
      diagram_ok here 1 os (ports f) os ps a.2 l.0 (low_all here (ports f) os a.0 a.1)
  object_ok here all cnt (link from to kind) ps h l low = link_ok all from to kind l
  object_ok here all cnt text ps h l low = tt
  object_ok here all cnt deleted ps h l low = tt

pub tree_ok : (t : Objects) (ps : List Placed) (u : Unit {0}) → parts_of t ≡ Ok ps → links_of t ≡ Ok u → DiagramOk t no_ports t × (parts_in [] 1 t ≡ Ok ps)
unfolding parts_of
tree_ok t ps u h l =
    let a = then_ok (ports_matched [] no_ports t) _ ps h in
    (diagram_ok [] 1 t no_ports t ps a.2 (links_kept t u l).0 (low_all [] no_ports t a.0 a.1), a.2)
