-- Where no object and no link breaks a rule, the rules hold at every level.
use Rattle.std.proofs.Common.{◌≡◌, ℕ, zero, suc, ◌+◌, ◌<◌, ◌≤◌, ◌-◌, ℤ, pos, negsuc, List, [], ◌∷◌, ◌++◌, Bool, true, false, cond, ◌&&◌, ◌||◌, Option, Some, None, Result, Ok, Err, refl, ap, ◌∙◌, append_assoc, inl, inr, arith}
use Rattle.std.specs.Prelude.{nat_eq, nat_lt, nat_le, filter}
use Rattle.std.specs.Str.{bytes_eq}
use Rattle.std.specs.List.{list_any}
use Rattle.std.proofs.lemmas.Bool.{eqb-true, ne_eqb, ltb-false, cases_lt, and_parts}
use Rattle.sci_base.specs.Fit.{int_eq}
use Rattle.sci_base.specs.Plain.{Violation, Fields}
use Rattle.sci_base.specs.Outcome.{◌>>=◌}
use Rattle.sci_diagram.specs.declared.diagram.End.{End}
use Rattle.sci_diagram.specs.Objects.{Object, block, superblock, link, text, deleted, Objects, no_objects, object}
use Rattle.sci_forms.specs.declared.Kind.{Kind}
use Rattle.sci_forms.specs.declared.broken.Broken.{Broken}
use Rattle.sci_forms.specs.declared.spec.Spec.{Spec}
use Rattle.sci_forms.specs.Forms.{first_not, unless, or_else, given}
use Rattle.sci_names.specs.Names.{by_name}
use Rattle.sci_forms.proofs.TestLemmas.{int_same}
use Rattle.sci_check.specs.Check.{checked, checked_kind, judged, broken}
use Rattle.sci_blocks.specs.declared.class.PortClass.{PortClass}
use Rattle.sci_blocks.specs.declared.class.PortClass.TheVariants.{Input, Output, ActivationInput, ActivationOutput}
use Rattle.sci_blocks.specs.declared.class.LinkType.{LinkType}
use Rattle.sci_blocks.specs.declared.class.LinkType.TheVariants.{Regular, Activation}
use Rattle.sci_blocks.specs.declared.pass_through.PassThrough.{PassThrough}
use Rattle.sci_blocks.specs.Ports.{ports, no_ports, name_of, number, object_number, numbers, times, least, is_once, first_broken, unless_broken, class_matched, ports_matched}
use Rattle.sci_blocks.specs.Rows.{pass_through, row, row_broken, parameters_broken, outcome_at, joint_checked}
use Rattle.sci_blocks.specs.Blocks.{Placed, placed, block_parts, parts_in, object_parts, parts_of}
use Rattle.sci_blocks.specs.Wiring.{link_type, source_class, target_class, typed_as, end_judged, once_fed, fed_twice, is_at, ends_judged, link_judged, regular_end, fed_by, links_in, object_links, links_of}
use Rattle.sci_blocks.specs.Kept.{ArePortsMatched, IsBlockKept, AreObjectsKept, IsObjectKept, AreBlocksKept, IsLinkKept, regular_ends, ends_at, AreEndsKept, AreObjectEndsKept, AreLinksKept}

-- ---- steps

-- what went on from a step had its value
pub before : {A B : Type 0} (o : Result A Violation) (f : A → Result B Violation) (b : B) → (o >>= f) ≡ Ok b → (a : A) × (o ≡ Ok a) × (f a ≡ Ok b)
before (Ok a) f b h = (a, refl, h)
before (Err e) f b h = cc

tested : {A : Type 0} (t : Bool) (a b : A) (e : Violation) → cond t (Ok a) (Err e) ≡ Ok b → t ≡ true
tested true a b e h = refl
tested false a b e h = cc

pub none_of : {A : Type 0} (a b : Option A) → or_else a b ≡ None → (a ≡ None) × (b ≡ None)
none_of (Some x) b h = cc
none_of None b h = (refl, h)

pub none_given : {A : Type 0} (o : Option ℕ) (f : ℕ → A) → given o f ≡ None → o ≡ None
none_given (Some k) f h = cc
none_given None f h = refl

-- ---- the ports of a superblock

pub all_pass : (f : ℕ → Bool) (n k : ℕ) → first_not f n ≡ None → k < n → f k ≡ true
all_pass f zero k h l = absurd (omega arith)
all_pass f (suc n) k h l =
    let both = none_of (first_not f n) (unless (f n) n) h in
    elim (cases_lt k n) [
      | inl q ↦ all_pass f n k both.0 q
      | inr q ↦ let e : k ≡ n = omega (arith, l, q) in rw e (last (f n) both.1)
    ]
  where
    last : (b : Bool) → unless b n ≡ None → b ≡ true
    last true p = refl
    last false p = cc

pub none_least : (ns : List ℕ) → least ns ≡ None → ns ≡ []
none_least [] h = refl
none_least (n ∷ ns) h = cc

pub none_above : (count n : ℕ) (ns : List ℕ) → filter (λ m. nat_lt count m) ns ≡ [] → count < n → times n ns ≡ 0
none_above count n [] h l = refl
none_above count n (m ∷ ms) h l = kept (nat_lt count m) refl (λ q. none_above count n ms q l) h
  where
    kept : (b : Bool) → nat_lt count m ≡ b → (filter (λ m. nat_lt count m) ms ≡ [] → times n ms ≡ 0) → cond b (m ∷ filter (λ m. nat_lt count m) ms) (filter (λ m. nat_lt count m) ms) ≡ [] → cond (nat_eq m n) 1 0 + times n ms ≡ 0
    kept true e rest q = cc
    kept false e rest q =
        let le = ltb-false count m e in
        let apart = ne_eqb m n (λ same. omega (arith, le, l, same)) in
        rw (apart, rest q) refl

class_kept : (at : List ℕ) (count : PortClass → ℕ) (os : Objects) (c : PortClass) (u : Unit {0}) → class_matched at count os c ≡ Ok u → first_broken (count c) (numbers c os) ≡ None
class_kept at count os c u h = unbroken (first_broken (count c) (numbers c os)) h
  where
    unbroken : (o : Option ℕ) → unless_broken at c o ≡ Ok u → o ≡ None
    unbroken None h = refl
    unbroken (Some n) h = cc

abbrev AllClasses : (PortClass → ℕ) → Objects → Type 0
AllClasses count os = (c : PortClass) → first_broken (count c) (numbers c os) ≡ None

classes_kept : (at : List ℕ) (count : PortClass → ℕ) (os : Objects) (u : Unit {0}) → ports_matched at count os ≡ Ok u → AllClasses count os
unfolding ports_matched
classes_kept at count os u h c =
    let a = before (class_matched at count os Input) _ u h in
    let b = before (class_matched at count os Output) _ u a.2 in
    let d = before (class_matched at count os ActivationInput) _ u b.2 in
    pick c a.1 b.1 d.1 d.2
  where
    pick : (c : PortClass) → class_matched at count os Input ≡ Ok tt → class_matched at count os Output ≡ Ok tt → class_matched at count os ActivationInput ≡ Ok tt → class_matched at count os ActivationOutput ≡ Ok u → first_broken (count c) (numbers c os) ≡ None
    pick Input i o k l = class_kept at count os Input tt i
    pick Output i o k l = class_kept at count os Output tt o
    pick ActivationInput i o k l = class_kept at count os ActivationInput tt k
    pick ActivationOutput i o k l = class_kept at count os ActivationOutput u l

pub ports_kept : (at : List ℕ) (count : PortClass → ℕ) (os : Objects) (u : Unit {0}) → ports_matched at count os ≡ Ok u → ArePortsMatched count os
ports_kept at count os u h = record {
  once = λ c n low high.
      let none = none_of (given (first_not (is_once (numbers c os)) (count c)) (λ k. k + 1)) (least (filter (λ n. nat_lt (count c) n) (numbers c os))) (classes_kept at count os u h c) in
      let passed = all_pass (is_once (numbers c os)) (count c) (n - 1) (none_given _ (λ k. k + 1) none.0) (omega arith) in
      let at_n : (n - 1) + 1 ≡ n = omega arith in
      rw at_n at (eqb-true (times ((n - 1) + 1) (numbers c os)) 1 passed);
  no_other = λ c n above.
      let none = none_of (given (first_not (is_once (numbers c os)) (count c)) (λ k. k + 1)) (least (filter (λ n. nat_lt (count c) n) (numbers c os))) (classes_kept at count os u h c) in
      none_above (count c) n (numbers c os) (none_least _ none.1) above;
}

-- ---- port blocks have numbers from 1 on

times-append : (n : ℕ) (xs ys : List ℕ) → times n (xs ++ ys) ≡ times n xs + times n ys
times-append n [] ys = omega arith
times-append n (x ∷ xs) ys = omega (arith, times-append n xs ys)

number_positive : (ps : List ℤ) → times 0 (number ps) ≡ 0
number_positive [] = refl
number_positive (negsuc n ∷ ps) = refl
number_positive (pos zero ∷ []) = refl
number_positive (pos (suc n) ∷ []) = either (nat_le 1 (suc n))
  where
    either : (b : Bool) → times 0 (cond b (suc n ∷ []) []) ≡ 0
    either true = rw (ne_eqb (suc n) 0 (λ e. omega arith)) refl
    either false = refl
number_positive (pos n ∷ m ∷ ps) = refl

named_positive : (b : Bool) (ps : List ℤ) → times 0 (cond b (number ps) []) ≡ 0
named_positive true ps = number_positive ps
named_positive false ps = refl

no_zero : (c : PortClass) (os : Objects) → times 0 (numbers c os) ≡ 0
no_zero c no_objects = refl
no_zero c (object o os) = rw (times-append 0 (object_number c o) (numbers c os), one o, no_zero c os) refl
  where
    one : (o : Object) → times 0 (object_number c o) ≡ 0
    one (block gui f) = named_positive (bytes_eq gui (name_of c)) f.ipar
    one (superblock gui f os) = refl
    one (link from to kind) = refl
    one text = refl
    one deleted = refl

-- no number occurs twice among the port blocks of a class
pub at_most_once : (count : PortClass → ℕ) (os : Objects) → ArePortsMatched count os → (c : PortClass) (n : ℕ) → times n (numbers c os) ≤ 1
at_most_once count os h c zero = omega (arith, no_zero c os)
at_most_once count os h c (suc n) = elim (cases_lt (count c) (suc n)) [
  | inl q ↦ omega (arith, h.no_other c (suc n) q)
  | inr q ↦ omega (arith, h.once c (suc n) (omega arith) q)
]

-- ---- objects

joint_kept : (here gui : List ℕ) (f : Fields) (p : PassThrough) (u : Unit {0}) → joint_checked here p f ≡ Ok u → IsBlockKept gui f (Some p)
joint_kept here gui f p u h = none_of (row_broken (row p) f) (parameters_broken p f.ipar) (fine (or_else (row_broken (row p) f) (parameters_broken p f.ipar)) h)
  where
    fine : (o : Option Broken) → outcome_at here o ≡ Ok u → o ≡ None
    fine None h = refl
    fine (Some b) h = cc

kind_kept : (here gui : List ℕ) (f : Fields) (s : Spec) (o : Option Kind) → by_name gui ≡ o → checked_kind here f o ≡ Ok s → IsBlockKept gui f None
kind_kept here gui f s None e h = cc
kind_kept here gui f s (Some k) e h = (k, e, fine (broken k f) h)
  where
    fine : (o : Option Broken) → judged here k f o ≡ Ok s → o ≡ None
    fine None h = refl
    fine (Some b) h = cc

block_kept : (here gui : List ℕ) (f : Fields) (o : Option PassThrough) (ps : List Placed) → block_parts here gui f o ≡ Ok ps → IsBlockKept gui f o
block_kept here gui f None ps h =
    let a = before (checked here gui f) (λ s. Ok (placed here s ∷ [])) ps h in
    kind_kept here gui f a.0 (by_name gui) refl a.1
block_kept here gui f (Some p) ps h =
    let a = before (joint_checked here p f) (λ _. Ok []) ps h in
    joint_kept here gui f p a.0 a.1

mutual
  unfolding parts_in object_parts

  objects_kept : (at : List ℕ) (k : ℕ) (os : Objects) (ps : List Placed) → parts_in at k os ≡ Ok ps → AreObjectsKept os
  objects_kept at k no_objects ps h = tt
  objects_kept at k (object o os) ps h =
      let a = before (object_parts (at ++ k ∷ []) o) (λ ps. parts_in at (k + 1) os >>= λ qs. Ok (ps ++ qs)) ps h in
      let b = before (parts_in at (k + 1) os) (λ qs. Ok (a.0 ++ qs)) ps a.2 in
      (object_kept (at ++ k ∷ []) o a.0 a.1, objects_kept at (k + 1) os b.0 b.1)

  object_kept : (here : List ℕ) (o : Object) (ps : List Placed) → object_parts here o ≡ Ok ps → IsObjectKept o
  object_kept here (block gui f) ps h = block_kept here gui f (pass_through gui) ps h
  object_kept here (superblock gui f os) ps h =
      let a = before (ports_matched here (ports f) os) (λ _. parts_in here 1 os) ps h in
      (ports_kept here (ports f) os a.0 a.1, objects_kept here 1 os ps a.2)
  object_kept here (link from to kind) ps h = tt
  object_kept here text ps h = tt
  object_kept here deleted ps h = tt

-- where the objects break no rule
pub blocks_kept : (os : Objects) (ps : List Placed) → parts_of os ≡ Ok ps → AreBlocksKept os
unfolding parts_of
blocks_kept os ps h =
    let a = before (ports_matched [] no_ports os) (λ _. parts_in [] 1 os) ps h in
    (ports_kept [] no_ports os a.0 a.1, objects_kept [] 1 os ps a.2)

-- ---- links

ends_at-append : (b p : ℤ) (xs ys : List End) → ends_at b p (xs ++ ys) ≡ ends_at b p xs + ends_at b p ys
ends_at-append b p [] ys = omega arith
ends_at-append b p (x ∷ xs) ys = omega (arith, ends_at-append b p xs ys)

none_fed : (to : End) (fed : List End) → list_any (is_at to.block to.port) fed ≡ false → ends_at to.block to.port fed ≡ 0
none_fed to [] h = refl
none_fed to (e ∷ es) h = one (int_eq to.block e.block && int_eq to.port e.port) (none_fed to es) h
  where
    one : (b : Bool) → (list_any (is_at to.block to.port) es ≡ false → ends_at to.block to.port es ≡ 0) → (b || list_any (is_at to.block to.port) es) ≡ false → cond b 1 0 + ends_at to.block to.port es ≡ 0
    one true rest q = cc
    one false rest q = rw (rest q) refl

-- one more end at a port where none is leaves each port with at most one
one_more : (b p : ℤ) (to : End) (fed : List End) → ends_at to.block to.port fed ≡ 0 → ends_at b p fed ≤ 1 → ends_at b p (fed ++ to ∷ []) ≤ 1
one_more b p to fed none h = rw (ends_at-append b p fed (to ∷ [])) (same (int_eq b to.block && int_eq p to.port) refl)
  where
    same : (t : Bool) → (int_eq b to.block && int_eq p to.port) ≡ t → ends_at b p fed + (cond t 1 0 + 0) ≤ 1
    same false e = omega arith
    same true e =
        let parts = and_parts (int_eq b to.block) (int_eq p to.port) e in
        let none_here : ends_at b p fed ≡ 0 = rw (int_same b to.block parts.0, int_same p to.port parts.1) none in
        omega arith

-- a link whose type and ends break no rule
typed_kept : (here : List ℕ) (all : Objects) (from to : End) (kind : ℤ) (found : LinkType) → ends_judged here all from to kind ≡ Ok found → (typed : link_type kind ≡ Some found) × IsLinkKept all from to kind
unfolding ends_judged
typed_kept here all from to kind found h = by_type (link_type kind) refl h
  where
    by_type : (o : Option LinkType) → link_type kind ≡ o → (typed_as here kind o >>= λ t. end_judged here all (source_class t) from (pos 1) >>= λ _. end_judged here all (target_class t) to (pos 2) >>= λ _. Ok t) ≡ Ok found
        → (typed : link_type kind ≡ Some found) × IsLinkKept all from to kind
    by_type None e q = cc
    by_type (Some t) e q =
        let a = before (end_judged here all (source_class t) from (pos 1)) _ found q in
        let b = before (end_judged here all (target_class t) to (pos 2)) _ found a.2 in
        let same : t ≡ found = cc in
        (e ∙ ap Some same, record { link = t; typed = e; source = tested _ tt a.0 _ a.1; target = tested _ tt b.0 _ b.1 })

-- the type that a link is found to have
pub link_typed : (here : List ℕ) (all : Objects) (from to : End) (kind : ℤ) (found : LinkType) → ends_judged here all from to kind ≡ Ok found → link_type kind ≡ Some found
link_typed here all from to kind found h = (typed_kept here all from to kind found h).0

-- a link that breaks no rule
link_kept : (here : List ℕ) (all : Objects) (fed : List End) (from to : End) (kind : ℤ) (u : Unit {0}) → link_judged here all fed from to kind ≡ Ok u
    → IsLinkKept all from to kind × ((b p : ℤ) → ends_at b p fed ≤ 1 → ends_at b p (fed ++ regular_end to (link_type kind)) ≤ 1)
link_kept here all fed from to kind u h =
    let a = before (ends_judged here all from to kind) (λ t. once_fed here fed t to) u h in
    let kept = typed_kept here all from to kind a.0 a.1 in
    (kept.1, λ b p l. rw kept.0 (more a.0 a.2 b p l))
  where
    more : (t : LinkType) → once_fed here fed t to ≡ Ok u → (b p : ℤ) → ends_at b p fed ≤ 1 → ends_at b p (fed ++ regular_end to (Some t)) ≤ 1
    more Activation q b p l = rw (ends_at-append b p fed []) (omega arith)
    more Regular q b p l = one_more b p to fed (none_fed to fed (fresh (list_any (is_at to.block to.port) fed) q)) l
      where
        fresh : (t : Bool) → cond t (Err (fed_twice here to)) (Ok tt) ≡ Ok u → t ≡ false
        fresh true q = cc
        fresh false q = refl

-- an object that is no link ends at no port
stays : (fed : List End) (b p : ℤ) → ends_at b p fed ≤ 1 → ends_at b p (fed ++ []) ≤ 1
stays fed b p l = rw (ends_at-append b p fed []) (omega arith)

mutual
  unfolding links_in object_links

  ends_kept : (at : List ℕ) (all : Objects) (fed : List End) (k : ℕ) (os : Objects) (u : Unit {0}) → links_in at all fed k os ≡ Ok u
      → AreEndsKept all os × ((b p : ℤ) → ends_at b p fed ≤ 1 → ends_at b p (fed ++ regular_ends os) ≤ 1)
  ends_kept at all fed k no_objects u h = (tt, stays fed)
  ends_kept at all fed k (object o os) u h =
      let a = before (object_links (at ++ k ∷ []) all fed o) (λ _. links_in at all (fed ++ fed_by o) (k + 1) os) u h in
      let one = object_ends_kept (at ++ k ∷ []) all fed o a.0 a.1 in
      let more = ends_kept at all (fed ++ fed_by o) (k + 1) os u a.2 in
      ((one.0, more.0), λ b p l. rw (← append_assoc fed (fed_by o) (regular_ends os)) (more.1 b p (one.1 b p l)))

  object_ends_kept : (here : List ℕ) (all : Objects) (fed : List End) (o : Object) (u : Unit {0}) → object_links here all fed o ≡ Ok u
      → AreObjectEndsKept all o × ((b p : ℤ) → ends_at b p fed ≤ 1 → ends_at b p (fed ++ fed_by o) ≤ 1)
  object_ends_kept here all fed (block gui f) u h = (tt, stays fed)
  object_ends_kept here all fed (superblock gui f os) u h =
      let inside = ends_kept here os [] 1 os u h in
      ((inside.0, λ b p. inside.1 b p (omega arith)), stays fed)
  object_ends_kept here all fed (link from to kind) u h = link_kept here all fed from to kind u h
  object_ends_kept here all fed text u h = (tt, stays fed)
  object_ends_kept here all fed deleted u h = (tt, stays fed)

-- where the links break no rule
pub links_kept : (os : Objects) (u : Unit {0}) → links_of os ≡ Ok u → AreLinksKept os
unfolding links_of
links_kept os u h =
    let kept = ends_kept [] os [] 1 os u h in
    (kept.0, λ b p. kept.1 b p (omega arith))
