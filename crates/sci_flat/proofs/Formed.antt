-- The specs of a diagram's blocks are formed, and say what is declared; there are few of them.
use Rattle.std.proofs.Common.{◌≡◌, ◌<◌, ◌≤◌, ◌+◌, ℕ, zero, suc, ℤ, pos, negsuc, List, [], ◌∷◌, ◌++◌, inl, inr, length, get_or, Bool, true, false, cond, not, ◌&&◌, ◌||◌, Option, Some, None, Ok, Err, codes, refl, ap, subst, arith, true≢false}
use Rattle.std.specs.Prelude.{All, int_lt, ◌^◌, nat_eq}
use Rattle.std.specs.List.{list_all}
use Rattle.std.specs.Str.{bytes_eq}
use Rattle.std.proofs.lemmas.Bool.{cases_lt}
use Rattle.std.proofs.lemmas.List.{length-append}
use Rattle.std.proofs.lemmas.List.Elements.{All-nil, All-push}
use Rattle.sci_base.specs.Lists.{at}
use Rattle.sci_base.specs.Plain.{Violation, Fields}
use Rattle.sci_diagram.specs.declared.sorts.ObjectRole.TheVariants.{Kind as IsKind, Port as IsPort, Joint, Tag}
use Rattle.sci_diagram.specs.Objects.{Object, block, superblock, link, text, deleted, Objects, no_objects, object}
use Rattle.sci_diagram.specs.Tree.{is_small, is_tag, role_of}
use Rattle.sci_diagram.specs.Count.{one_of_kind, blocks_in, blocks_of}
use Rattle.sci_forms.specs.declared.Kind.{Kind}
use Rattle.sci_forms.specs.declared.broken.Broken.{Broken}
use Rattle.sci_forms.specs.declared.spec.Spec.{Spec}
use Rattle.sci_forms.specs.Forms.{or_else, given, first_not, unless}
use Rattle.sci_names.specs.Names.{by_name}
use Rattle.sci_forms.specs.Typed.{formed_of}
use Rattle.sci_check.specs.Laws.{CheckedLaw}
use Rattle.sci_check.specs.Check.{is_integer, integer_at, not_integer, side_broken, forms_broken, types_broken, active_broken, values_broken, broken, columns_at, declared_port, declared_ports, spec_of, judged, checked_kind, checked}
use Rattle.sci_net.specs.Flat.{is_declared, AreDeclared}
use Rattle.sci_blocks.specs.declared.class.PortClass.TheVariants.{Input, Output, ActivationInput, ActivationOutput}
use Rattle.sci_blocks.specs.declared.class.LinkType.TheVariants.{Regular, Activation}
use Rattle.sci_blocks.specs.declared.pass_through.PassThrough.{PassThrough}
use Rattle.sci_blocks.specs.declared.pass_through.PassThrough.TheVariants.{Split, ActivationSplit, Union, PortBlock, Giver, Taker}
use Rattle.sci_blocks.specs.Rows.{pass_through, joint_checked}
use Rattle.sci_blocks.specs.Ports.{ports, ports_matched}
use Rattle.sci_blocks.specs.Blocks.{Placed, placed, block_parts, parts_in, object_parts}
use Rattle.sci_flat.proofs.Valid.{then_ok}
use Rattle.sci_flat.specs.Ready.{AreFieldsSmall, AreSmall, IsObjectSmall}

none_both : {A : Type 0} (a b : Option A) → or_else a b ≡ None → (a ≡ None) × (b ≡ None)
none_both (Some x) b h = cc
none_both None b h = (refl, h)

none_given : {A : Type 0} (o : Option ℕ) (f : ℕ → A) → given o f ≡ None → o ≡ None
none_given (Some k) f h = cc
none_given None f h = refl

-- ---- what is declared of a port

small_at : (xs : List ℤ) (k : ℕ) → list_all is_small xs ≡ true → is_small (at xs k) ≡ true
small_at [] k h = refl
small_at (x ∷ xs) zero h = left (is_small x) _ h
  where
    left : (a b : Bool) → (a && b) ≡ true → a ≡ true
    left true b e = refl
    left false b e = cc
small_at (x ∷ xs) (suc k) h = small_at xs k (right (is_small x) (list_all is_small xs) h)
  where
    right : (a b : Bool) → (a && b) ≡ true → b ≡ true
    right true b e = e
    right false b e = cc

below : (x : ℤ) → is_small x ≡ true → int_lt x (pos (2 ^ 31)) ≡ true
below x h = right (not (int_lt x (negsuc 2147483647))) (int_lt x (pos 2147483648)) h
  where
    right : (a b : Bool) → (a && b) ≡ true → b ≡ true
    right true b e = e
    right false b e = cc

columns_below : (xs : List ℤ) (k : ℕ) → list_all is_small xs ≡ true → int_lt (columns_at xs k) (pos (2 ^ 31)) ≡ true
columns_below xs k h = pick (nat_eq (length xs) 0)
  where
    pick : (b : Bool) → int_lt (cond b (pos 1) (at xs k)) (pos (2 ^ 31)) ≡ true
    pick true = refl
    pick false = below (at xs k) (small_at xs k h)

integer : (ts : List ℤ) (n k : ℕ) → first_not (integer_at ts) n ≡ None → k < n → is_integer (at ts k) ≡ true
integer ts zero k h l = absurd (omega arith)
integer ts (suc n) k h l =
    let both = none_both (first_not (integer_at ts) n) (unless (integer_at ts n) n) h in
    elim (cases_lt k n) [
      | inl q ↦ integer ts n k both.0 q
      | inr q ↦ let e : k ≡ n = omega arith in rw e (last (integer_at ts n) both.1)
    ]
  where
    last : (b : Bool) → unless b n ≡ None → b ≡ true
    last true e = refl
    last false e = cc

all_three : (a b c : Bool) → a ≡ true → b ≡ true → c ≡ true → (a && b && c) ≡ true
all_three a b c e f g = rw (e, f, g) refl

declared_all : (rows cols types : List ℤ) (n : ℕ) → list_all is_small rows ≡ true → list_all is_small cols ≡ true → ((k : ℕ) → k < n → is_integer (at types k) ≡ true) → All (λ p. is_declared p ≡ true) (declared_ports rows cols types n)
declared_all rows cols types zero r c t = All-nil (λ p. is_declared p ≡ true)
declared_all rows cols types (suc n) r c t =
    All-push (λ p. is_declared p ≡ true) (declared_ports rows cols types n) (declared_port rows cols types n) (declared_all rows cols types n r c (λ k h. t k (omega arith)))
    (all_three (is_integer (at types n)) (int_lt (at rows n) (pos (2 ^ 31))) (int_lt (columns_at cols n) (pos (2 ^ 31))) (t n (omega arith)) (below (at rows n) (small_at rows n r)) (columns_below cols n c))

-- ---- one spec

-- formed as its kind asks, and declared
pub record IsGood (s : Spec) : Type 0 where
  pub formed : formed_of s.kind s ≡ true
  pub declared : AreDeclared s

spec_declared : (k : Kind) (f : Fields) → broken k f ≡ None → AreFieldsSmall f → AreDeclared (spec_of k f)
spec_declared k f h s =
    let a = none_both (forms_broken k f) (or_else (types_broken f) (or_else (active_broken f) (values_broken k f))) h in
    let b = none_both (types_broken f) (or_else (active_broken f) (values_broken k f)) a.1 in
    let c = none_both (side_broken (pos 1) f.intyp (length f.ins)) (side_broken (pos 2) f.outtyp (length f.outs)) b.0 in
    let i = none_given (first_not (integer_at f.intyp) (length f.ins)) (not_integer (pos 1) f.intyp) c.0 in
    let o = none_given (first_not (integer_at f.outtyp) (length f.outs)) (not_integer (pos 2) f.outtyp) c.1 in (
      declared_all f.ins f.in2 f.intyp (length f.ins) s.ins s.in2 (λ j l. integer f.intyp (length f.ins) j i l),
      declared_all f.outs f.out2 f.outtyp (length f.outs) s.outs s.out2 (λ j l. integer f.outtyp (length f.outs) j o l),
    )

refused : {A : Type 0} (v : Violation) (a : A) → Err v ≡ Ok a → ⊥
refused v a e = cc

of_broken : (place : List ℕ) (f : Fields) (s : Spec) (k : Kind) (o : Option Broken) → AreFieldsSmall f → broken k f ≡ o → judged place k f o ≡ Ok s → AreDeclared s
of_broken place f s k None small e j = let is : spec_of k f ≡ s = cc in subst AreDeclared is (spec_declared k f e small)
of_broken place f s k (Some b) small e j = absurd (refused _ s j)

of_kind : (place : List ℕ) (f : Fields) (s : Spec) (o : Option Kind) → AreFieldsSmall f → checked_kind place f o ≡ Ok s → AreDeclared s
of_kind place f s None small j = absurd (refused _ s j)
of_kind place f s (Some k) small j = of_broken place f s k (broken k f) small refl j

-- ---- all

abbrev pub AllGood : List Placed → Type 0
AllGood [] = Unit {0}
AllGood (p ∷ ps) = IsGood p.spec × AllGood ps

good_append : (ps qs : List Placed) → AllGood ps → AllGood qs → AllGood (ps ++ qs)
good_append [] qs a b = b
good_append (p ∷ ps) qs a b = (a.0, good_append ps qs a.1 b)

pub good_at : (ps : List Placed) (i : ℕ) (d : Placed) → i < length ps → AllGood ps → IsGood (get_or ps i d).spec
good_at [] i d h a = absurd (omega arith)
good_at (p ∷ ps) zero d h a = a.0
good_at (p ∷ ps) (suc i) d h a = good_at ps i d (omega arith) a.1

block_good : CheckedLaw → (here gui : List ℕ) (f : Fields) (o : Option PassThrough) (ps : List Placed) → block_parts here gui f o ≡ Ok ps → AreFieldsSmall f → AllGood ps
block_good law here gui f None ps h small =
    let a = then_ok (checked here gui f) (λ s. Ok (placed here s ∷ [])) ps h in
    let is : placed here a.0 ∷ [] ≡ ps = cc in
    let one : IsGood a.0 = record { formed = law here gui f a.0 a.1; declared = of_kind here f a.0 (by_name gui) small a.1 } in
    subst AllGood is (one, tt)
block_good law here gui f (Some p) ps h small =
    let a = then_ok (joint_checked here p f) (λ _. Ok []) ps h in
    let is : [] ≡ ps = cc in
    subst AllGood is tt

mutual
  unfolding parts_in object_parts

  pub all_good : CheckedLaw → (at : List ℕ) (k : ℕ) (os : Objects) (ps : List Placed) → parts_in at k os ≡ Ok ps → AreSmall os → AllGood ps
  all_good law at k no_objects ps h small = let is : [] ≡ ps = cc in subst AllGood is tt
  all_good law at k (object o os) ps h small =
      let a = then_ok (object_parts (at ++ k ∷ []) o) _ ps h in
      let b = then_ok (parts_in at (k + 1) os) (λ qs. Ok (a.0 ++ qs)) ps a.2 in
      let is : a.0 ++ b.0 ≡ ps = cc in
      subst AllGood is (good_append a.0 b.0 (object_good law (at ++ k ∷ []) o a.0 a.1 small.0) (all_good law at (k + 1) os b.0 b.1 small.1))

  object_good : CheckedLaw → (here : List ℕ) (o : Object) (ps : List Placed) → object_parts here o ≡ Ok ps → IsObjectSmall o → AllGood ps
  object_good law here (block gui f) ps h small = block_good law here gui f (pass_through gui) ps h small
  object_good law here (superblock gui f os) ps h small = let a = then_ok (ports_matched here (ports f) os) _ ps h in all_good law here 1 os ps a.2 small.1
  object_good law here (link from to kind) ps h small = let is : [] ≡ ps = cc in subst AllGood is tt
  object_good law here text ps h small = let is : [] ≡ ps = cc in subst AllGood is tt
  object_good law here deleted ps h small = let is : [] ≡ ps = cc in subst AllGood is tt

-- ---- how many blocks there are

some : (p : PassThrough) → Some p ≡ None → ⊥
some p e = cc

role_none : (a b c d e f g h t : Bool) (o : Option PassThrough)
    → cond a (Some Split) (cond b (Some ActivationSplit) (cond (c || d) (Some Union) (cond e (Some (PortBlock Input)) (cond f (Some (PortBlock Output)) (cond g (Some (PortBlock ActivationInput)) (cond h (Some (PortBlock ActivationOutput)) o)))))) ≡ None
    → (o ≡ None → t ≡ false) → 1 ≤ one_of_kind (cond (e || f || g || h) IsPort (cond (a || b || c || d) Joint (cond t Tag IsKind)))
role_none true b c d e f g h t o n k = absurd (some Split n)
role_none false true c d e f g h t o n k = absurd (some ActivationSplit n)
role_none false false true d e f g h t o n k = absurd (some Union n)
role_none false false false true e f g h t o n k = absurd (some Union n)
role_none false false false false true f g h t o n k = absurd (some (PortBlock Input) n)
role_none false false false false false true g h t o n k = absurd (some (PortBlock Output) n)
role_none false false false false false false true h t o n k = absurd (some (PortBlock ActivationInput) n)
role_none false false false false false false false true t o n k = absurd (some (PortBlock ActivationOutput) n)
role_none false false false false false false false false true o n k = absurd (true≢false (k n))
role_none false false false false false false false false false o n k = omega arith

no_tag : (a b c d : Bool) → cond a (Some (Giver Regular)) (cond b (Some (Taker Regular)) (cond c (Some (Giver Activation)) (cond d (Some (Taker Activation)) None))) ≡ None → (a || b || c || d) ≡ false
no_tag true b c d n = absurd (some (Giver Regular) n)
no_tag false true c d n = absurd (some (Taker Regular) n)
no_tag false false true d n = absurd (some (Giver Activation) n)
no_tag false false false true n = absurd (some (Taker Activation) n)
no_tag false false false false n = refl

one_block : (gui : List ℕ) → pass_through gui ≡ None → 1 ≤ one_of_kind (role_of gui)
one_block gui h =
    role_none (bytes_eq gui (codes "SPLIT_f")) (bytes_eq gui (codes "CLKSPLIT_f")) (bytes_eq gui (codes "CLKSOM_f")) (bytes_eq gui (codes "CLKSOMV_f"))
    (bytes_eq gui (codes "IN_f")) (bytes_eq gui (codes "OUT_f")) (bytes_eq gui (codes "CLKINV_f")) (bytes_eq gui (codes "CLKOUTV_f")) (is_tag gui) _ h
    (no_tag (bytes_eq gui (codes "GOTO")) (bytes_eq gui (codes "FROM")) (bytes_eq gui (codes "CLKGOTO")) (bytes_eq gui (codes "CLKFROM")))

block_few : (here gui : List ℕ) (f : Fields) (o : Option PassThrough) (ps : List Placed) → pass_through gui ≡ o → block_parts here gui f o ≡ Ok ps → length ps ≤ one_of_kind (role_of gui)
block_few here gui f None ps e h =
    let a = then_ok (checked here gui f) (λ s. Ok (placed here s ∷ [])) ps h in
    let is : placed here a.0 ∷ [] ≡ ps = cc in
    let one = one_block gui e in
    let long = ap length is in
    omega (arith, one, long)
block_few here gui f (Some p) ps e h =
    let a = then_ok (joint_checked here p f) (λ _. Ok []) ps h in
    let is : [] ≡ ps = cc in
    let long = ap length is in
    omega (arith, long)

mutual
  unfolding parts_in object_parts

  pub parts_few : (at : List ℕ) (k : ℕ) (os : Objects) (ps : List Placed) → parts_in at k os ≡ Ok ps → length ps ≤ blocks_in os
  parts_few at k no_objects ps h = let is : [] ≡ ps = cc in let long = ap length is in omega (arith, long)
  parts_few at k (object o os) ps h =
      let a = then_ok (object_parts (at ++ k ∷ []) o) _ ps h in
      let b = then_ok (parts_in at (k + 1) os) (λ qs. Ok (a.0 ++ qs)) ps a.2 in
      let is : a.0 ++ b.0 ≡ ps = cc in
      let long = ap length is in
      let both = length-append a.0 b.0 in
      let one = object_few (at ++ k ∷ []) o a.0 a.1 in
      let more = parts_few at (k + 1) os b.0 b.1 in
      omega (arith, long, both, one, more)

  object_few : (here : List ℕ) (o : Object) (ps : List Placed) → object_parts here o ≡ Ok ps → length ps ≤ blocks_of o
  object_few here (block gui f) ps h = block_few here gui f (pass_through gui) ps refl h
  object_few here (superblock gui f os) ps h = let a = then_ok (ports_matched here (ports f) os) _ ps h in parts_few here 1 os ps a.2
  object_few here (link from to kind) ps h = let is : [] ≡ ps = cc in let long = ap length is in omega (arith, long)
  object_few here text ps h = let is : [] ≡ ps = cc in let long = ap length is in omega (arith, long)
  object_few here deleted ps h = let is : [] ≡ ps = cc in let long = ap length is in omega (arith, long)
