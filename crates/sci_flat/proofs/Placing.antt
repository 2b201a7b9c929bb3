-- The seats of the blocks, in tree order.
use Rattle.std.proofs.Common.{◌≡◌, ◌<◌, ◌≤◌, ◌+◌, ℕ, zero, suc, ℤ, pos, negsuc, List, [], ◌∷◌, ◌++◌, length, Bool, true, false, cond, Option, Some, None, Ok, refl, sym, ap, ◌∙◌, subst, arith, append_assoc}
use Rattle.std.specs.Prelude.{nat_lt}
use Rattle.std.specs.List.{AllZip}
use Rattle.std.proofs.lemmas.List.{length_push}
use Rattle.std.proofs.lemmas.Bool.Decides.{nat_tests}
use Rattle.sci_base.specs.Plain.{Fields}
use Rattle.sci_diagram.specs.Objects.{Object, block, superblock, link, text, deleted, Objects, no_objects, object}
use Rattle.sci_forms.specs.declared.Kind.{Kind}
use Rattle.sci_forms.specs.declared.broken.Broken.{Broken}
use Rattle.sci_forms.specs.declared.spec.Spec.{Spec}
use Rattle.sci_names.specs.Names.{by_name}
use Rattle.sci_check.specs.Check.{declared_ports, declared_port, broken, spec_of, judged, checked_kind, checked}
use Rattle.sci_blocks.specs.declared.class.PortClass.{PortClass}
use Rattle.sci_blocks.specs.declared.class.PortClass.TheVariants.{Input, Output, ActivationInput, ActivationOutput}
use Rattle.sci_blocks.specs.declared.pass_through.PassThrough.{PassThrough}
use Rattle.sci_blocks.specs.Rows.{pass_through, joint_checked}
use Rattle.sci_blocks.specs.Ports.{ports, ports_matched}
use Rattle.sci_blocks.specs.Blocks.{Placed, placed, block_parts, parts_in, object_parts}
use Rattle.sci_flat.specs.declared.steps.port_numbers.PortNumbers.{PortNumbers}
use Rattle.sci_flat.specs.PortNumbers.{seat_at, past, start, count, port_number}
use Rattle.sci_flat.specs.Ports.{Port}
use Rattle.sci_flat.specs.Numbers.{object_seat, seats, own_past, inside_past, unless_passed, blocks_by, object_blocks_by}
use Rattle.sci_flat.specs.Numbered.{spec_ports, IsSeat}
use Rattle.sci_flat.proofs.Listing.{seat_names, object_names, own_names, inside_names, inside_object, tree_names, past_object, past_own, past_inside, At, at_left, at_right, Seated, seated}
use Rattle.sci_flat.proofs.Valid.{then_ok}
use Rattle.sci_flat.proofs.Naming.{seat_counts, at_whole}
use Rattle.sci_flat.proofs.Finding.{number_of, number_within, number_skips, number_stays, number_own, number_inside, tree_found}

-- ---- a spec has as many ports as the block's fields say

length_ports : (rows cols types : List ℤ) (n : ℕ) → length (declared_ports rows cols types n) ≡ n
length_ports rows cols types zero = refl
length_ports rows cols types (suc n) = let before = length_ports rows cols types n in omega (arith, before, length_push (declared_ports rows cols types n) (declared_port rows cols types n))

spec_counts : (k : Kind) (f : Fields) (c : PortClass) → ports f c ≡ spec_ports (spec_of k f) c
spec_counts k f Input = sym (length_ports f.ins f.in2 f.intyp (length f.ins))
spec_counts k f Output = sym (length_ports f.outs f.out2 f.outtyp (length f.outs))
spec_counts k f ActivationInput = refl
spec_counts k f ActivationOutput = refl

checked_counts : (place gui : List ℕ) (f : Fields) (s : Spec) → checked place gui f ≡ Ok s → (c : PortClass) → ports f c ≡ spec_ports s c
checked_counts place gui f s h c = of_kind (by_name gui) h
  where
    of_broken : (k : Kind) (o : Option Broken) → judged place k f o ≡ Ok s → ports f c ≡ spec_ports s c
    of_broken k None e = let is : spec_of k f ≡ s = cc in let P : Spec → Type 0 = λ x. ports f c ≡ spec_ports x c in subst P is (spec_counts k f c)
    of_broken k (Some b) e = cc

    of_kind : (o : Option Kind) → checked_kind place f o ≡ Ok s → ports f c ≡ spec_ports s c
    of_kind None e = cc
    of_kind (Some k) e = of_broken k (broken k f) e

-- ---- a block with its seat

-- within an object at a place
record BlockIn (names : List Port) (here : List ℕ) (m n : ℕ) (o : Object) (p : Placed) (s : PortNumbers) : Type 0 where
  rest : List ℕ
  place : p.place ≡ here ++ rest
  numbers : (c : PortClass) (z : ℤ) → number_within (object_seat m o) n rest c z o ≡ port_number s c z
  seated : Seated names p.place s
  counts : (c : PortClass) → count s c ≡ spec_ports p.spec c

-- among the objects of a diagram
pub record BlockOf (names : List Port) (at : List ℕ) (k m n : ℕ) (os : Objects) (p : Placed) (s : PortNumbers) : Type 0 where
  pub j : ℕ
  pub rest : List ℕ
  pub later : k ≤ j
  pub place : p.place ≡ at ++ j ∷ rest
  pub numbers : (c : PortClass) (z : ℤ) → number_of m n k (j ∷ rest) c z os ≡ port_number s c z
  pub seated : Seated names p.place s
  pub counts : (c : PortClass) → count s c ≡ spec_ports p.spec c

pub zip_append : {A B : Type 0} (R : A → B → Type 0) (xs ys : List A) (us vs : List B) → AllZip R xs us → AllZip R ys vs → AllZip R (xs ++ ys) (us ++ vs)
zip_append R [] ys [] vs a b = b
zip_append R [] ys (u ∷ us) vs a b = absurd a
zip_append R (x ∷ xs) ys [] vs a b = absurd a
zip_append R (x ∷ xs) ys (u ∷ us) vs a b = (a.0, zip_append R xs ys us vs a.1 b)

zip_more : {A B : Type 0} (R S : A → B → Type 0) → ((a : A) (b : B) → R a b → S a b) → (xs : List A) (us : List B) → AllZip R xs us → AllZip S xs us
zip_more R S f [] [] a = a
zip_more R S f [] (u ∷ us) a = absurd a
zip_more R S f (x ∷ xs) [] a = absurd a
zip_more R S f (x ∷ xs) (u ∷ us) a = (f x u a.0, zip_more R S f xs us a.1)

module _ (names : List Port) (here : List ℕ) (m n : ℕ) (gui : List ℕ) (f : Fields) (own : At names m (seat_names here f)) where
  block_zip : (o : Option PassThrough) (ps : List Placed) → block_parts here gui f o ≡ Ok ps → AllZip (BlockIn names here m n (block gui f)) ps (unless_passed (seat_at m f) o)
  block_zip None ps h =
      let a = then_ok (checked here gui f) (λ s. Ok (placed here s ∷ [])) ps h in
      let is : placed here a.0 ∷ [] ≡ ps = cc in
      let one : BlockIn names here m n (block gui f) (placed here a.0) (seat_at m f) = record {
        rest = [];
        place = nil_right here;
        numbers = λ c z. number_own (seat_at m f) n c z (block gui f);
        seated = seated names here m f own;
        counts = λ c. seat_counts m (block gui f) c ∙ checked_counts here gui f a.0 a.1 c;
      } in
      let P : List Placed → Type 0 = λ x. AllZip (BlockIn names here m n (block gui f)) x (seat_at m f ∷ []) in
      subst P is (one, tt)
    where
      nil_right : (xs : List ℕ) → xs ≡ xs ++ []
      nil_right [] = refl
      nil_right (x ∷ xs) = ap (λ (l : List ℕ). x ∷ l) (nil_right xs)
  block_zip (Some p) ps h =
      let a = then_ok (joint_checked here p f) (λ _. Ok []) ps h in
      let is : [] ≡ ps = cc in
      let P : List Placed → Type 0 = λ x. AllZip (BlockIn names here m n (block gui f)) x [] in
      subst P is tt

mutual
  unfolding parts_in object_parts blocks_by object_blocks_by

  diagram_zip : (names : List Port) (at : List ℕ) (k m n : ℕ) (os : Objects) (ps : List Placed) → parts_in at k os ≡ Ok ps → At names m (own_names at k os) → At names n (inside_names at k os)
      → AllZip (BlockOf names at k m n os) ps (blocks_by (seats m os) n os)
  diagram_zip names at k m n no_objects ps h own inside =
      let is : [] ≡ ps = cc in
      let P : List Placed → Type 0 = λ x. AllZip (BlockOf names at k m n no_objects) x [] in
      subst P is tt
  diagram_zip names at k m n (object o os) ps h own inside =
      let here = at ++ k ∷ [] in
      let a = then_ok (object_parts here o) _ ps h in
      let b = then_ok (parts_in at (k + 1) os) (λ qs. Ok (a.0 ++ qs)) ps a.2 in
      let is : a.0 ++ b.0 ≡ ps = cc in
      let one = object_zip names here m n o a.0 a.1 (at_left names m (object_names here o) (own_names at (k + 1) os) own) (at_left names n (inside_object here o) (inside_names at (k + 1) os) inside) in
      let more = diagram_zip names at (k + 1) (past (object_seat m o)) (inside_past n o) os b.0 b.1
      (at_right names m (past (object_seat m o)) (object_names here o) (own_names at (k + 1) os) (past_object here m o) own)
      (at_right names n (inside_past n o) (inside_object here o) (inside_names at (k + 1) os) (past_inside here n o) inside) in
      let P : List Placed → Type 0 = λ x. AllZip (BlockOf names at k m n (object o os)) x (object_blocks_by (object_seat m o) n o ++ blocks_by (seats (past (object_seat m o)) os) (inside_past n o) os) in
      subst P is (zip_append (BlockOf names at k m n (object o os)) a.0 b.0 _ _ (first a.0 _ one) (others b.0 _ more))
    where
      first : (xs : List Placed) (us : List PortNumbers) → AllZip (BlockIn names (at ++ k ∷ []) m n o) xs us → AllZip (BlockOf names at k m n (object o os)) xs us
      first xs us a = zip_more (BlockIn names (at ++ k ∷ []) m n o) (BlockOf names at k m n (object o os)) (λ p s r. record {
        j = k;
        rest = r.rest;
        later = omega arith;
        place = r.place ∙ append_assoc at (k ∷ []) r.rest;
        numbers = λ c z. number_stays m n k r.rest c z o os ∙ r.numbers c z;
        seated = r.seated;
        counts = r.counts;
      }) xs us a

      others : (xs : List Placed) (us : List PortNumbers) → AllZip (BlockOf names at (k + 1) (past (object_seat m o)) (inside_past n o) os) xs us → AllZip (BlockOf names at k m n (object o os)) xs us
      others xs us a = zip_more (BlockOf names at (k + 1) (past (object_seat m o)) (inside_past n o) os) (BlockOf names at k m n (object o os)) (λ p s r. record {
        j = r.j;
        rest = r.rest;
        later = omega (arith, r.later);
        place = r.place;
        numbers = λ c z. number_skips m n k r.j r.rest c z o os r.later ∙ r.numbers c z;
        seated = r.seated;
        counts = r.counts;
      }) xs us a

  object_zip : (names : List Port) (here : List ℕ) (m n : ℕ) (o : Object) (ps : List Placed) → object_parts here o ≡ Ok ps → At names m (object_names here o) → At names n (inside_object here o)
      → AllZip (BlockIn names here m n o) ps (object_blocks_by (object_seat m o) n o)
  object_zip names here m n (block gui f) ps h own inside = block_zip names here m n gui f own (pass_through gui) ps h
  object_zip names here m n (superblock gui f os) ps h own inside =
      let a = then_ok (ports_matched here (ports f) os) _ ps h in
      within ps _ (diagram_zip names here 1 n (own_past n os) os ps a.2 (at_left names n (own_names here 1 os) (inside_names here 1 os) inside) (at_right names n (own_past n os) (own_names here 1 os) (inside_names here 1 os) (past_own here 1 n os) inside))
    where
      within : (xs : List Placed) (us : List PortNumbers) → AllZip (BlockOf names here 1 n (own_past n os) os) xs us → AllZip (BlockIn names here m n (superblock gui f os)) xs us
      within xs us a = zip_more (BlockOf names here 1 n (own_past n os) os) (BlockIn names here m n (superblock gui f os)) (λ p s r. record {
        rest = r.j ∷ r.rest;
        place = r.place;
        numbers = λ c z. number_inside (seat_at m f) n r.j r.rest c z gui f os ∙ r.numbers c z;
        seated = r.seated;
        counts = r.counts;
      }) xs us a
  object_zip names here m n (link from to kind) ps h own inside =
      let is : [] ≡ ps = cc in
      let P : List Placed → Type 0 = λ x. AllZip (BlockIn names here m n (link from to kind)) x [] in
      subst P is tt
  object_zip names here m n text ps h own inside =
      let is : [] ≡ ps = cc in
      let P : List Placed → Type 0 = λ x. AllZip (BlockIn names here m n text) x [] in
      subst P is tt
  object_zip names here m n deleted ps h own inside =
      let is : [] ≡ ps = cc in
      let P : List Placed → Type 0 = λ x. AllZip (BlockIn names here m n deleted) x [] in
      subst P is tt

-- ---- the seat's ports are the block's, and no others are

numbered_back : (s : PortNumbers) (c : PortClass) (z : ℤ) (n : ℕ) → port_number s c z ≡ Some n → (k : ℕ) × (k < count s c) × (z ≡ pos (k + 1)) × (n ≡ start s c + k)
numbered_back s c (pos zero) n h = cc
numbered_back s c (negsuc k) n h = cc
numbered_back s c (pos (suc k)) n h = back (nat_lt k (count s c)) refl h
  where
    below : (a b : ℕ) → nat_lt a b ≡ true → a < b
    below a b h = grind (arith, nat_tests)

    back : (b : Bool) → nat_lt k (count s c) ≡ b → cond b (Some (start s c + k)) None ≡ Some n → (j : ℕ) × (j < count s c) × (pos (suc k) ≡ pos (j + 1)) × (n ≡ start s c + j)
    back true e f = let is : start s c + k ≡ n = cc in let one_more : suc k ≡ k + 1 = omega arith in (k, below k (count s c) e, ap pos one_more, sym is)
    back false e f = cc

is_seat : (t : Objects) (p : Placed) (s : PortNumbers) → BlockOf (tree_names t) [] 1 0 (own_past 0 t) t p s → IsSeat (tree_names t) p s
is_seat t p s b = record {
  counts = b.counts;
  inside = b.seated.inside;
  named = b.seated.named;
  only = λ c z n h e.
      let r = tree_found t n h in
      let place : r.j ∷ r.rest ≡ b.j ∷ b.rest = sym r.place ∙ (ap (λ (x : Port). x.place) e ∙ b.place) in
      let same : number_of 0 (own_past 0 t) 1 (b.j ∷ b.rest) c z t ≡ Some n =
      ap (λ (x : List ℕ). number_of 0 (own_past 0 t) 1 x c z t) (sym place) ∙ (ap (λ (x : Port). number_of 0 (own_past 0 t) 1 (r.j ∷ r.rest) x.class x.number t) (sym e) ∙ r.found) in
      numbered_back s c z n (sym (b.numbers c z) ∙ same);
}

pub tree_seats : (t : Objects) (ps : List Placed) → parts_in [] 1 t ≡ Ok ps → AllZip (IsSeat (tree_names t)) ps (blocks_by (seats 0 t) (own_past 0 t) t)
tree_seats t ps h =
    let names = tree_names t in
    let own = at_left names 0 (own_names [] 1 t) (inside_names [] 1 t) (at_whole names) in
    let inside = at_right names 0 (own_past 0 t) (own_names [] 1 t) (inside_names [] 1 t) (past_own [] 1 0 t) (at_whole names) in
    zip_more (BlockOf names [] 1 0 (own_past 0 t) t) (IsSeat names) (λ p s r. is_seat t p s r) ps (blocks_by (seats 0 t) (own_past 0 t) t) (diagram_zip names [] 1 0 (own_past 0 t) t ps h own inside)
