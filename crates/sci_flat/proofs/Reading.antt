-- A diagram that is read has all that flattening asks of it.
use Rattle.std.proofs.Common.{◌≡◌, ◌<◌, ◌≤◌, ◌+◌, ◌^◌, ℕ, zero, suc, ℤ, pos, List, [], ◌∷◌, ◌++◌, length, Bool, true, false, cond, Option, Some, None, Result, Ok, Err, codes, refl, ap, subst, arith}
use Rattle.std.specs.Prelude.{nat_le}
use Rattle.std.specs.List.{list_all}
use Rattle.std.specs.Str.{is_utf8}
use Rattle.std.proofs.lemmas.Bool.Decides.{nat_tests}
use Rattle.serde_json.specs.Data.{Data, Items, no_items, item}
use Rattle.serde_json.specs.Find.{get, as_str}
use Rattle.serde_json.specs.Read.{read}
use Rattle.sci_base.specs.Plain.{Violation, Fields}
use Rattle.sci_base.specs.Outcome.{◌>>=◌}
use Rattle.sci_json.specs.Field.{field, as_ints, as_dep}
use Rattle.sci_diagram.specs.declared.sorts.ObjectRole.{ObjectRole}
use Rattle.sci_diagram.specs.declared.sorts.ObjectRole.TheVariants.{Super}
use Rattle.sci_diagram.specs.declared.sorts.Sort.{Sort}
use Rattle.sci_diagram.specs.Objects.{Object, Objects, block, superblock, link, text, deleted, no_objects, object as one_object, listed}
use Rattle.sci_diagram.specs.Tree.{Inner, wrong, count_of, list_where, keeps_state, keeps_ipar, inner_there, dep_at, required, optional, whole_object, sim_name, is_super, is_small, if_small, small_list, role_of, read_fields, inside, block_of, read_block, read_sort, object_of, read_object, read_link, link_end, second, walk, list_of, diagram_at, tree}
use Rattle.sci_diagram.specs.Count.{blocks_in, links_in, objects_in, objects_within, counted}
use Rattle.sci_diagram.specs.Reading.{judge, judge_value, value_of, Accepts}
use Rattle.sci_diagram.specs.Weight.{weight}
use Rattle.sci_diagram.proofs.Few.{few_objects}
use Rattle.sci_diagram.proofs.Bytes.{read_weighs}
use Rattle.sci_blocks.specs.Sizes.{AreInsidesShort, IsInsideShort}
use Rattle.sci_flat.proofs.Valid.{then_ok}
use Rattle.sci_flat.proofs.PortCount.{ports_few}
use Rattle.sci_flat.specs.Ready.{AreFieldsSmall, AreSmall, IsObjectSmall, IsReady}

refused : {A : Type 0} (v : Violation) (a : A) → Err v ≡ Ok a → ⊥
refused v a e = cc

-- ---- numbers in range

kept : (ys xs : List ℤ) (b : Bool) (v : Violation) → list_all is_small ys ≡ b → cond b (Ok ys) (Err v) ≡ Ok xs → list_all is_small xs ≡ true
kept ys xs true v e f = let is : ys ≡ xs = cc in subst (λ (l : List ℤ). list_all is_small l ≡ true) is e
kept ys xs false v e f = absurd (refused v xs f)

small_list_small : (at : List ℕ) (code : ℤ) (name : List ℕ) (d : Data) (xs : List ℤ) → small_list at code name d ≡ Ok xs → list_all is_small xs ≡ true
small_list_small at code name d xs h =
    let a = then_ok (optional at code (field as_ints name d)) (if_small at code) xs h in
    kept a.0 xs (list_all is_small a.0) (wrong at code) refl a.2

ok_same : {A : Type 0} (a b : A) → (let r : Result A Violation = Ok a in r) ≡ Ok b → a ≡ b
ok_same a b e = cc

fields_small : (role : ObjectRole) (at : List ℕ) (m : Data) (f : Fields) → read_fields role at m ≡ Ok f → AreFieldsSmall f
unfolding read_fields
fields_small role at m f h =
    let a1 = then_ok (small_list at (pos 6) (codes "in") m) _ f h in
    let a2 = then_ok (small_list at (pos 7) (codes "in2") m) _ f a1.2 in
    let a3 = then_ok (small_list at (pos 8) (codes "intyp") m) _ f a2.2 in
    let a4 = then_ok (small_list at (pos 9) (codes "out") m) _ f a3.2 in
    let a5 = then_ok (small_list at (pos 10) (codes "out2") m) _ f a4.2 in
    let a6 = then_ok (small_list at (pos 11) (codes "outtyp") m) _ f a5.2 in
    let a7 = then_ok (count_of at (pos 12) (codes "evtin") m) _ f a6.2 in
    let a8 = then_ok (count_of at (pos 13) (codes "evtout") m) _ f a7.2 in
    let a9 = then_ok (list_where (keeps_state role) at (pos 14) (codes "dstate") m) _ f a8.2 in
    let a10 = then_ok (inner_there role at m) _ f a9.2 in
    let a11 = then_ok (list_where (keeps_ipar role) at (pos 16) (codes "ipar") m) _ f a10.2 in
    let a12 = then_ok (list_where (keeps_state role) at (pos 17) (codes "firing") m) _ f a11.2 in
    let a13 = then_ok (dep_at at (field as_dep (codes "dep_ut") m)) _ f a12.2 in
    let last = ok_same _ f a13.2 in
    let ins : a1.0 ≡ f.ins = ap (λ (x : Fields). x.ins) last in
    let in2 : a2.0 ≡ f.in2 = ap (λ (x : Fields). x.in2) last in
    let intyp : a3.0 ≡ f.intyp = ap (λ (x : Fields). x.intyp) last in
    let outs : a4.0 ≡ f.outs = ap (λ (x : Fields). x.outs) last in
    let out2 : a5.0 ≡ f.out2 = ap (λ (x : Fields). x.out2) last in
    let outtyp : a6.0 ≡ f.outtyp = ap (λ (x : Fields). x.outtyp) last in
    let P : List ℤ → Type 0 = λ l. list_all is_small l ≡ true in
    record {
      ins = subst P ins (small_list_small at (pos 6) (codes "in") m a1.0 a1.1);
      in2 = subst P in2 (small_list_small at (pos 7) (codes "in2") m a2.0 a2.1);
      intyp = subst P intyp (small_list_small at (pos 8) (codes "intyp") m a3.0 a3.1);
      outs = subst P outs (small_list_small at (pos 9) (codes "out") m a4.0 a4.1);
      out2 = subst P out2 (small_list_small at (pos 10) (codes "out2") m a5.0 a5.1);
      outtyp = subst P outtyp (small_list_small at (pos 11) (codes "outtyp") m a6.0 a6.1);
    }

module _ (inner : Inner) (small : (at : List ℕ) (d : Data) (os : Objects) → inner at d ≡ Ok os → AreSmall os) where
  inside_small : (at : List ℕ) (o : Option Data) (os : Objects) → inside inner at o ≡ Ok os → AreSmall os
  inside_small at None os h = absurd (refused _ os h)
  inside_small at (Some d) os h = small at d os h

  block_small : (at gui : List ℕ) (model : Data) (super : Bool) (o : Object) → block_of inner at gui model super ≡ Ok o → IsObjectSmall o
  block_small at gui model false o h =
      let a = then_ok (read_fields (role_of gui) at model) _ o h in
      let is : block gui a.0 ≡ o = cc in
      subst IsObjectSmall is (fields_small (role_of gui) at model a.0 a.1)
  block_small at gui model true o h =
      let a = then_ok (read_fields Super at model) _ o h in
      let b = then_ok (inside inner at (get (codes "rpar") model)) _ o a.2 in
      let is : superblock gui a.0 b.0 ≡ o = cc in
      subst IsObjectSmall is (fields_small Super at model a.0 a.1, inside_small at (get (codes "rpar") model) b.0 b.1)

  object_small : (at : List ℕ) (d : Data) (o : Object) → read_object inner at d ≡ Ok o → IsObjectSmall o
  unfolding read_object read_block read_link
  object_small at d o h = let a = then_ok (read_sort at d) _ o h in of_sort a.0 a.2
    where
      of_sort : (s : Sort) → object_of inner at d s ≡ Ok o → IsObjectSmall o
      of_sort Sort.Block e =
          let a = then_ok (required at (pos 3) (field as_str (codes "gui") d)) _ o e in
          let b = then_ok (required at (pos 4) (field whole_object (codes "model") d)) _ o a.2 in
          let c = then_ok (is_super at (field sim_name (codes "sim") b.0)) _ o b.2 in
          block_small at a.0 b.0 c.0 o c.2
      of_sort Sort.Link e =
          let a = then_ok (link_end at (pos 19) (pos 0) (codes "from") d) _ o e in
          let b = then_ok (link_end at (pos 20) (pos 1) (codes "to") d) _ o a.2 in
          let c = then_ok (required at (pos 21) (field as_ints (codes "ct") d) >>= second at) _ o b.2 in
          let is : link a.0 b.0 c.0 ≡ o = cc in
          subst IsObjectSmall is tt
      of_sort Sort.Text e = let is : text ≡ o = cc in subst IsObjectSmall is tt
      of_sort Sort.Deleted e = let is : deleted ≡ o = cc in subst IsObjectSmall is tt

  walk_small : (at : List ℕ) (k : ℕ) (ds : Items) (os : Objects) → walk inner at k ds ≡ Ok os → AreSmall os
  unfolding walk
  walk_small at k no_items os h = let is : no_objects ≡ os = cc in subst AreSmall is tt
  walk_small at k (item d ds) os h =
      let a = then_ok (read_object inner (at ++ k ∷ []) d) _ os h in
      let b = then_ok (walk inner at (k + 1) ds) (λ qs. Ok (one_object a.0 qs)) os a.2 in
      let is : one_object a.0 b.0 ≡ os = cc in
      subst AreSmall is (object_small (at ++ k ∷ []) d a.0 a.1, walk_small at (k + 1) ds b.0 b.1)

diagram_small : (left : ℕ) (at : List ℕ) (d : Data) (os : Objects) → diagram_at left at d ≡ Ok os → AreSmall os
unfolding diagram_at
diagram_small zero at d os h = absurd (refused _ os h)
diagram_small (suc left) at d os h = let a = then_ok (list_of at d) _ os h in walk_small (diagram_at left) (diagram_small left) at 1 a.0 os a.2

-- ---- few objects in each list

listed_few : (os : Objects) → length (listed os) ≤ objects_in os
listed_few no_objects = omega arith
listed_few (one_object o os) = let more = listed_few os in let one = at_least o in omega (arith, more, one)
  where
    at_least : (o : Object) → 1 ≤ objects_within o
    at_least (block gui f) = omega arith
    at_least (superblock gui f inner) = omega arith
    at_least (link from to kind) = omega arith
    at_least text = omega arith
    at_least deleted = omega arith

mutual
  insides_short : (os : Objects) → objects_in os < 2 ^ 32 → AreInsidesShort os
  insides_short no_objects h = tt
  insides_short (one_object o os) h = (inside_short o (omega arith), insides_short os (omega arith))

  inside_short : (o : Object) → objects_within o < 2 ^ 32 → IsInsideShort o
  inside_short (block gui f) h = tt
  inside_short (superblock gui f os) h = let few = listed_few os in (omega (arith, few), insides_short os (omega arith))
  inside_short (link from to kind) h = tt
  inside_short text h = tt
  inside_short deleted h = tt

-- ---- the whole

below_most : (n : ℕ) → nat_le n 2048 ≡ true → n ≤ 2048
below_most n e = grind (arith, nat_tests)

of_links : (os t : Objects) (b : Bool) (v : Violation) → cond b (Ok os) (Err v) ≡ Ok t → os ≡ t
of_links os t true v e = cc
of_links os t false v e = absurd (refused v t e)

of_blocks : (os t : Objects) (b c : Bool) (v w : Violation) → nat_le (blocks_in os) 2048 ≡ b → cond b (cond c (Ok os) (Err v)) (Err w) ≡ Ok t → (os ≡ t) × (blocks_in os ≤ 2048)
of_blocks os t true c v w e f = (of_links os t c v f, below_most (blocks_in os) e)
of_blocks os t false c v w e f = absurd (refused w t f)

counted_same : (os t : Objects) → counted os ≡ Ok t → (os ≡ t) × (blocks_in os ≤ 2048)
unfolding counted
counted_same os t h = of_blocks os t (nat_le (blocks_in os) 2048) (nat_le (links_in os) 16384) _ _ refl h

value_weighs : (bytes : List ℕ) (b : Bool) (d : Data) → cond b (read bytes) None ≡ Some d → weight d ≤ length bytes + 1
value_weighs bytes true d e = read_weighs bytes d e
value_weighs bytes false d e = absurd (none e)
  where
    none : None ≡ Some d → ⊥
    none e = cc

value_ready : (bytes : List ℕ) (o : Option Data) (t : Objects) → length bytes ≤ 16777216 → value_of bytes ≡ o → judge_value o ≡ Ok t → IsReady t
value_ready bytes None t short e h = absurd (refused _ t h)
value_ready bytes (Some d) t short e h =
    let a = then_ok (tree d) counted t h in
    let c = counted_same a.0 t a.2 in
    let few = few_objects 16 [] d a.0 a.1 in
    let light = value_weighs bytes (is_utf8 bytes) d e in
    let long = listed_few a.0 in
    subst IsReady c.0 (record {
      short = (omega (arith, few, light, long), insides_short a.0 (omega (arith, few, light)));
      few = c.1;
      few_ports = (let low = ports_few 16 [] d a.0 a.1 in omega (arith, low, light, short));
      small = diagram_small 16 [] d a.0 a.1;
    })

pub accepted_ready : (bytes : List ℕ) (t : Objects) → length bytes ≤ 16777216 → Accepts bytes t → IsReady t
unfolding judge
accepted_ready bytes t short h = value_ready bytes (value_of bytes) t short refl h

pub ready_of : (bytes : List ℕ) (t : Objects) → Accepts bytes t → length bytes ≤ 16777216 → IsReady t
ready_of bytes t h short = accepted_ready bytes t short h
