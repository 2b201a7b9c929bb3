-- A diagram that is read from a file has few ports.
use Rattle.std.proofs.Common.{◌≡◌, ◌≤◌, ◌+◌, ◌*◌, ℕ, zero, suc, ℤ, pos, List, [], ◌∷◌, ◌++◌, length, Bool, true, false, Option, Some, None, Result, Ok, Err, codes, refl, sym, ap, ◌∙◌, subst, arith}
use Rattle.std.proofs.Math.Nat.{mul-le-mul_left}
use Rattle.serde_json.specs.Data.{Data, Items, no_items, item}
use Rattle.serde_json.specs.Find.{get, as_str}
use Rattle.sci_base.specs.Plain.{Violation, Fields}
use Rattle.sci_base.specs.Outcome.{◌>>=◌}
use Rattle.sci_json.specs.Field.{field, formed, as_ints, as_dep}
use Rattle.sci_diagram.specs.declared.sorts.ObjectRole.{ObjectRole}
use Rattle.sci_diagram.specs.declared.sorts.ObjectRole.TheVariants.{Super}
use Rattle.sci_diagram.specs.declared.sorts.Sort.{Sort}
use Rattle.sci_diagram.specs.Objects.{Object, Objects, block, superblock, link, text, deleted, no_objects, object as one_object}
use Rattle.sci_diagram.specs.Numbers.{small_count}
use Rattle.sci_diagram.specs.Tree.{Inner, count_of, list_where, keeps_state, keeps_ipar, inner_there, dep_at, required, whole_object, sim_name, is_super, small_list, role_of, read_fields, inside, block_of, read_block, read_sort, object_of, read_object, read_link, link_end, second, walk, list_of, diagram_at}
use Rattle.sci_diagram.specs.Weight.{weight, items_weight}
use Rattle.sci_diagram.proofs.Light.{AtMost, get_light, count_short}
use Rattle.sci_diagram.proofs.Standing.{count_absent, count_found}
use Rattle.sci_diagram.proofs.Walking.{model_light, objs_light}
use Rattle.sci_flat.proofs.Valid.{then_ok}
use Rattle.sci_flat.specs.Ready.{field_ports, ports_in, ports_within}

refused : {A : Type 0} (v : Violation) (a : A) → Err v ≡ Ok a → ⊥
refused v a e = cc

ok_same : {A : Type 0} (a b : A) → (let r : Result A Violation = Ok a in r) ≡ Ok b → a ≡ b
ok_same a b e = cc

-- ---- the numbers of one block

count_light : (at : List ℕ) (code : ℤ) (name : List ℕ) (m : Data) (n : ℕ) → count_of at code name m ≡ Ok n → n ≤ weight m
count_light at code name m n h = of (get name m) refl (get_light name m)
  where
    told : (d : Data) (o : Option ℕ) → small_count d ≡ o → required at code (formed o) ≡ Ok n → n ≤ weight d
    told d None e k = absurd (refused _ n k)
    told d (Some k) e g = count_short d n (e ∙ ap Some (ok_same k n g))

    of : (o : Option Data) → get name m ≡ o → AtMost (λ e. weight e + 1) (weight m) o → n ≤ weight m
    of None e l = let none = ok_same 0 n (sym (count_absent at code name m e) ∙ h) in omega (arith, none)
    of (Some d) e l = let low = told d (small_count d) refl (sym (count_found at code name m d e) ∙ h) in omega (arith, low, l)

list_light : (at : List ℕ) (code : ℤ) (name : List ℕ) (m : Data) (xs : List ℤ) → small_list at code name m ≡ Ok xs → length xs ≤ weight m
list_light at code name m xs h = count_light at code name m (length xs) (rw h refl)

four : (a b c d w : ℕ) → a ≤ w → b ≤ w → c ≤ w → d ≤ w → a + b + c + d ≤ 4 * w
four a b c d w p q r s = omega arith

fields_few : (role : ObjectRole) (at : List ℕ) (m : Data) (f : Fields) → read_fields role at m ≡ Ok f → field_ports f ≤ 4 * weight m
unfolding read_fields
fields_few role at m f h =
    let a1 = then_ok (small_list at (pos 6) (codes "in") m) _ f h in
    let a2 = then_ok (small_list at (pos 7) (codes "in2") m) _ f a1.2 in
    let a3 = then_ok (small_list at (pos 8) (codes "intyp") m) _ f a2.2 in
    let a4 = then_ok (small_list at (pos 9) (codes "out") m) _ f a3.2 in
    let a5 = then_ok (small_list at (pos 10) (codes "out2") m) _ f a4.2 in
    let a6 = then_ok (small_list at (pos 11) (codes "outtyp") m) _ f a5.2 in
    let a7 = then_ok (count_of at (pos 12) (codes "evtin") m) _ f a6.2 in
    let a8 = then_ok (count_of at (pos 13) (codes "evtout") m) _ f a7.2 in
    let a9 = then_ok (list_where (keeps_state role) at (pos 14) (codes "dstate") m) _ f a8.2 in
    let a10 = then_ok (inner_there role at m) _ f a9.2 in
    let a11 = then_ok (list_where (keeps_ipar role) at (pos 16) (codes "ipar") m) _ f a10.2 in
    let a12 = then_ok (list_where (keeps_state role) at (pos 17) (codes "firing") m) _ f a11.2 in
    let a13 = then_ok (dep_at at (field as_dep (codes "dep_ut") m)) _ f a12.2 in
    let last = ok_same _ f a13.2 in
    let ins : length a1.0 ≡ length f.ins = ap (λ (x : Fields). length x.ins) last in
    let outs : length a4.0 ≡ length f.outs = ap (λ (x : Fields). length x.outs) last in
    let evtin : a7.0 ≡ f.evtin = ap (λ (x : Fields). x.evtin) last in
    let evtout : a8.0 ≡ f.evtout = ap (λ (x : Fields). x.evtout) last in
    let l1 = list_light at (pos 6) (codes "in") m a1.0 a1.1 in
    let l4 = list_light at (pos 9) (codes "out") m a4.0 a4.1 in
    let l7 = count_light at (pos 12) (codes "evtin") m a7.0 a7.1 in
    let l8 = count_light at (pos 13) (codes "evtout") m a8.0 a8.1 in
    let P : ℕ → Type 0 = λ n. n ≤ weight m in
    four (length f.ins) (length f.outs) f.evtin f.evtout (weight m) (subst P ins l1) (subst P outs l4) (subst P evtin l7) (subst P evtout l8)

-- ---- k ports for each value, and 4 more on one level more

more_each : (k w : ℕ) → (k + 4) * w ≡ k * w + 4 * w
more_each k w = grind arith

each_more : (k v w : ℕ) → k * (v + w) ≡ k * v + k * w
each_more k v w = grind arith

module _ (inner : Inner) (k : ℕ) (few : (at : List ℕ) (d : Data) (os : Objects) → inner at d ≡ Ok os → ports_in os ≤ k * weight d) where
  inside_few : (at : List ℕ) (n : ℕ) (o : Option Data) (os : Objects) → AtMost (λ e. weight e + 1) n o → inside inner at o ≡ Ok os → ports_in os ≤ k * n
  inside_few at n None os l h = absurd (refused _ os h)
  inside_few at n (Some d) os l h =
      let low = few at d os h in
      let light : weight d ≤ n = omega (arith, l) in
      let more = mul-le-mul_left k light in
      omega (arith, low, more)

  block_few : (at gui : List ℕ) (model : Data) (super : Bool) (o : Object) → block_of inner at gui model super ≡ Ok o → ports_within o ≤ (k + 4) * weight model
  block_few at gui model false o h =
      let a = then_ok (read_fields (role_of gui) at model) _ o h in
      let is : block gui a.0 ≡ o = cc in
      let own = fields_few (role_of gui) at model a.0 a.1 in
      let same = ap ports_within is in
      omega (arith, own, same, more_each k (weight model))
  block_few at gui model true o h =
      let a = then_ok (read_fields Super at model) _ o h in
      let b = then_ok (inside inner at (get (codes "rpar") model)) _ o a.2 in
      let is : superblock gui a.0 b.0 ≡ o = cc in
      let own = fields_few Super at model a.0 a.1 in
      let more = inside_few at (weight model) (get (codes "rpar") model) b.0 (get_light (codes "rpar") model) b.1 in
      let same = ap ports_within is in
      omega (arith, own, more, same, more_each k (weight model))

  object_few : (at : List ℕ) (d : Data) (o : Object) → read_object inner at d ≡ Ok o → ports_within o ≤ (k + 4) * weight d
  unfolding read_object read_block read_link
  object_few at d o h = let a = then_ok (read_sort at d) _ o h in of_sort a.0 a.2
    where
      of_sort : (s : Sort) → object_of inner at d s ≡ Ok o → ports_within o ≤ (k + 4) * weight d
      of_sort Sort.Block e =
          let a = then_ok (required at (pos 3) (field as_str (codes "gui") d)) _ o e in
          let b = then_ok (required at (pos 4) (field whole_object (codes "model") d)) _ o a.2 in
          let c = then_ok (is_super at (field sim_name (codes "sim") b.0)) _ o b.2 in
          let low = block_few at a.0 b.0 c.0 o c.2 in
          let more = mul-le-mul_left (k + 4) (model_light at (pos 4) (codes "model") d b.0 b.1) in
          omega (arith, low, more)
      of_sort Sort.Link e =
          let a = then_ok (link_end at (pos 19) (pos 0) (codes "from") d) _ o e in
          let b = then_ok (link_end at (pos 20) (pos 1) (codes "to") d) _ o a.2 in
          let c = then_ok (required at (pos 21) (field as_ints (codes "ct") d) >>= second at) _ o b.2 in
          let is : link a.0 b.0 c.0 ≡ o = cc in
          let same = ap ports_within is in
          omega (arith, same)
      of_sort Sort.Text e = let is : text ≡ o = cc in let same = ap ports_within is in omega (arith, same)
      of_sort Sort.Deleted e = let is : deleted ≡ o = cc in let same = ap ports_within is in omega (arith, same)

  walk_few : (at : List ℕ) (n : ℕ) (ds : Items) (os : Objects) → walk inner at n ds ≡ Ok os → ports_in os ≤ (k + 4) * items_weight ds
  unfolding walk
  walk_few at n no_items os h = let is : no_objects ≡ os = cc in let same = ap ports_in is in omega (arith, same)
  walk_few at n (item d ds) os h =
      let a = then_ok (read_object inner (at ++ n ∷ []) d) _ os h in
      let b = then_ok (walk inner at (n + 1) ds) (λ qs. Ok (one_object a.0 qs)) os a.2 in
      let is : one_object a.0 b.0 ≡ os = cc in
      let same = ap ports_in is in
      let one = object_few (at ++ n ∷ []) d a.0 a.1 in
      let more = walk_few at (n + 1) ds b.0 b.1 in
      omega (arith, same, one, more, each_more (k + 4) (weight d) (items_weight ds))

pub ports_few : (left : ℕ) (at : List ℕ) (d : Data) (os : Objects) → diagram_at left at d ≡ Ok os → ports_in os ≤ (4 * left) * weight d
unfolding diagram_at
ports_few zero at d os h = absurd (refused _ os h)
ports_few (suc left) at d os h =
    let a = then_ok (list_of at d) _ os h in
    let low = walk_few (diagram_at left) (4 * left) (ports_few left) at 1 a.0 os a.2 in
    let light = mul-le-mul_left (4 * left + 4) (objs_light at d a.0 a.1) in
    let same : (4 * left + 4) * weight d ≡ (4 * suc left) * weight d = ap (λ (n : ℕ). n * weight d) (let e : 4 * left + 4 ≡ 4 * suc left = omega arith in e) in
    omega (arith, low, light, same)
