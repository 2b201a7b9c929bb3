-- A tree has no more objects than the value it was read from holds values.
use Rattle.std.proofs.Common.{◌≡◌, ℕ, zero, suc, ◌+◌, ◌≤◌, pos, List, [], ◌∷◌, ◌++◌, Bool, true, false, codes, Option, Some, None, Result, Ok, Err, refl, subst, arith}
use Rattle.std.specs.Prelude.{⊤}
use Rattle.serde_json.specs.Data.{Data, Items, no_items, item}
use Rattle.serde_json.specs.Find.{get, as_str}
use Rattle.sci_base.specs.Plain.{Violation}
use Rattle.sci_base.specs.Outcome.{◌>>=◌}
use Rattle.sci_json.specs.Field.{field, as_ints}
use Rattle.sci_diagram.specs.declared.sorts.ObjectRole.{ObjectRole}
use Rattle.sci_diagram.specs.declared.sorts.ObjectRole.TheVariants.{Kind, Port, Joint, Tag, Super}
use Rattle.sci_diagram.specs.declared.sorts.Sort.{Sort}
use Rattle.sci_diagram.specs.Objects.{Object, Objects, block, superblock, link, text, deleted, no_objects, object as one_object}
use Rattle.sci_diagram.specs.Tree.{Inner, required, whole_object, sim_name, is_super, role_of, read_fields, inside, block_of, read_block, read_sort, object_of, read_object, read_link, link_end, second, walk, list_of, diagram_at}
use Rattle.sci_diagram.specs.Weight.{weight, items_weight}
use Rattle.sci_diagram.proofs.Light.{AtMost, get_light, positive}
use Rattle.sci_diagram.proofs.Walking.{model_light, objs_light}
use Rattle.sci_diagram.specs.Count.{one_of_kind, blocks_in, blocks_of, links_in, links_of, objects_in, objects_within}

abbrev pub Few : {A : Type 0} → (A → ℕ) → ℕ → Result A Violation → Type 0
Few f n (Ok a) = f a ≤ n
Few f n (Err e) = ⊤

-- a step after another one, which gave this value
after : {A B : Type 0} (g : B → ℕ) (n : ℕ) (o : Result A Violation) (f : A → Result B Violation) → ((a : A) → o ≡ Ok a → Few g n (f a)) → Few g n (o >>= f)
after g n (Err e) f h = tt
after g n (Ok a) f h = h a refl

one_at_most : (r : ObjectRole) → one_of_kind r ≤ 1
one_at_most Kind = omega arith
one_at_most Port = omega arith
one_at_most Joint = omega arith
one_at_most Tag = omega arith
one_at_most Super = omega arith

module _ (inner : Inner) (h : (at : List ℕ) (d : Data) → Few objects_in (weight d) (inner at d)) where
  few_inside : (at : List ℕ) (n : ℕ) (o : Option Data) → AtMost (λ e. weight e + 1) n o → Few (λ os. 1 + objects_in os) n (inside inner at o)
  few_inside at n None k = tt
  few_inside at n (Some d) k = less (inner at d) (h at d)
    where
      less : (o : Result Objects Violation) → Few objects_in (weight d) o → Few (λ os. 1 + objects_in os) n o
      less (Ok os) q = omega arith
      less (Err e) q = tt

  few_block_of : (at gui : List ℕ) (model : Data) (super : Bool) → Few objects_within (weight model) (block_of inner at gui model super)
  few_block_of at gui model false = after objects_within (weight model) (read_fields (role_of gui) at model) _ (λ f e. positive model)
  few_block_of at gui model true = after objects_within (weight model) (read_fields Super at model) _ (λ f e. after objects_within (weight model) (inside inner at (get (codes "rpar") model)) _ (λ os e2. subst (Few (λ os. 1 + objects_in os) (weight model)) e2 (few_inside at (weight model) (get (codes "rpar") model) (get_light (codes "rpar") model))))

  raise : (m n : ℕ) (o : Result Object Violation) → m ≤ n → Few objects_within m o → Few objects_within n o
  raise m n (Ok a) k q = omega arith
  raise m n (Err e) k q = tt

  few_block : (at : List ℕ) (d : Data) → Few objects_within (weight d) (read_block inner at d)
  unfolding read_block
  few_block at d =
      after objects_within (weight d) (required at (pos 3) (field as_str (codes "gui") d)) _ (λ gui e.
      after objects_within (weight d) (required at (pos 4) (field whole_object (codes "model") d)) _ (λ model e2.
      after objects_within (weight d) (is_super at (field sim_name (codes "sim") model)) _ (λ super e3.
      raise (weight model) (weight d) _ (model_light at (pos 4) (codes "model") d model e2) (few_block_of at gui model super))))

  few_of : (at : List ℕ) (d : Data) (s : Sort) → Few objects_within (weight d) (object_of inner at d s)
  unfolding read_link
  few_of at d Sort.Block = few_block at d
  few_of at d Sort.Link =
      after objects_within (weight d) (link_end at (pos 19) (pos 0) (codes "from") d) _ (λ from e.
      after objects_within (weight d) (link_end at (pos 20) (pos 1) (codes "to") d) _ (λ to e2.
      after objects_within (weight d) (required at (pos 21) (field as_ints (codes "ct") d) >>= second at) _ (λ kind e3. positive d)))
  few_of at d Sort.Text = positive d
  few_of at d Sort.Deleted = positive d

  few_object : (at : List ℕ) (d : Data) → Few objects_within (weight d) (read_object inner at d)
  unfolding read_object
  few_object at d = after objects_within (weight d) (read_sort at d) _ (λ s e. few_of at d s)

  few_walk : (at : List ℕ) (k : ℕ) (ds : Items) → Few objects_in (items_weight ds) (walk inner at k ds)
  unfolding walk
  few_walk at k no_items = omega arith
  few_walk at k (item d ds) =
      after objects_in (weight d + items_weight ds) (read_object inner (at ++ k ∷ []) d) _ (λ o e.
      after objects_in (weight d + items_weight ds) (walk inner at (k + 1) ds) _ (λ os e2.
      let one = subst (Few objects_within (weight d)) e (few_object (at ++ k ∷ []) d) in
      let more = subst (Few objects_in (items_weight ds)) e2 (few_walk at (k + 1) ds) in
      omega (arith, one, more)))

raise_in : (m n : ℕ) (o : Result Objects Violation) → m ≤ n → Few objects_in m o → Few objects_in n o
raise_in m n (Ok a) k q = omega arith
raise_in m n (Err e) k q = tt

few_at : (left : ℕ) (at : List ℕ) (d : Data) → Few objects_in (weight d) (diagram_at left at d)
unfolding diagram_at
few_at zero at d = tt
few_at (suc left) at d = after objects_in (weight d) (list_of at d) _ (λ ds e. raise_in (items_weight ds) (weight d) _ (objs_light at d ds e) (few_walk (diagram_at left) (few_at left) at 1 ds))

pub few_objects : (left : ℕ) (at : List ℕ) (d : Data) (os : Objects) → diagram_at left at d ≡ Ok os → objects_in os ≤ weight d
few_objects left at d os e = subst (Few objects_in (weight d)) e (few_at left at d)

mutual
  pub blocks_few : (os : Objects) → blocks_in os ≤ objects_in os
  blocks_few no_objects = omega arith
  blocks_few (one_object o os) = omega (arith, block_few o, blocks_few os)

  block_few : (o : Object) → blocks_of o ≤ objects_within o
  block_few (block gui f) = one_at_most (role_of gui)
  block_few (superblock gui f os) = omega (arith, blocks_few os)
  block_few (link from to kind) = omega arith
  block_few text = omega arith
  block_few deleted = omega arith

mutual
  pub links_few : (os : Objects) → links_in os ≤ objects_in os
  links_few no_objects = omega arith
  links_few (one_object o os) = omega (arith, link_few o, links_few os)

  link_few : (o : Object) → links_of o ≤ objects_within o
  link_few (block gui f) = omega arith
  link_few (superblock gui f os) = omega (arith, links_few os)
  link_few (link from to kind) = omega arith
  link_few text = omega arith
  link_few deleted = omega arith
