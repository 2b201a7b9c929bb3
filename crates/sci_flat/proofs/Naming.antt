-- The steps by numbers are the tree's steps by names.
use Rattle.std.proofs.Common.{◌≡◌, ◌<◌, ◌≤◌, ◌+◌, ℕ, zero, suc, ℤ, pos, negsuc, List, [], ◌∷◌, ◌++◌, length, map, Bool, true, false, cond, ◌&&◌, Option, Some, None, refl, sym, ap, ◌∙◌, subst, arith, get_or}
use Rattle.std.specs.Prelude.{nat_lt, int_le, slice_get}
use Rattle.std.specs.List.{range_with_len}
use Rattle.std.proofs.lemmas.Bool.Decides.{nat_tests}
use Rattle.std.proofs.lemmas.List.{map-append}
use Rattle.sci_base.specs.Plain.{Fields}
use Rattle.sci_base.specs.Fit.{int_eq}
use Rattle.sci_diagram.specs.declared.diagram.End.{End}
use Rattle.sci_diagram.specs.Objects.{Object, block, superblock, link, text, deleted, Objects, no_objects, object, listed}
use Rattle.sci_blocks.specs.declared.class.PortClass.{PortClass}
use Rattle.sci_blocks.specs.declared.class.PortClass.TheVariants.{Input, Output, ActivationInput, ActivationOutput}
use Rattle.sci_blocks.specs.declared.class.LinkType.{LinkType}
use Rattle.sci_blocks.specs.declared.pass_through.PassThrough.{PassThrough}
use Rattle.sci_blocks.specs.declared.pass_through.PassThrough.TheVariants.{Split, ActivationSplit, Union, PortBlock, Giver, Taker}
use Rattle.sci_blocks.specs.Rows.{pass_through}
use Rattle.sci_blocks.specs.Ports.{ports, no_ports}
use Rattle.sci_blocks.specs.Wiring.{is_port_of, object_ports, ports_of, at_position, side_number, link_type, source_class, target_class}
use Rattle.sci_flat.specs.Chain.{AllWithin}
use Rattle.sci_flat.specs.declared.steps.port_numbers.PortNumbers.{PortNumbers}
use Rattle.sci_flat.specs.PortNumbers.{seat_at, no_seat, past, start, count, port_number}
use Rattle.sci_flat.specs.Ports.{Port, port, PortStep, end_port, place_port, link_steps, split_steps, union_steps, port_steps, numbered_steps, through_steps, steps_of, object_steps, tree_steps}
use Rattle.sci_flat.specs.Numbers.{Steps, object_seat, seats, own_past, inside_past, joined, seat_port, placed_port, end_number, link_numbers, fan_out, fan_in, port_numbers, block_numbers, through_numbers, steps_by, object_steps_by}
use Rattle.sci_flat.specs.Numbered.{no_port, named_step}
use Rattle.sci_flat.proofs.Listing.{object_names, own_names, inside_names, inside_object, tree_names, past_object, past_own, past_inside, At, at_left, at_right, Seated, object_seated, outermost_seated}
use Rattle.sci_flat.proofs.Valid.{opposite, StandsFor, JointOk, LinkOk, DiagramOk, ObjectOk}

-- these steps are those, and lead within the list of ports
pub record Named (names : List Port) (xs : Steps) (ys : List PortStep) : Type 0 where
  pub same : map (named_step names) xs ≡ ys
  pub within : AllWithin (length names) xs

pub named_nil : (names : List Port) → Named names [] []
named_nil names = record { same = refl; within = tt }

pub within_append : (n : ℕ) (xs ys : Steps) → AllWithin n xs → AllWithin n ys → AllWithin n (xs ++ ys)
within_append n [] ys a b = b
within_append n (x ∷ xs) ys a b = (a.0, a.1, within_append n xs ys a.2 b)

pub named_append : (names : List Port) (xs ys : Steps) (us vs : List PortStep) → Named names xs us → Named names ys vs → Named names (xs ++ ys) (us ++ vs)
named_append names xs ys us vs a b = record {
  same = map-append (named_step names) xs ys ∙ (ap (λ (l : List PortStep). l ++ map (named_step names) ys) a.same ∙ ap (λ (l : List PortStep). us ++ l) b.same);
  within = within_append (length names) xs ys a.within b.within;
}

pub named_one : (names : List Port) (a b : ℕ) (p q : Port) → a < length names → b < length names → get_or names a no_port ≡ p → get_or names b no_port ≡ q → Named names ((a, b) ∷ []) ((p, q) ∷ [])
named_one names a b p q ha hb e f = record {
  same = ap (λ (s : PortStep). s ∷ []) (ap (λ (x : Port). let s : PortStep = (x, get_or names b no_port) in s) e ∙ ap (λ (x : Port). let s : PortStep = (p, x) in s) f);
  within = (ha, hb, tt);
}

-- a fan: each number of a row, joined to one
fan_same : (names : List Port) (f : ℕ → ℕ × ℕ) (g : ℕ → PortStep) (a b n : ℕ) → ((k : ℕ) → k < n → named_step names (f (a + k)) ≡ g (b + k)) → map (named_step names) (map f (range_with_len a n)) ≡ map g (range_with_len b n)
fan_same names f g a b zero h = refl
fan_same names f g a b (suc n) h =
    let first : named_step names (f a) ≡ g b = subst (λ (i : ℕ). named_step names (f i) ≡ g b) (zero_more a) (subst (λ (i : ℕ). named_step names (f (a + 0)) ≡ g i) (zero_more b) (h 0 (omega arith))) in
    let rest = fan_same names f g (a + 1) (b + 1) n (λ k l. subst (λ (i : ℕ). named_step names (f i) ≡ g (b + 1 + k)) (shift a k) (subst (λ (i : ℕ). named_step names (f (a + (k + 1))) ≡ g i) (shift b k) (h (k + 1) (omega arith)))) in
    ap (λ (x : PortStep). x ∷ map (named_step names) (map f (range_with_len (a + 1) n))) first ∙ ap (λ (l : List PortStep). g b ∷ l) rest
  where
    zero_more : (x : ℕ) → x + 0 ≡ x
    zero_more x = omega arith

    shift : (x k : ℕ) → x + (k + 1) ≡ x + 1 + k
    shift x k = omega arith

fan_within : (f : ℕ → ℕ × ℕ) (m a n : ℕ) → ((k : ℕ) → k < n → ((f (a + k)).0 < m) × ((f (a + k)).1 < m)) → AllWithin m (map f (range_with_len a n))
fan_within f m a zero h = tt
fan_within f m a (suc n) h =
    let first : ((f a).0 < m) × ((f a).1 < m) = subst (λ (i : ℕ). ((f i).0 < m) × ((f i).1 < m)) (zero_more a) (h 0 (omega arith)) in
    (first.0, first.1, fan_within f m (a + 1) n (λ k l. subst (λ (i : ℕ). ((f i).0 < m) × ((f i).1 < m)) (shift a k) (h (k + 1) (omega arith))))
  where
    zero_more : (x : ℕ) → x + 0 ≡ x
    zero_more x = omega arith

    shift : (x k : ℕ) → x + (k + 1) ≡ x + 1 + k
    shift x k = omega arith

-- ---- one port

pub number_there : (s : PortNumbers) (c : PortClass) (k : ℕ) → k < count s c → port_number s c (pos (suc k)) ≡ Some (start s c + k)
number_there s c k h = let e : nat_lt k (count s c) ≡ true = below k (count s c) h in ap (λ (b : Bool). cond b (Some (start s c + k)) None) e
  where
    below : (a b : ℕ) → a < b → nat_lt a b ≡ true
    below a b h = grind (arith, nat_tests)

pub seat_counts : (n : ℕ) (o : Object) (c : PortClass) → count (object_seat n o) c ≡ object_ports c o
seat_counts n (block gui f) Input = refl
seat_counts n (block gui f) Output = refl
seat_counts n (block gui f) ActivationInput = refl
seat_counts n (block gui f) ActivationOutput = refl
seat_counts n (superblock gui f os) Input = refl
seat_counts n (superblock gui f os) Output = refl
seat_counts n (superblock gui f os) ActivationInput = refl
seat_counts n (superblock gui f os) ActivationOutput = refl
seat_counts n (link from to kind) Input = refl
seat_counts n (link from to kind) Output = refl
seat_counts n (link from to kind) ActivationInput = refl
seat_counts n (link from to kind) ActivationOutput = refl
seat_counts n text Input = refl
seat_counts n text Output = refl
seat_counts n text ActivationInput = refl
seat_counts n text ActivationOutput = refl
seat_counts n deleted Input = refl
seat_counts n deleted Output = refl
seat_counts n deleted ActivationInput = refl
seat_counts n deleted ActivationOutput = refl

-- the port has a number, and the number this name
pub record PortNamed (names : List Port) (o : Option ℕ) (p : Port) : Type 0 where
  pub number : ℕ
  pub is : o ≡ Some number
  pub inside : number < length names
  pub named : get_or names number no_port ≡ p

port_named : (names : List Port) (place : List ℕ) (s : PortNumbers) (c : PortClass) (k : ℕ) → Seated names place s → k < count s c → PortNamed names (port_number s c (pos (suc k))) (port place c (pos (suc k)))
port_named names place s c k a h = record {
  number = start s c + k;
  is = number_there s c k h;
  inside = a.inside c k h;
  named = a.named c k h ∙ ap (λ (i : ℕ). port place c (pos i)) (one_more k);
}
  where
    one_more : (k : ℕ) → k + 1 ≡ suc k
    one_more k = omega arith

joined_named : (names : List Port) (a b : Option ℕ) (p q : Port) → PortNamed names a p → PortNamed names b q → Named names (joined a b) ((p, q) ∷ [])
joined_named names a b p q x y = rw (x.is, y.is) (named_one names x.number y.number p q x.inside y.inside x.named y.named)

-- ---- through a pass-through object

first_named : (names : List Port) (place : List ℕ) (s : PortNumbers) (c : PortClass) → Seated names place s → 1 ≤ count s c → PortNamed names (port_number s c (pos 1)) (port place c (pos 1))
first_named names place s c a h = port_named names place s c 0 a (omega arith)

pair_same : (a b p q : Port) → a ≡ p → b ≡ q → (let s : PortStep = (a, b) in s) ≡ (let t : PortStep = (p, q) in t)
pair_same a b p q e f = rw (e, f) refl

fan_out_named : (names : List Port) (here : List ℕ) (s : PortNumbers) (c d : PortClass) (o : Option ℕ) (n : ℕ) → n ≡ count s d → Seated names here s → PortNamed names o (port here c (pos 1)) → Named names (fan_out o (start s d) (count s d)) (split_steps here c d n)
fan_out_named names here s c d o n e a x = rw (x.is, e) (record {
  same = fan_same names (λ k. (x.number, k)) (λ k. (port here c (pos 1), port here d (pos k))) (start s d) 1 (count s d) same;
  within = fan_within (λ k. (x.number, k)) (length names) (start s d) (count s d) (λ k h. (x.inside, a.inside d k h));
})
  where
    one_more : (k : ℕ) → k + 1 ≡ 1 + k
    one_more k = omega arith

    same : (k : ℕ) → k < count s d → named_step names (x.number, start s d + k) ≡ (port here c (pos 1), port here d (pos (1 + k)))
    same k h = pair_same (get_or names x.number no_port) (get_or names (start s d + k) no_port) (port here c (pos 1)) (port here d (pos (1 + k))) x.named (a.named d k h ∙ ap (λ (i : ℕ). port here d (pos i)) (one_more k))

fan_in_named : (names : List Port) (here : List ℕ) (s : PortNumbers) (o : Option ℕ) (n : ℕ) → n ≡ count s ActivationInput → Seated names here s → PortNamed names o (port here ActivationOutput (pos 1)) → Named names (fan_in (start s ActivationInput) (count s ActivationInput) o) (union_steps here n)
fan_in_named names here s o n e a x = rw (x.is, e) (record {
  same = fan_same names (λ k. (k, x.number)) (λ k. (port here ActivationInput (pos k), port here ActivationOutput (pos 1))) (start s ActivationInput) 1 (count s ActivationInput) same;
  within = fan_within (λ k. (k, x.number)) (length names) (start s ActivationInput) (count s ActivationInput) (λ k h. (a.inside ActivationInput k h, x.inside));
})
  where
    one_more : (k : ℕ) → k + 1 ≡ 1 + k
    one_more k = omega arith

    same : (k : ℕ) → k < count s ActivationInput → named_step names (start s ActivationInput + k, x.number) ≡ (port here ActivationInput (pos (1 + k)), port here ActivationOutput (pos 1))
    same k h = pair_same (get_or names (start s ActivationInput + k) no_port) (get_or names x.number no_port) (port here ActivationInput (pos (1 + k))) (port here ActivationOutput (pos 1)) (a.named ActivationInput k h ∙ ap (λ (i : ℕ). port here ActivationInput (pos i)) (one_more k)) x.named

block_named : (names : List Port) (at here : List ℕ) (outer s : PortNumbers) (cnt : PortClass → ℕ) (f : Fields) (c : PortClass) → Seated names at outer → Seated names here s → ((d : PortClass) → count outer d ≡ cnt d) → ((d : PortClass) → count s d ≡ ports f d)
    → StandsFor cnt c f → Named names (block_numbers outer s c f.ipar) (numbered_steps at here c f.ipar)
block_named names at here outer s cnt f c a b same own j = rw j.ipar (kinds c (subst (λ (i : ℕ). j.k < i) (sym (same c)) j.there) (subst (λ (i : ℕ). 1 ≤ i) (sym (own (opposite c))) j.own))
  where
    kinds : (c : PortClass) → j.k < count outer c → 1 ≤ count s (opposite c) → Named names (port_numbers outer s c (pos (suc j.k))) (port_steps at here c (pos (suc j.k)))
    kinds Input h l = joined_named names _ _ _ _ (port_named names at outer Input j.k a h) (first_named names here s Output b l)
    kinds Output h l = joined_named names _ _ _ _ (first_named names here s Input b l) (port_named names at outer Output j.k a h)
    kinds ActivationInput h l = joined_named names _ _ _ _ (port_named names at outer ActivationInput j.k a h) (first_named names here s ActivationOutput b l)
    kinds ActivationOutput h l = joined_named names _ _ _ _ (first_named names here s ActivationInput b l) (port_named names at outer ActivationOutput j.k a h)

through_named : (names : List Port) (at here : List ℕ) (outer s : PortNumbers) (cnt : PortClass → ℕ) (f : Fields) (o : Option PassThrough) → Seated names at outer → Seated names here s → ((d : PortClass) → count outer d ≡ cnt d) → ((d : PortClass) → count s d ≡ ports f d)
    → JointOk cnt f o → Named names (through_numbers outer s f.ipar o) (through_steps at here f o)
through_named names at here outer s cnt f None a b same own j = named_nil names
through_named names at here outer s cnt f (Some Split) a b same own j = fan_out_named names here s Input Output _ (length f.outs) (sym (own Output)) b (first_named names here s Input b (subst (λ (i : ℕ). 1 ≤ i) (sym (own Input)) j))
through_named names at here outer s cnt f (Some ActivationSplit) a b same own j = fan_out_named names here s ActivationInput ActivationOutput _ f.evtout (sym (own ActivationOutput)) b (first_named names here s ActivationInput b (subst (λ (i : ℕ). 1 ≤ i) (sym (own ActivationInput)) j))
through_named names at here outer s cnt f (Some Union) a b same own j = fan_in_named names here s _ f.evtin (sym (own ActivationInput)) b (first_named names here s ActivationOutput b (subst (λ (i : ℕ). 1 ≤ i) (sym (own ActivationOutput)) j))
through_named names at here outer s cnt f (Some (PortBlock c)) a b same own j = block_named names at here outer s cnt f c a b same own j
through_named names at here outer s cnt f (Some (Giver l)) a b same own j = named_nil names
through_named names at here outer s cnt f (Some (Taker l)) a b same own j = named_nil names

-- ---- along a link

-- the seat of an object of a diagram
record SeatOf (names : List Port) (at : List ℕ) (n k j : ℕ) (os : Objects) (o : Object) : Type 0 where
  seat : PortNumbers
  is : slice_get (seats n os) j ≡ Some seat
  seated : Seated names (at ++ (k + j) ∷ []) seat
  counts : (c : PortClass) → count seat c ≡ object_ports c o

seat_of : (names : List Port) (at : List ℕ) (n k j : ℕ) (os : Objects) (o : Object) → At names n (own_names at k os) → slice_get (listed os) j ≡ Some o → SeatOf names at n k j os o
seat_of names at n k j no_objects o a e = absurd (none e)
  where
    none : None ≡ Some o → ⊥
    none e = cc
seat_of names at n k zero (object p os) o a e =
    let here : k + 0 ≡ k = omega arith in
    let is : p ≡ o = cc in
    record {
      seat = object_seat n p;
      is = refl;
      seated = rw here (object_seated names (at ++ k ∷ []) n p (at_left names n (object_names (at ++ k ∷ []) p) (own_names at (k + 1) os) a));
      counts = λ c. seat_counts n p c ∙ ap (object_ports c) is;
    }
seat_of names at n k (suc j) (object p os) o a e =
    let r = seat_of names at (past (object_seat n p)) (k + 1) j os o (at_right names n (past (object_seat n p)) (object_names (at ++ k ∷ []) p) (own_names at (k + 1) os) (past_object (at ++ k ∷ []) n p) a) e in
    let next : k + suc j ≡ k + 1 + j = omega arith in
    record { seat = r.seat; is = r.is; seated = rw next r.seated; counts = r.counts }

-- the end names one port, which has a number
record EndNamed (names : List Port) (at : List ℕ) (all : List PortNumbers) (c : PortClass) (e : End) : Type 0 where
  target : Port
  one : end_port at c e ≡ target ∷ []
  named : PortNamed names (end_number all c e) target

pub both_true : (a b : Bool) → (a && b) ≡ true → (a ≡ true) × (b ≡ true)
both_true true b e = (refl, e)
both_true false b e = cc

differ : false ≡ true → ⊥
differ e = cc

not_below : (k : ℕ) → int_le (pos (suc k)) (pos 0) ≡ true → ⊥
not_below k h = let e : suc k ≤ 0 = grind (arith, nat_tests) in absurd (omega arith)

module _ (names : List Port) (at : List ℕ) (n : ℕ) (os : Objects) (a : At names n (own_names at 1 os)) (c : PortClass) where
  placed : (p b : ℤ) → int_le (pos 1) p ≡ true → int_le p (pos (ports_of c (at_position os b))) ≡ true → (target : Port) × (place_port at c p b ≡ target ∷ []) × PortNamed names (placed_port (seats n os) c p b) target
  placed (pos zero) b l h = absurd (differ l)
  placed (negsuc k) b l h = absurd (differ l)
  placed (pos (suc k)) (pos zero) l h = absurd (not_below k h)
  placed (pos (suc k)) (negsuc j) l h = absurd (not_below k h)
  placed (pos (suc k)) (pos (suc j)) l h = there (slice_get (listed os) j) refl h
    where
      below : (m : ℕ) → int_le (pos (suc k)) (pos m) ≡ true → k < m
      below m h = grind (arith, nat_tests)

      there : (o : Option Object) → slice_get (listed os) j ≡ o → int_le (pos (suc k)) (pos (ports_of c o)) ≡ true → (target : Port) × (place_port at c (pos (suc k)) (pos (suc j)) ≡ target ∷ []) × PortNamed names (placed_port (seats n os) c (pos (suc k)) (pos (suc j))) target
      there None e h = absurd (not_below k h)
      there (Some o) e h =
          let r = seat_of names at n 1 j os o a e in
          let next : 1 + j ≡ suc j = omega arith in
          let low : k < count r.seat c = rw (r.counts c) (below (object_ports c o) h) in
          let same : placed_port (seats n os) c (pos (suc k)) (pos (suc j)) ≡ port_number r.seat c (pos (suc k)) = ap (seat_port c (pos (suc k))) r.is in
          let there : Seated names (at ++ suc j ∷ []) r.seat = subst (λ (i : ℕ). Seated names (at ++ i ∷ []) r.seat) next r.seated in
          (port (at ++ suc j ∷ []) c (pos (suc k)), refl, rw same (port_named names (at ++ suc j ∷ []) r.seat c k there low))

  end_named : (e : End) → is_port_of os c e ≡ true → EndNamed names at (seats n os) c e
  end_named e h =
      let a1 = both_true (int_eq e.side (side_number c) && int_le (pos 1) e.port) (int_le e.port (pos (ports_of c (at_position os e.block)))) h in
      let a2 = both_true (int_eq e.side (side_number c)) (int_le (pos 1) e.port) a1.0 in
      let r = placed e.port e.block a2.1 a1.1 in
      record { target = r.0; one = r.1; named = r.2 }

link_named : (names : List Port) (at : List ℕ) (n : ℕ) (os : Objects) (from to : End) (t : Option LinkType) → At names n (own_names at 1 os) → LinkOk os from to t → Named names (link_numbers (seats n os) from to t) (link_steps at from to t)
link_named names at n os from to None a ok = absurd ok
link_named names at n os from to (Some t) a ok =
    let x = end_named names at n os a (source_class t) from ok.0 in
    let y = end_named names at n os a (target_class t) to ok.1 in
    rw (x.one, y.one) (joined_named names (end_number (seats n os) (source_class t) from) (end_number (seats n os) (target_class t) to) x.target y.target x.named y.named)

-- ---- whole diagrams

mutual
  unfolding steps_by object_steps_by steps_of object_steps

  diagram_named : (names : List Port) (at : List ℕ) (first : ℕ) (all : Objects) (outer : PortNumbers) (cnt : PortClass → ℕ) (k m n : ℕ) (os : Objects) → At names first (own_names at 1 all) → Seated names at outer → ((c : PortClass) → count outer c ≡ cnt c)
      → At names m (own_names at k os) → At names n (inside_names at k os) → DiagramOk all cnt os → Named names (steps_by (seats first all) outer (seats m os) n os) (steps_of at k os)
  diagram_named names at first all outer cnt k m n no_objects a o same own inside ok = named_nil names
  diagram_named names at first all outer cnt k m n (object p os) a o same own inside ok =
      let here = at ++ k ∷ [] in
      let one = object_named names at here first all outer cnt m n p a o same (at_left names m (object_names here p) (own_names at (k + 1) os) own) (at_left names n (inside_object here p) (inside_names at (k + 1) os) inside) ok.0 in
      let more = diagram_named names at first all outer cnt (k + 1) (past (object_seat m p)) (inside_past n p) os a o same
      (at_right names m (past (object_seat m p)) (object_names here p) (own_names at (k + 1) os) (past_object here m p) own)
      (at_right names n (inside_past n p) (inside_object here p) (inside_names at (k + 1) os) (past_inside here n p) inside) ok.1 in
      named_append names _ _ _ _ one more

  object_named : (names : List Port) (at here : List ℕ) (first : ℕ) (all : Objects) (outer : PortNumbers) (cnt : PortClass → ℕ) (m n : ℕ) (p : Object) → At names first (own_names at 1 all) → Seated names at outer → ((c : PortClass) → count outer c ≡ cnt c)
      → At names m (object_names here p) → At names n (inside_object here p) → ObjectOk all cnt p → Named names (object_steps_by (seats first all) outer (object_seat m p) n p) (object_steps at here p)
  object_named names at here first all outer cnt m n (block gui f) a o same own inside ok =
      through_named names at here outer (seat_at m f) cnt f (pass_through gui) o (object_seated names here m (block gui f) own) same (λ c. seat_counts m (block gui f) c) ok
  object_named names at here first all outer cnt m n (superblock gui f os) a o same own inside ok =
      diagram_named names here n os (seat_at m f) (ports f) 1 n (own_past n os) os (at_left names n (own_names here 1 os) (inside_names here 1 os) inside) (object_seated names here m (superblock gui f os) own)
      (λ c. seat_counts m (superblock gui f os) c) (at_left names n (own_names here 1 os) (inside_names here 1 os) inside)
      (at_right names n (own_past n os) (own_names here 1 os) (inside_names here 1 os) (past_own here 1 n os) inside) ok
  object_named names at here first all outer cnt m n (link from to kind) a o same own inside ok = link_named names at first all from to (link_type kind) a ok
  object_named names at here first all outer cnt m n text a o same own inside ok = named_nil names
  object_named names at here first all outer cnt m n deleted a o same own inside ok = named_nil names

all_of : (xs : List Port) → xs ≡ [] ++ (xs ++ [])
all_of [] = refl
all_of (x ∷ xs) = ap (λ (l : List Port). x ∷ l) (all_of xs)

pub at_whole : (names : List Port) → At names 0 names
at_whole names = record { before = []; after = []; whole = all_of names; first = refl }

pub tree_named : (t : Objects) → DiagramOk t no_ports t → Named (tree_names t) (steps_by (seats 0 t) (no_seat 0) (seats 0 t) (own_past 0 t) t) (tree_steps t)
tree_named t ok =
    let names = tree_names t in
    let own = at_left names 0 (own_names [] 1 t) (inside_names [] 1 t) (at_whole names) in
    let inside = at_right names 0 (own_past 0 t) (own_names [] 1 t) (inside_names [] 1 t) (past_own [] 1 0 t) (at_whole names) in
    diagram_named names [] 0 t (no_seat 0) no_ports 1 0 (own_past 0 t) t own (outermost_seated names) none own inside ok
  where
    none : (c : PortClass) → count (no_seat 0) c ≡ no_ports c
    none Input = refl
    none Output = refl
    none ActivationInput = refl
    none ActivationOutput = refl
