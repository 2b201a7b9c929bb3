-- What the verdict on classes says of typings.
use Rattle.std.proofs.Common.{ℕ, ℤ, pos, ◌≡◌, ◌<◌, ◌<ℤ◌, List, length, get_or, Option, Some, None, slice_get, option_map, Bool, subst, sym, refl, ap, ◌∙◌, arith, true≢false}
use Rattle.std.proofs.lemmas.Int.{ints}
use Rattle.std.proofs.lemmas.Option.{slice_get_within, get_or_from_slice_get, slice_get-get_or, same_Some}
use Rattle.std.proofs.lemmas.List.{get_or-map, length-map, get_or_default}
use Rattle.sci_infer.specs.Classes.{Tied, same, Joins, IsWithin}
use Rattle.sci_infer.specs.declared.classes.Tie.{Tie}
use Rattle.sci_infer.proofs.Trees.{Tied-trans, Tied-sym, Tied-equal, Tied-one}
use Rattle.sci_infer.specs.Values.{declared_at, Has, AreAgreed, IsVerdict, IsKnown, AreKnown}
use Rattle.sci_infer.specs.declared.values.Resolution.{Resolution}
use Rattle.sci_infer.specs.declared.values.Resolution.TheVariants.{Conflict, Open, Values}
use Rattle.sci_infer.specs.declared.parts.PortPart.{PortPart}
use Rattle.sci_infer.specs.declared.parts.What.{What}
use Rattle.sci_infer.specs.Answer.{no_part}
use Rattle.sci_infer.specs.declared.parts.What.TheVariants.{DataType, Rows, Columns}
use Rattle.sci_infer.specs.Typing.{IsAllowed, is_type, IsAt, Fits, declared_of, Decides, AreDeclaredWell, IsAlike}

allowed_alike : (a b : What) (v : ℤ) → is_type a ≡ is_type b → IsAllowed a v → IsAllowed b v
allowed_alike DataType DataType v e h = h
allowed_alike DataType Rows v e h = absurd (true≢false e)
allowed_alike DataType Columns v e h = absurd (true≢false e)
allowed_alike Rows DataType v e h = absurd (true≢false (sym e))
allowed_alike Rows Rows v e h = h
allowed_alike Rows Columns v e h = h
allowed_alike Columns DataType v e h = absurd (true≢false (sym e))
allowed_alike Columns Rows v e h = h
allowed_alike Columns Columns v e h = h

-- 3 and 4 are types, and sizes too
three_allowed : (a : What) → IsAllowed a (pos 3)
three_allowed DataType = (omega (arith, ints), omega (arith, ints))
three_allowed Rows = omega (arith, ints)
three_allowed Columns = omega (arith, ints)

four_allowed : (a : What) → IsAllowed a (pos 4)
four_allowed DataType = (omega (arith, ints), omega (arith, ints))
four_allowed Rows = omega (arith, ints)
four_allowed Columns = omega (arith, ints)

three≢four : pos 3 ≡ pos 4 → ⊥
three≢four e = absurd (omega (arith, ints))

abbrev pub or_else : ℤ → Option ℤ → ℤ
or_else x None = x
or_else x (Some v) = v

abbrev pub kind_at : List PortPart → ℕ → Option Bool
kind_at parts i = option_map (λ (p : PortPart). is_type p.what) (slice_get parts i)

module _ (parts : List PortPart) (joins : ℕ → ℕ → Type 0) (well : AreDeclaredWell parts) (alike : (i j : ℕ) → joins i j → IsAlike parts i j) where
  long : length (declared_of parts) ≡ length parts
  long = length-map parts (λ (p : PortPart). p.declared)

  declared_here : (i : ℕ) (p : PortPart) → IsAt parts i p → declared_at (declared_of parts) i ≡ p.declared
  declared_here i p e = get_or-map (λ (q : PortPart). q.declared) parts i p (pos 0) (slice_get_within parts i p e) ∙ ap (λ (q : PortPart). q.declared) (get_or_from_slice_get parts i p p e)

  there : (i : ℕ) → i < length (declared_of parts) → IsAt parts i (get_or parts i no_part)
  there i h = slice_get-get_or parts i no_part (let l = long in omega (arith, h, l))

  -- a fitting typing gives the declared number of a class
  fits_has : (t : ℕ → ℤ) → Fits parts joins t → (i : ℕ) (v : ℤ) → Has joins (declared_of parts) i v → t i ≡ v
  fits_has t fits i v h =
      let p : PortPart = get_or parts h.at no_part in
      let e : IsAt parts h.at p = there h.at h.within in
      let is : p.declared ≡ v = sym (declared_here h.at p e) ∙ h.declares in
      Tied-equal joins t fits.agree h.tied ∙ (fits.kept h.at p e (subst (λ x. pos 0 <ℤ x) (sym is) h.positive) ∙ is)

  same_kind_at : {i j : ℕ} → Tied joins i j → kind_at parts i ≡ kind_at parts j
  same_kind_at d =
      Tied-equal joins (kind_at parts) (λ a b s. let k = alike a b s in
      ap (option_map (λ (p : PortPart). is_type p.what)) k.at_left ∙ (ap Some k.same_kind ∙ sym (ap (option_map (λ (p : PortPart). is_type p.what)) k.at_right))) d

  has_allowed : (i : ℕ) (p : PortPart) (v : ℤ) → IsAt parts i p → Has joins (declared_of parts) i v → IsAllowed p.what v
  has_allowed i p v e h =
      let q : PortPart = get_or parts h.at no_part in
      let f : IsAt parts h.at q = there h.at h.within in
      let is : q.declared ≡ v = sym (declared_here h.at q f) ∙ h.declares in
      let g : Option PortPart → Option Bool = option_map (λ (r : PortPart). is_type r.what) in
      let kind : is_type p.what ≡ is_type q.what = same_Some (is_type p.what) (is_type q.what) (sym (ap g e) ∙ (same_kind_at h.tied ∙ ap g f)) in
      allowed_alike q.what p.what v (sym kind) (subst (IsAllowed q.what) is (well h.at q f (subst (λ x. pos 0 <ℤ x) (sym is) h.positive)))

  has_forth : (i j : ℕ) (v : ℤ) → joins i j → Has joins (declared_of parts) j v → Has joins (declared_of parts) i v
  has_forth i j v s h = record { at = h.at; within = h.within; tied = Tied-trans joins (Tied-one joins s) h.tied; declares = h.declares; positive = h.positive }

  has_back : (i j : ℕ) (v : ℤ) → joins i j → Has joins (declared_of parts) i v → Has joins (declared_of parts) j v
  has_back i j v s h = record { at = h.at; within = h.within; tied = Tied-trans joins (Tied-sym joins (Tied-one joins s)) h.tied; declares = h.declares; positive = h.positive }

  has_own : (i : ℕ) (p : PortPart) → IsAt parts i p → pos 0 <ℤ p.declared → Has joins (declared_of parts) i p.declared
  has_own i p e positive =
      record { at = i; within = let w = slice_get_within parts i p e in let l = long in omega (arith, w, l); tied = same; declares = declared_here i p e; positive = positive }

  inside : (i : ℕ) (p : PortPart) → IsAt parts i p → i < length (declared_of parts)
  inside i p e = let w = slice_get_within parts i p e in let l = long in omega (arith, w, l)

  module _ (agreed : AreAgreed joins (declared_of parts) (length (declared_of parts))) (x : ℤ) (ok : (a : What) → IsAllowed a x) where
    allowed_one : (i : ℕ) (p : PortPart) → IsAt parts i p → (o : Option ℤ) → IsKnown joins (declared_of parts) i o → IsAllowed p.what (or_else x o)
    allowed_one i p e None k = ok p.what
    allowed_one i p e (Some v) k = has_allowed i p v e k

    kept_one : (i : ℕ) (p : PortPart) → IsAt parts i p → pos 0 <ℤ p.declared → (o : Option ℤ) → IsKnown joins (declared_of parts) i o → or_else x o ≡ p.declared
    kept_one i p e positive None k = absurd (k p.declared (has_own i p e positive))
    kept_one i p e positive (Some v) k = agreed i (inside i p e) v p.declared k (has_own i p e positive)

    agree_one : (i j : ℕ) → joins i j → (o q : Option ℤ) → IsKnown joins (declared_of parts) i o → IsKnown joins (declared_of parts) j q → or_else x o ≡ or_else x q
    agree_one i j s None None k l = refl
    agree_one i j s None (Some w) k l = absurd (k w (has_forth i j w s l))
    agree_one i j s (Some v) None k l = absurd (l v (has_back i j v s k))
    agree_one i j s (Some v) (Some w) k l = let a = alike i j s in agreed i (inside i a.left a.at_left) v w k (has_forth i j w s l)

    -- each class at its declared number, and each open one at x
    known_fits : (known : ℕ → Option ℤ) → AreKnown joins (declared_of parts) known → Fits parts joins (λ i. or_else x (known i))
    known_fits known are =
        record {
          allowed = λ i p e. allowed_one i p e (known i) (are i (inside i p e));
          kept = λ i p e positive. kept_one i p e positive (known i) (are i (inside i p e));
          agree = λ i j s. let a = alike i j s in agree_one i j s (known i) (known j) (are i (inside i a.left a.at_left)) (are j (inside j a.right a.at_right));
        }

  differ_one : (i : ℕ) (o : Option ℤ) → IsKnown joins (declared_of parts) i o → ((v : ℤ) → Has joins (declared_of parts) i v → ⊥) → or_else (pos 3) o ≡ or_else (pos 4) o → ⊥
  differ_one i None k free e = three≢four e
  differ_one i (Some v) k free e = free v k

  pub inferred : (v : Resolution) → IsVerdict joins (declared_of parts) v → Decides parts joins v
  inferred (Conflict at s) h = (
    (λ t fits. h.1.differ (sym (fits_has t fits at s.least h.1.least) ∙ fits_has t fits at s.greatest h.1.greatest)),
    (let w = h.0 in let l = long in omega (arith, w, l)),
    h.1,
    h.2,
  )
  inferred (Open at) h =
      let known : ℕ → Option ℤ = h.4.0 in (
        (let w = h.0 in let l = long in omega (arith, w, l)),
        record {
          one = λ i. or_else (pos 3) (known i);
          other = λ i. or_else (pos 4) (known i);
          one_fits = known_fits h.2 (pos 3) three_allowed known h.4.1;
          other_fits = known_fits h.2 (pos 4) four_allowed known h.4.1;
          differ = λ e. differ_one at (known at) (h.4.1 at h.0) h.1 e;
        },
        λ i l t u ft fu. let v = h.3 i l in fits_has t ft i v.0 v.1 ∙ sym (fits_has u fu i v.0 v.1),
      )
  inferred (Values vs) h = (
    h.0 ∙ long,
    record {
      fits = known_fits h.1 (pos 3) three_allowed (λ i. Some (declared_at vs.items i)) h.2;
      only = λ u fu i l. fits_has u fu i (declared_at vs.items i) (h.2 i (let n = long in omega (arith, l, n)));
    },
  )

pub ties_within : (parts : List PortPart) (ties : List Tie) → ((i j : ℕ) → Joins ties i j → IsAlike parts i j) → (k : ℕ) (d : Tie) → k < length ties → IsWithin (length (declared_of parts)) (get_or ties k d)
ties_within parts ties alike k d h =
    let tie : Tie = get_or ties k d in
    let a = alike tie.left tie.right (k, h, get_or_default ties k tie d h) in
    let l = length-map parts (λ (p : PortPart). p.declared) in
    let wl = slice_get_within parts tie.left a.left a.at_left in
    let wr = slice_get_within parts tie.right a.right a.at_right in
    record { left = omega (arith, wl, l); right = omega (arith, wr, l) }
