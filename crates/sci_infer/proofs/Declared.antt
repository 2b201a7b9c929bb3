-- What a flat net declares is allowed.
use Rattle.std.proofs.Common.{◌≡◌, ℕ, zero, suc, ◌+◌, ◌<◌, ℤ, pos, ◌<ℤ◌, ◌≤ℤ◌, ◌⊎◌, inl, inr, ⊎_elim, Bool, true, false, ◌||◌, List, [], ◌∷◌, length, get_or, All, refl, ap, ◌∙◌, ◌^◌, subst, arith}
use Rattle.std.specs.Prelude.{int_lt}
use Rattle.std.specs.Int.{int_min}
use Rattle.std.proofs.lemmas.Int.{ints, clamps}
use Rattle.std.proofs.lemmas.List.{get_or_default}
use Rattle.std.proofs.lemmas.Option.{slice_get_within, same_Some}
use Rattle.sci_forms.proofs.TestLemmas.{int_le_told, int_lt_told}
use Rattle.sci_forms.specs.declared.ports.Port.{Port}
use Rattle.sci_forms.specs.declared.spec.Spec.{Spec}
use Rattle.sci_forms.specs.Forms.{between}
use Rattle.sci_net.specs.Parts.{Parts, no_spec}
use Rattle.sci_net.specs.Flat.{IsFlat, is_declared, AreDeclared}
use Rattle.sci_infer.specs.declared.parts.PortPart.{PortPart}
use Rattle.sci_infer.specs.declared.parts.Side.{Side}
use Rattle.sci_infer.specs.declared.parts.Side.TheVariants.{Input, Output}
use Rattle.sci_infer.specs.declared.parts.What.{What}
use Rattle.sci_infer.specs.declared.parts.What.TheVariants.{DataType, Rows, Columns}
use Rattle.sci_infer.specs.Typing.{IsAllowed, IsAt, AreDeclaredWell, Fits, IsTheTyping}
use Rattle.sci_infer.specs.PortParts.{side_parts, block_parts, parts_from, parts_in}
use Rattle.sci_infer.proofs.Few.{left, right}
use Rattle.sci_infer.proofs.Places.{at_cases}

either : (a b : Bool) → (a || b) ≡ true → (a ≡ true) ⊎ (b ≡ true)
either true b h = inl refl
either false b h = inr h

type_allowed : (v : ℤ) → (int_lt v (pos 0) || between (pos 3) (pos 8) v) ≡ true → pos 0 <ℤ v → (pos 3 ≤ℤ v) × (v ≤ℤ pos 8)
type_allowed v h positive =
    ⊎_elim
    (λ l. absurd (let low = int_lt_told v (pos 0) l in omega (arith, ints)))
    (λ r. (int_le_told (pos 3) v (left _ _ r), int_le_told v (pos 8) (right _ _ r)))
    (either (int_lt v (pos 0)) (between (pos 3) (pos 8) v) h)

size_allowed : (v : ℤ) → pos 0 <ℤ v → pos 1 ≤ℤ v
size_allowed v h = omega (arith, ints)

-- what holds of the three parts of each declared port holds of all parts
module _ (P : PortPart → Type 0)
    (port : (b : ℕ) (s : Side) (k : ℕ) (q : Port) → is_declared q ≡ true
    → P (record { block = b; side = s; port = k; what = DataType; declared = q.ty })
    × P (record { block = b; side = s; port = k; what = Rows; declared = q.rows })
    × P (record { block = b; side = s; port = k; what = Columns; declared = q.cols })) where
  side_all : (b : ℕ) (s : Side) (k : ℕ) (ps : List Port) → All (λ (p : Port). is_declared p ≡ true) ps → (i : ℕ) (p : PortPart) → IsAt (side_parts b s k ps) i p → P p
  side_all b s k [] all i p h = absurd (let w = slice_get_within [] i p h in omega (arith, w))
  side_all b s k (q ∷ ps) all zero p h =
      subst P (same_Some (record { block = b; side = s; port = k; what = DataType; declared = q.ty }) p h) (port b s k q (all 0 q (omega arith))).0
  side_all b s k (q ∷ ps) all (suc zero) p h =
      subst P (same_Some (record { block = b; side = s; port = k; what = Rows; declared = q.rows }) p h) (port b s k q (all 0 q (omega arith))).1
  side_all b s k (q ∷ ps) all (suc (suc zero)) p h =
      subst P (same_Some (record { block = b; side = s; port = k; what = Columns; declared = q.cols }) p h) (port b s k q (all 0 q (omega arith))).2
  side_all b s k (q ∷ ps) all (suc (suc (suc i))) p h = side_all b s (k + 1) ps (λ j d l. all (suc j) d (omega arith)) i p h

  all_of : (b : ℕ) (ss : List Spec) → ((k : ℕ) (d : Spec) → k < length ss → AreDeclared (get_or ss k d)) → (i : ℕ) (p : PortPart) → IsAt (parts_from b ss) i p → P p
  all_of b [] all i p h = absurd (let w = slice_get_within [] i p h in omega (arith, w))
  all_of b (s ∷ ss) all i p h =
      let here = all 0 s (omega arith) in
      ⊎_elim
      (λ l. ⊎_elim
      (λ m. side_all b Input 1 s.ins here.0 i p m)
      (λ m. side_all b Output 1 s.outs here.1 m.0 p m.2)
      (at_cases (side_parts b Input 1 s.ins) (side_parts b Output 1 s.outs) i p l))
      (λ r. all_of (b + 1) ss (λ j d l. all (suc j) d (omega arith)) r.0 p r.2)
      (at_cases (block_parts b s) (parts_from (b + 1) ss) i p h)

  of_flat : (n : Parts) → IsFlat n → (i : ℕ) (p : PortPart) → IsAt (parts_in n) i p → P p
  of_flat n flat i p h =
      all_of 1 n.specs
      (λ k d l. subst AreDeclared (get_or_default n.specs k no_spec d l) (flat.declared (suc k) (record { least = omega arith; most = omega arith })))
      i p h

pub declared_well : (n : Parts) → IsFlat n → AreDeclaredWell (parts_in n)
declared_well n flat i p h =
    of_flat (λ (q : PortPart). pos 0 <ℤ q.declared → IsAllowed q.what q.declared)
    (λ b s k q d. (type_allowed q.ty (left _ _ (left _ _ d)), size_allowed q.rows, size_allowed q.cols))
    n flat i p h

type_below : (v : ℤ) → (int_lt v (pos 0) || between (pos 3) (pos 8) v) ≡ true → v ≤ℤ pos 2147483647
type_below v h =
    ⊎_elim
    (λ l. let low = int_lt_told v (pos 0) l in omega (arith, ints))
    (λ r. let high = int_le_told v (pos 8) (right _ _ r) in omega (arith, ints))
    (either (int_lt v (pos 0)) (between (pos 3) (pos 8) v) h)

size_below : (v : ℤ) → int_lt v (pos (2 ^ 31)) ≡ true → v ≤ℤ pos 2147483647
size_below v h = let low = int_lt_told v (pos 2147483648) h in omega (arith, ints)

pub declared_below : (n : Parts) → IsFlat n → (i : ℕ) (p : PortPart) → IsAt (parts_in n) i p → p.declared ≤ℤ pos 2147483647
declared_below n flat i p h =
    of_flat (λ (q : PortPart). q.declared ≤ℤ pos 2147483647)
    (λ b s k q d. (type_below q.ty (left _ _ (left _ _ d)), size_below q.rows (right _ _ (left _ _ d)), size_below q.cols (right _ _ d)))
    n flat i p h

-- ---- the one typing is bounded by the declared numbers

cap : ℤ → ℤ
cap v = int_min v (pos 2147483647)

cap_allowed : (w : What) (v : ℤ) → IsAllowed w v → IsAllowed w (cap v)
unfolding cap
cap_allowed DataType v h = let low = h.0 in let high = h.1 in (omega (arith, ints, clamps), omega (arith, ints, clamps))
cap_allowed Rows v h = omega (arith, ints, clamps)
cap_allowed Columns v h = omega (arith, ints, clamps)

cap_same : (v : ℤ) → v ≤ℤ pos 2147483647 → cap v ≡ v
unfolding cap
cap_same v h = omega (arith, ints, clamps)

cap_below : (v : ℤ) → cap v ≤ℤ pos 2147483647
unfolding cap
cap_below v = omega (arith, ints, clamps)

pub typing_below : (n : Parts) → IsFlat n → (joins : ℕ → ℕ → Type 0) (t : ℕ → ℤ) → IsTheTyping (parts_in n) joins t → (i : ℕ) → i < length (parts_in n) → t i ≤ℤ pos 2147483647
typing_below n flat joins t the i h =
    let capped : Fits (parts_in n) joins (λ j. cap (t j)) = record {
      allowed = λ j p at. cap_allowed p.what (t j) (the.fits.allowed j p at);
      kept = λ j p at positive.
          let same = the.fits.kept j p at positive in
          ap cap same ∙ cap_same p.declared (declared_below n flat j p at);
      agree = λ j k tied. ap cap (the.fits.agree j k tied);
    } in
    subst (λ (v : ℤ). v ≤ℤ pos 2147483647) (the.only (λ j. cap (t j)) capped i h) (cap_below (t i))
