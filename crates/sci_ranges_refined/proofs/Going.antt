-- A value and a part of what another one has over it.
use Rattle.std.proofs.Common.{◌≡◌, ℕ, zero, suc, ◌+◌, ℤ, ◌+ℤ◌, ◌-ℤ◌, ◌≤ℤ◌, ⊎_elim, Option, Some, None, refl, sym, ap, subst, ◌∙◌, arith}
use Rattle.std.proofs.lemmas.Int.{ints, clamps}
use Rattle.std.specs.Int.{int_min, int_max}
use Rattle.sci_forms.specs.Words.{size}
use Rattle.sci_kinds.specs.Table.{input}
use Rattle.sci_ranges_base.specs.declared.interval.Interval.{Interval}
use Rattle.sci_ranges_base.specs.Intervals.{IsInSome, join}
use Rattle.sci_ranges_rules.specs.Words.{input_range}
use Rattle.sci_ranges_refined.specs.Sums.{exact_sum, LiesBetween, IsPartOf, subtracted, either_input}
use Rattle.sci_ranges_refined.specs.Laws.{GoesBetween}
use Rattle.sci_ranges_refined.proofs.Adding.{input_within, added_two, two_inputs, difference_is}

-- ---- numbers

towards : (x u t : ℤ) → IsPartOf (u -ℤ x) t → LiesBetween x u (x +ℤ t)
towards x u t h = record { above = omega (arith, ints, clamps, h.above, h.below); below = omega (arith, ints, clamps, h.above, h.below) }

other_way : (a b v : ℤ) → LiesBetween a b v → LiesBetween b a v
other_way a b v h = record { above = omega (arith, ints, clamps, h.above, h.below); below = omega (arith, ints, clamps, h.above, h.below) }

joined_between : (o p : Option Interval) (a b v : ℤ) → IsInSome o a → IsInSome p b → LiesBetween a b v → IsInSome (join o p) v
joined_between None p a b v h k l = absurd h
joined_between (Some i) None a b v h k l = absurd k
joined_between (Some i) (Some j) a b v h k l = record {
  above = least i.least j.least h.above k.above l.above;
  below = greatest i.greatest j.greatest h.below k.below l.below;
}
  where
    least : (c d : ℤ) → c ≤ℤ a → d ≤ℤ b → int_min a b ≤ℤ v → int_min c d ≤ℤ v
    least c d f g m = omega (arith, ints, clamps)

    greatest : (c d : ℤ) → a ≤ℤ c → b ≤ℤ d → v ≤ℤ int_max a b → v ≤ℤ int_max c d
    greatest c d f g m = omega (arith, ints, clamps)

-- two inputs, in either order
either_order : (k j : ℕ) → k + j ≡ 1 → (f : ℕ → ℤ) → f 0 +ℤ f 1 ≡ f k +ℤ f j
either_order zero j h f = let e : 1 ≡ j = omega (arith, h) in ap (λ i. f 0 +ℤ f i) e
either_order (suc zero) j h f = let e : 0 ≡ j = omega (arith, h) in turned (f 0) (f 1) ∙ ap (λ i. f 1 +ℤ f i) e
  where
    turned : (a b : ℤ) → a +ℤ b ≡ b +ℤ a
    turned a b = omega (arith, ints)
either_order (suc (suc k)) j h f = absurd (omega (arith, h))

-- ---- sums

pub goes_between : GoesBetween
goes_between s d us u w k j e typed adds takes within q pair same part =
    let t = two_inputs d takes in
    let a : ℤ = input (size d) w 0 e in
    let b : ℤ = input (size d) w 1 e in
    let v : ℤ = input (size s) u j e in
    let first : IsInSome (input_range (size d) us 0 e) a = input_within d us w 0 e typed t.0 within (omega (arith, t.1)) q in
    let second : IsInSome (input_range (size d) us 1 e) b = input_within d us w 1 e typed t.0 within (omega (arith, t.1)) q in
    subst (IsInSome (either_input d us e)) (sym (added_two s u e adds ∙ either_order k j pair (λ i. input (size s) u i e)))
    (⊎_elim
    (λ r. let x : b ≡ input (size s) u k e = sym (same ∙ ap (λ i. input (size d) w i e) r.0) in
    joined_between (input_range (size d) us 0 e) (input_range (size d) us 1 e) a b (input (size s) u k e +ℤ v) first second
    (subst (λ z. LiesBetween a b (z +ℤ v)) x (other_way b a (b +ℤ v) (towards b a v (subst (λ z. IsPartOf z v) r.1 part)))))
    (λ r. let x : a ≡ input (size s) u k e = sym (same ∙ ap (λ i. input (size d) w i e) r.0) in
    joined_between (input_range (size d) us 0 e) (input_range (size d) us 1 e) a b (input (size s) u k e +ℤ v) first second
    (subst (λ z. LiesBetween a b (z +ℤ v)) x (towards a b v (subst (λ z. IsPartOf z v) r.1 part))))
    (difference_is d w e typed takes))
