-- Sensors: what their columns have.
use Rattle.std.proofs.Common.{◌≡◌, ℕ, ◌<◌, ℤ, true, false, List, [], ◌∷◌, Option, Some, None, Contains, refl, sym, ap, subst, ◌∙◌, arith, true≢false}
use Rattle.std.specs.Prelude.{unwrap_or}
use Rattle.sci_base.specs.declared.Ty.{Ty}
use Rattle.sci_base.specs.Fit.{InRange, low, high}
use Rattle.sci_base.specs.Lists.{at}
use Rattle.sci_forms.specs.declared.Kind.{Kind}
use Rattle.sci_forms.specs.declared.Kind.TheVariants.{Sensor, Select, Dollar, Register, ModuloCount, GatedDelay}
use Rattle.sci_forms.specs.declared.spec.Spec.{Spec}
use Rattle.sci_forms.specs.Form.{is_sensor, is_sync}
use Rattle.sci_forms.specs.Ports.{total, Fills}
use Rattle.sci_forms.specs.Words.{out_type, state_len_of}
use Rattle.sci_kinds.specs.Asks.{Asks, entering_of}
use Rattle.sci_kinds.proofs.Elements.{total_one, type_at_alike}
use Rattle.sci_net.specs.Parts.{Parts, IsSensor, numbered, spec_of, column_of}
use Rattle.sci_reaction.specs.Memory.{Columns, AreColumns}
use Rattle.sci_reaction.proofs.Lists.{cons-Contains}
use Rattle.sci_ranges_base.specs.declared.interval.Interval.{Interval}
use Rattle.sci_ranges_base.specs.Intervals.{IsIn, one, whole, join}
use Rattle.sci_ranges_base.proofs.Numbers.{min_below, max_above, below_min, above_max, le_along}
use Rattle.sci_ranges.specs.Columns.{spanned, sensed_range, KeepWithin}

pub entering_outs : (k : Kind) (s : Spec) → is_sensor k ≡ true → entering_of k s ≡ s.outs
entering_outs Sensor s e = refl
entering_outs _ s e = absurd (true≢false (sym e))

pub sensor_asks : (k : Kind) (s : Spec) → is_sensor k ≡ true → Asks k s → Asks Sensor s
sensor_asks Sensor s e a = a
sensor_asks _ s e a = absurd (true≢false (sym e))

-- a sensor has one element
pub sensor_total : (s : Spec) → Asks Sensor s → total s.outs ≡ 1
sensor_total s a = total_one s.outs (out_type s) _ a.0.outs_alike a.0.one ∙ a.1

-- one value in range fills a sensor's output
pub one_value : (s : Spec) → Asks Sensor s → (v : ℤ) → InRange (out_type s) v → Fills s.outs (v ∷ [])
one_value s a v h =
    let one : total s.outs ≡ 1 = sensor_total s a in
    record {
      enough = sym one;
      in_range = λ e l.
          let first : e ≡ 0 = omega (arith, l, one) in
          let read : at (v ∷ []) e ≡ v = ap (λ i. at (v ∷ []) i) first in
          subst (λ t. InRange t (at (v ∷ []) e)) (sym (type_at_alike s.outs (out_type s) _ a.0.outs_alike e l)) (subst (InRange (out_type s)) (sym read) h);
    }

-- a kind that has a state is neither a sensor nor a SELECT_m
pub stateful : (c : Kind) (s : Spec) (k : ℕ) → k < state_len_of c s → (is_sensor c ≡ false) × (c ≡ Select → ⊥)
stateful Dollar s k h = (refl, λ z. cc)
stateful Register s k h = (refl, λ z. cc)
stateful ModuloCount s k h = (refl, λ z. cc)
stateful GatedDelay s k h = (refl, λ z. cc)
stateful _ s k h = absurd (omega (arith, h))

-- and neither is one that chooses a branch
pub sync_other : (c : Kind) → is_sync c ≡ true → c ≡ Select → ⊥
sync_other c h e = true≢false (sym (subst (λ k. is_sync k ≡ true) e h))

-- ---- the range of a column is one of its type

-- both ends are of the type
abbrev AreEnds : Ty → Option Interval → Type 0
AreEnds t None = Unit {0}
AreEnds t (Some i) = InRange t i.least × InRange t i.greatest

joined_ends : (t : Ty) (v : ℤ) (o : Option Interval) → InRange t v → AreEnds t o → AreEnds t (join (Some (one v)) o)
joined_ends t v None h k = (h, h)
joined_ends t v (Some i) h k = (
  record { above = below_min v i.least (low t) h.above k.0.above; below = le_along _ _ _ (min_below v i.least).0 h.below },
  record { above = le_along _ _ _ h.above (max_above v i.greatest).0; below = above_max v i.greatest (high t) h.below k.1.below },
)

spanned_ends : (t : Ty) (vs : List ℤ) → ((v : ℤ) → Contains vs v → InRange t v) → AreEnds t (spanned vs)
spanned_ends t [] h = tt
spanned_ends t (v ∷ vs) h = joined_ends t v (spanned vs) (h v (0, omega arith, refl)) (spanned_ends t vs (λ w c. h w (cons-Contains v vs w c)))

within_ends : (t : Ty) (o : Option Interval) (v : ℤ) → AreEnds t o → IsIn (unwrap_or o (whole t)) v → InRange t v
within_ends t None v k h = record { above = h.above; below = h.below }
within_ends t (Some i) v k h = record { above = le_along _ _ _ k.0.above h.above; below = le_along _ _ _ h.below k.1.below }

pub sensed_in_type : (n : Parts) (i : Columns) (b : ℕ) (v : ℤ) → AreColumns n i → IsSensor n b → IsIn (sensed_range i (spec_of n b)) v → InRange (out_type (spec_of n b)) v
sensed_in_type n i b v columns sensor h =
    within_ends (out_type (spec_of n b)) (spanned (numbered [] i (column_of (spec_of n b)))) v
    (spanned_ends (out_type (spec_of n b)) (numbered [] i (column_of (spec_of n b))) (columns b sensor)) h

-- columns that keep within those of a file in range are in range
pub keep_in_type : (n : Parts) (i j : Columns) → AreColumns n i → KeepWithin n i j → AreColumns n j
keep_in_type n i j columns keeps b sensor v c = sensed_in_type n i b v columns sensor (keeps b sensor v c)
