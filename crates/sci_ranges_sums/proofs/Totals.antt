-- Intervals of exact values, as code has them.
use Rattle.std.proofs.Common.{◌≡◌, ◌≢◌, ℕ, ℤ, false, true, nat_eq, List, Option, Some, refl, ap, ◌∙◌, arith}
use Rattle.std.proofs.lemmas.Bool.Decides.{nat_tests}
use Rattle.std.specs.Prelude.{option_map}
use Rattle.sci_forms.specs.declared.spec.Spec.{Spec}
use Rattle.sci_forms.specs.Words.{size}
use Rattle.sci_ranges_base.specs.declared.interval.Interval.{Interval}
use Rattle.sci_ranges_base.specs.Intervals.{HasEnds, from_to, at_ends}
use Rattle.sci_ranges_base.proofs.Numbers.{le_along}
use Rattle.sci_ranges_rules.specs.Words.{input_range}
use Rattle.sci_ranges_refined.specs.Sums.{left_over, leaking_input}

-- ends within an interval whose ends are numbers of w
pub ends_along : (w i k : Interval) → HasEnds w i → HasEnds i k → HasEnds w k
ends_along w i k h l = record {
  least = record { above = le_along _ _ _ h.least.above l.least.above; below = le_along _ _ _ l.least.below h.greatest.below };
  greatest = record { above = le_along _ _ _ h.least.above l.greatest.above; below = le_along _ _ _ l.greatest.below h.greatest.below };
}

pub both_left : (places : ℕ) (i : Interval) (a b : ℤ) → a ≡ left_over places i.least → b ≡ left_over places i.greatest → from_to a b ≡ at_ends (left_over places) i
both_left places i a b e f = rw (e, f) refl

other_no : (a b : ℕ) → a ≢ b → nat_eq a b ≡ false
other_no a b h = grind (arith, nat_tests)

equal_yes : (a b : ℕ) → a ≡ b → nat_eq a b ≡ true
equal_yes a b h = grind (arith, nat_tests)

-- the input that is kept
pub kept_input : (s : Spec) (k l places : ℕ) (us : List (Option Interval)) (e j : ℕ) (i r : Interval) → j ≢ l → j ≡ k → Some i ≡ input_range (size s) us j e
    → r ≡ at_ends (left_over places) i → Some r ≡ leaking_input s k l places us e j
kept_input s k l places us e j i r f g is h = rw (other_no j l f, equal_yes j k g) (ap Some h ∙ ap (option_map (at_ends (left_over places))) is)
