-- What more is told of sums than by the intervals of their inputs one by one: sums that go towards a value, and sums that leak.
use Rattle.std.specs.Prelude.{◌≡◌, ℕ, ◌+◌, ◌^◌, ℤ, pos, negsuc, ◌-ℤ◌, ◌*ℤ◌, ◌≤ℤ◌, int_lt, int_le, nat_eq, nat_lt, not, Bool, true, false, ◌&&◌, ◌||◌, if◌then◌else◌, List, length, Option, Some, option_map, unsigned_abs}
use Rattle.std.specs.Int.{int_min, int_max, int_div_euclid}
use Rattle.sci_base.specs.Fit.{int_eq}
use Rattle.sci_forms.specs.declared.Kind.{Kind}
use Rattle.sci_forms.specs.declared.Kind.TheVariants.{Summation, Saturation, DeadBand, Shift, SampHold}
use Rattle.sci_forms.specs.declared.spec.Spec.{Spec}
use Rattle.sci_forms.specs.Words.{param, out_type, size}
use Rattle.sci_kinds.specs.Table.{sum_to, input}
use Rattle.sci_ranges_base.specs.declared.interval.Interval.{Interval}
use Rattle.sci_ranges_base.specs.declared.cells.Cells.{Cells}
use Rattle.sci_ranges_base.specs.Intervals.{one, whole, within, join, times, at_ends}
use Rattle.sci_ranges_base.specs.Cells.{on_some}
use Rattle.sci_ranges_rules.specs.Words.{input_range, sums}
use Rattle.sci_ranges_rules.specs.Rules.{exact_sums, fitted_out}

-- ---- sums

abbrev pub is_sum : Kind → Bool
is_sum Summation = true
is_sum _ = false

-- the exact sum at an element: of the inputs, each with its sign
abbrev pub exact_sum : Spec → List ℤ → ℕ → ℤ
exact_sum s u e = sum_to (λ k. param s (k + 1) *ℤ input (size s) u k e) (length s.ins)

-- what a sum may be whose exact values lie in an interval
abbrev pub sum_cells : Spec → Option Interval → Cells
sum_cells s o = on_some (fitted_out s) o

-- an element of a sum doesn't wrap: the sum never does, or all exact values are of its type
abbrev pub never_wraps : Spec → List (Option Interval) → ℕ → Bool
never_wraps s us e = not (int_eq (param s 0) (pos 0)) || within (exact_sums s us e) (Some (whole (out_type s)))

abbrev pub keeps_sum : Spec → List (Option Interval) → ℕ → Bool
keeps_sum s us e = is_sum s.kind && (nat_lt e (size s) && never_wraps s us e)

-- ---- parts

-- v lies between a and b, whichever of them is the lesser
pub record LiesBetween (a b v : ℤ) : Type 0 where
  pub above : int_min a b ≤ℤ v
  pub below : v ≤ℤ int_max a b

-- v is a part of d: it lies between 0 and d
abbrev pub IsPartOf : ℤ → ℤ → Type 0
IsPartOf d v = LiesBetween (pos 0) d v

-- the parameters of a SHIFT say: to the right, without turning
abbrev pub goes_right : Spec → Bool
goes_right s = int_lt (param s 0) (pos 0) && int_eq (param s 1) (pos 0)

-- a block of the kind shows a part of what its input has: a saturation and a dead band around 0, a shift to the right, a sample and hold
abbrev pub shrinks_of : Kind → Spec → Bool
shrinks_of Saturation s = int_le (param s 0) (pos 0) && int_le (pos 0) (param s 1)
shrinks_of DeadBand s = int_le (param s 1) (pos 0) && int_le (pos 0) (param s 2)
shrinks_of Shift s = goes_right s
shrinks_of SampHold s = true
shrinks_of _ s = false

abbrev pub shrinks : Spec → Bool
shrinks s = shrinks_of s.kind s

-- ---- towards: x + t, where t is a part of u - x, lies between x and u

-- two inputs are added
abbrev pub adds_two : Spec → Bool
adds_two s = is_sum s.kind && (nat_eq (length s.ins) 2 && (int_eq (param s 1) (pos 1) && int_eq (param s 2) (pos 1)))

-- of two inputs one is subtracted from the other
abbrev pub takes_difference : Spec → Bool
takes_difference s = is_sum s.kind && (nat_eq (length s.ins) 2 && not (int_eq (param s 1) (param s 2)))

-- the one that is subtracted, counted from 0
abbrev pub subtracted : Spec → ℕ
subtracted s = if int_eq (param s 1) (pos 1) then 1 else 0

-- what either of two inputs has
abbrev pub either_input : Spec → List (Option Interval) → ℕ → Option Interval
either_input s us e = join (input_range (size s) us 0 e) (input_range (size s) us 1 e)

-- ---- leaking: x less x shifted to the right never falls with x

-- what is left of v, where v shifted right by so many places is taken from it
abbrev pub left_over : ℕ → ℤ → ℤ
left_over places v = v -ℤ int_div_euclid v (pos (2 ^ places))

-- Of a sum that adds what input k has, and subtracts that shifted right, which input l has: what input j adds, where those of k and l are one.
abbrev pub leaking_input : Spec → (k l places : ℕ) → List (Option Interval) → (e j : ℕ) → Option Interval
leaking_input s k l places us e j =
    if nat_eq j l then Some (one (pos 0)) else
    if nat_eq j k then option_map (at_ends (left_over places)) (input_range (size s) us j e) else input_range (size s) us j e

abbrev pub leaking_term : Spec → (k l places : ℕ) → List (Option Interval) → (e j : ℕ) → Option Interval
leaking_term s k l places us e j = option_map (times (param s (j + 1))) (leaking_input s k l places us e j)

abbrev pub leaking_sums : Spec → (k l places : ℕ) → List (Option Interval) → ℕ → Option Interval
leaking_sums s k l places us e = sums (leaking_term s k l places us e) (length s.ins)

-- a block shifts its input to the right, by so many places
abbrev pub shifts_of : Kind → Spec → Bool
shifts_of Shift s = goes_right s
shifts_of _ s = false

abbrev pub shifts_right : Spec → Bool
shifts_right s = shifts_of s.kind s

abbrev pub places_of : Spec → ℕ
places_of s = unsigned_abs (param s 0)

-- the sum adds input k and subtracts input l, both counted from 0
pub record AddsAndSubtracts (s : Spec) (k l : ℕ) : Type 0 where
  pub added : int_eq (param s (k + 1)) (pos 1) ≡ true
  pub taken : int_eq (param s (l + 1)) (negsuc 0) ≡ true
