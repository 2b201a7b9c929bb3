-- What more is told of a SWITCH2_m: where it takes an input, what its condition says of that.
use Rattle.std.specs.Prelude.{ℕ, ◌+◌, ℤ, pos, ◌+ℤ◌, ◌-ℤ◌, not, Bool, true, false, if◌then◌else◌, length, Option, Some, None, option_map}
use Rattle.std.specs.Int.{int_min, int_max}
use Rattle.sci_base.specs.Fit.{int_eq}
use Rattle.sci_forms.specs.declared.Kind.{Kind}
use Rattle.sci_forms.specs.declared.Kind.TheVariants.{RelationalOp, Switch2}
use Rattle.sci_forms.specs.declared.spec.Spec.{Spec}
use Rattle.sci_forms.specs.Words.{param}
use Rattle.sci_kinds.specs.Table.{switches}
use Rattle.sci_ranges_base.specs.declared.interval.Interval.{Interval}
use Rattle.sci_ranges_base.specs.Intervals.{one, met, between, times}
use Rattle.sci_ranges_rules.specs.Words.{sums}

-- ---- which input is taken

abbrev pub is_switch : Kind → Bool
is_switch Switch2 = true
is_switch _ = false

-- on number v of its second input a switch takes its first, or its third
abbrev pub takes : Spec → (first : Bool) → ℤ → Bool
takes s first v = if first then switches (param s 0) (param s 1) v else not (switches (param s 0) (param s 1) v)

-- the number of that input, and the place of its element where each input has one
abbrev pub taken_input : Bool → ℕ
taken_input first = if first then 1 else 3

abbrev pub taken_place : Bool → ℕ
taken_place first = if first then 0 else 2

-- ---- where the condition is that input itself

-- the numbers of an interval from v on, those up to v, and all but v, where that is an end
abbrev pub from_on : ℤ → Interval → Option Interval
from_on v i = between (int_max i.least v) i.greatest

abbrev pub up_to : ℤ → Interval → Option Interval
up_to v i = between i.least (int_min i.greatest v)

abbrev pub without : ℤ → Interval → Option Interval
without v i = between (if int_eq i.least v then v +ℤ pos 1 else i.least) (if int_eq i.greatest v then v -ℤ pos 1 else i.greatest)

-- those on which a switch takes its first input, and those on which it takes its third: it compares with a number by a code, whether they are at least that,
-- above it, or not it
abbrev pub first_numbers : (code number : ℤ) → Interval → Option Interval
first_numbers c a i =
    if int_eq c (pos 0) then from_on a i else
    if int_eq c (pos 1) then from_on (a +ℤ pos 1) i else without a i

abbrev pub third_numbers : (code number : ℤ) → Interval → Option Interval
third_numbers c a i =
    if int_eq c (pos 0) then up_to (a -ℤ pos 1) i else
    if int_eq c (pos 1) then up_to a i else met i (one a)

abbrev pub taken_numbers : Spec → Bool → Interval → Option Interval
taken_numbers s first i = if first then first_numbers (param s 0) (param s 1) i else third_numbers (param s 0) (param s 1) i

-- ---- where the condition compares that input

abbrev pub compares : Kind → Bool
compares RelationalOp = true
compares _ = false

-- what a comparison is known to be, where a switch that looks at its truth takes its first input, or its third: on the other truth it takes the other one
abbrev pub known_truth : Spec → Bool → Option Bool
known_truth s first =
    if not (takes s first (pos 0)) then Some true else
    if not (takes s first (pos 1)) then Some false else None

-- ---- where that input is a sum of such

-- the exact values of a sum of one element, whose input j, counted from 0, has these numbers
abbrev pub sum_of : Spec → (ℕ → Option Interval) → Option Interval
sum_of s f = sums (λ j. option_map (times (param s (j + 1))) (f j)) (length s.ins)
