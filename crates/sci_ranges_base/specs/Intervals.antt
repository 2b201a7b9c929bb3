-- Intervals of whole numbers.
use Rattle.std.specs.Prelude.{ℕ, ◌-◌, ◌^◌, ℤ, pos, negsuc, Contains, ◌+ℤ◌, ◌-ℤ◌, ◌*ℤ◌, ◌≤ℤ◌, int_lt, int_le, if◌then◌else◌, Bool, true, false, ◌&&◌, Option, Some, None, List, slice_index_or}
use Rattle.std.specs.Int.{int_min, int_max}
use Rattle.sci_base.specs.declared.Ty.{Ty}
use Rattle.sci_base.specs.Fit.{low, high}
use Rattle.sci_ranges_base.specs.declared.interval.Interval.{Interval}

-- v is one of the numbers of the interval
pub record IsIn (i : Interval) (v : ℤ) : Type 0 where
  pub above : i.least ≤ℤ v
  pub below : v ≤ℤ i.greatest

-- there is an interval, and v is one of its numbers
abbrev pub IsInSome : Option Interval → ℤ → Type 0
IsInSome None v = ⊥
IsInSome (Some i) v = IsIn i v

-- the numbers from a to b
abbrev pub from_to : ℤ → ℤ → Interval
from_to a b = record { least = a; greatest = b }

abbrev pub one : ℤ → Interval
one v = from_to v v

-- the numbers of a type
abbrev pub whole : Ty → Interval
whole t = from_to (low t) (high t)

-- the numbers from a to b, if there are any
abbrev pub between : ℤ → ℤ → Option Interval
between a b = if int_le a b then Some (from_to a b) else None

-- the least interval that has the numbers of both
abbrev pub hull : Interval → Interval → Interval
hull i j = from_to (int_min i.least j.least) (int_max i.greatest j.greatest)

abbrev pub join : Option Interval → Option Interval → Option Interval
join None j = j
join (Some i) None = Some i
join (Some i) (Some j) = Some (hull i j)

-- the numbers that both have
abbrev pub met : Interval → Interval → Option Interval
met i j = between (int_max i.least j.least) (int_min i.greatest j.greatest)

abbrev pub meet : Option Interval → Option Interval → Option Interval
meet None j = None
meet (Some i) None = None
meet (Some i) (Some j) = met i j

-- each number of i is one of j
abbrev pub is_within : Interval → Interval → Bool
is_within i j = int_le j.least i.least && int_le i.greatest j.greatest

abbrev pub within : Option Interval → Option Interval → Bool
within None j = true
within (Some i) None = false
within (Some i) (Some j) = is_within i j

abbrev pub has : Interval → ℤ → Bool
has i v = int_le i.least v && int_le v i.greatest

-- ---- operations on each number

-- of two intervals that are there
abbrev pub both : (Interval → Interval → Interval) → Option Interval → Option Interval → Option Interval
both f None j = None
both f (Some i) None = None
both f (Some i) (Some j) = Some (f i j)

abbrev pub plus : Interval → Interval → Interval
plus i j = from_to (i.least +ℤ j.least) (i.greatest +ℤ j.greatest)

abbrev pub minus : Interval → Interval → Interval
minus i j = from_to (i.least -ℤ j.greatest) (i.greatest -ℤ j.least)

-- z times each number
abbrev pub times : ℤ → Interval → Interval
times z i = if int_lt z (pos 0) then from_to (z *ℤ i.greatest) (z *ℤ i.least) else from_to (z *ℤ i.least) (z *ℤ i.greatest)

-- what a function that never falls makes of each number
abbrev pub at_ends : (ℤ → ℤ) → Interval → Interval
at_ends f i = from_to (f i.least) (f i.greatest)

-- the hull of what a function makes of the four pairs of ends
abbrev pub corners : (ℤ → ℤ → ℤ) → Interval → Interval → Interval
corners f i j = hull (hull (one (f i.least j.least)) (one (f i.least j.greatest))) (hull (one (f i.greatest j.least)) (one (f i.greatest j.greatest)))

-- ---- ends

-- both ends are numbers of w
pub record HasEnds (w i : Interval) : Type 0 where
  pub least : IsIn w i.least
  pub greatest : IsIn w i.greatest

-- the numbers of 64 bits; products of two of these; such that the sum of two fits into 128 bits
abbrev pub words : Interval
words = from_to (negsuc (2 ^ 63 - 1)) (pos (2 ^ 63 - 1))

abbrev pub exact : Interval
exact = from_to (negsuc (2 ^ 126 - 1)) (pos (2 ^ 126))

abbrev pub summands : Interval
summands = from_to (negsuc (2 ^ 126 - 1)) (pos (2 ^ 126 - 1))

-- ---- lists of numbers, and of intervals

-- i is the least interval that has all of these numbers
pub record IsHullOf (vs : List ℤ) (i : Interval) : Type 0 where
  pub all : (v : ℤ) → Contains vs v → IsIn i v
  pub least : Contains vs i.least
  pub greatest : Contains vs i.greatest

-- interval e of a list, none where there is none
abbrev pub range_at : List (Option Interval) → ℕ → Option Interval
range_at us e = slice_index_or us e None
