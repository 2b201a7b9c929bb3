-- What holds of sums and of switches, for every typed spec and all values within the intervals.
use Rattle.std.specs.Prelude.{◌≡◌, ℕ, ◌+◌, ◌-◌, ◌^◌, ◌<◌, ℤ, pos, Bool, true, false, List, length, Option, Some, option_and_then}
use Rattle.std.specs.Int.{int_div_euclid}
use Rattle.sci_base.specs.Lists.{at}
use Rattle.sci_forms.specs.declared.spec.Spec.{Spec}
use Rattle.sci_forms.specs.Ports.{total, Fills}
use Rattle.sci_forms.specs.Typed.{typed}
use Rattle.sci_forms.specs.Words.{size}
use Rattle.sci_kinds.specs.declared.Cell.TheVariants.{Value}
use Rattle.sci_kinds.specs.Table.{input, cell}
use Rattle.sci_ranges_base.specs.declared.interval.Interval.{Interval}
use Rattle.sci_ranges_base.specs.Intervals.{IsInSome, range_at}
use Rattle.sci_ranges_base.specs.declared.masks.Masks.{Masks}
use Rattle.sci_ranges_base.specs.Cells.{MayBe}
use Rattle.sci_ranges_rules.specs.Rules.{cells, compared, exact_sums}
use Rattle.sci_ranges_refined.specs.Sums.{is_sum, exact_sum, sum_cells, keeps_sum, IsPartOf, shrinks, adds_two, takes_difference, subtracted, either_input, leaking_sums, shifts_right, places_of, AddsAndSubtracts}
use Rattle.sci_ranges_refined.specs.Choices.{is_switch, takes, taken_numbers, compares, known_truth, sum_of}

-- each value of the inputs is in its interval
abbrev pub AreWithin : Spec → List (Option Interval) → List ℤ → Type 0
AreWithin s us u = (d : ℕ) → d < total s.ins → IsInSome (range_at us d) (at u d)

-- ---- every sum

-- its exact value is within that of the intervals
abbrev pub SumIsWithin : Type 0
SumIsWithin =
    (s : Spec) (us : List (Option Interval)) (u : List ℤ) (e : ℕ) → typed s ≡ true → is_sum s.kind ≡ true → AreWithin s us u → e < size s →
    IsInSome (exact_sums s us e) (exact_sum s u e)

-- whatever tells of its exact value tells what the block gives, a stop among that
abbrev pub SumIsFitted : Type 0
SumIsFitted =
    (s : Spec) (x : List ℤ) (m : ℕ) (u : List ℤ) (e : ℕ) (o : Option Interval) → is_sum s.kind ≡ true → IsInSome o (exact_sum s u e) →
    MayBe (sum_cells s o) (cell s x m u e)

-- ---- towards

-- a difference that doesn't wrap gives a part of its exact value
abbrev pub DifferenceGivesPart : Type 0
DifferenceGivesPart =
    (s : Spec) (us : List (Option Interval)) (x : List ℤ) (m : ℕ) (u : List ℤ) (e : ℕ) (v : ℤ) → typed s ≡ true → takes_difference s ≡ true → AreWithin s us u →
    e < size s → keeps_sum s us e ≡ true → cell s x m u e ≡ Value v → IsPartOf (exact_sum s u e) v

-- a block that shrinks what its input has gives a part of that
abbrev pub ShrinkingGivesPart : Type 0
ShrinkingGivesPart =
    (s : Spec) (x : List ℤ) (m : ℕ) (u : List ℤ) (e : ℕ) (v : ℤ) → typed s ≡ true → shrinks s ≡ true → Fills s.ins u → e < size s → cell s x m u e ≡ Value v →
    IsPartOf (at u e) v

abbrev pub PartOfPart : Type 0
PartOfPart = (d v w : ℤ) → IsPartOf d v → IsPartOf v w → IsPartOf d w

-- s adds on its inputs k and j what d subtracts and a part of the difference: its exact value lies between the two inputs of d
abbrev pub GoesBetween : Type 0
GoesBetween =
    (s d : Spec) (us : List (Option Interval)) (u w : List ℤ) (k j e : ℕ) → typed d ≡ true → adds_two s ≡ true → takes_difference d ≡ true → AreWithin d us w → e < size d →
    k + j ≡ 1 → input (size s) u k e ≡ input (size d) w (subtracted d) e → IsPartOf (exact_sum d w e) (input (size s) u j e) →
    IsInSome (either_input d us e) (exact_sum s u e)

-- ---- leaking

-- a shift to the right gives the quotient, rounded down
abbrev pub ShiftIsQuotient : Type 0
ShiftIsQuotient =
    (s : Spec) (x : List ℤ) (m : ℕ) (u : List ℤ) (e : ℕ) (v : ℤ) → shifts_right s ≡ true → cell s x m u e ≡ Value v → v ≡ int_div_euclid (at u e) (pos (2 ^ places_of s))

-- where two inputs are a value and that shifted right, the exact value of the sum is within that of the intervals with those two as one
abbrev pub LeakIsWithin : Type 0
LeakIsWithin =
    (s : Spec) (us : List (Option Interval)) (u : List ℤ) (k l places e : ℕ) → typed s ≡ true → is_sum s.kind ≡ true → AreWithin s us u → e < size s →
    k < length s.ins → l < length s.ins → AddsAndSubtracts s k l → input (size s) u l e ≡ int_div_euclid (input (size s) u k e) (pos (2 ^ places)) →
    IsInSome (leaking_sums s k l places us e) (exact_sum s u e)

-- ---- choosing

-- a switch shows the one of two inputs that it takes: the other one may have any value
abbrev pub TakenIsShown : Type 0
TakenIsShown =
    (s : Spec) (xs : List Interval) (ms : List Masks) (us : List (Option Interval)) (x : List ℤ) (m : ℕ) (u : List ℤ) (e : ℕ) → is_switch s.kind ≡ true →
    IsInSome (range_at us (size s)) (at u (size s)) → (takes s true (at u (size s)) ≡ true → IsInSome (range_at us e) (at u e)) →
    (takes s false (at u (size s)) ≡ true → IsInSome (range_at us (size s + 1 + e)) (at u (size s + 1 + e))) → MayBe (cells s xs ms us e) (cell s x m u e)

-- a number on which it takes an input is one of those on which it does
abbrev pub TakenHasNumber : Type 0
TakenHasNumber =
    (s : Spec) (first : Bool) (o : Option Interval) (v : ℤ) → takes s first v ≡ true → IsInSome o v → IsInSome (option_and_then (taken_numbers s first) o) v

-- where it takes an input by the truth of a comparison of two numbers, each of these is one that may compare so with the other one
abbrev pub ComparisonIsKnown : Type 0
ComparisonIsKnown =
    (s g : Spec) (first holds : Bool) (us : List (Option Interval)) (x : List ℤ) (m : ℕ) (u : List ℤ) (v : ℤ) (k : ℕ) → typed g ≡ true →
    compares g.kind ≡ true → size g ≡ 1 → known_truth s first ≡ Some holds → takes s first v ≡ true → cell g x m u 0 ≡ Value v → Fills g.ins u →
    AreWithin g us u → k < 2 → IsInSome (option_and_then (compared g k holds) (range_at us (1 - k))) (at u k)

-- the exact value of a sum of one element is within that of the intervals of its inputs
abbrev pub SumOfIsWithin : Type 0
SumOfIsWithin =
    (s : Spec) (f : ℕ → Option Interval) (u : List ℤ) → size s ≡ 1 → ((j : ℕ) → j < length s.ins → IsInSome (f j) (at u j)) →
    IsInSome (sum_of s f) (exact_sum s u 0)
