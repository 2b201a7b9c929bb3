-- What goes into a switch of one element, as the pass works it out: where an input is taken, only what the condition leaves of it.
use Rattle.std.specs.Prelude.{ℕ, ◌+◌, ◌-◌, nat_eq, Bool, true, false, ◌&&◌, if◌then◌else◌, List, [], ◌∷◌, Option, Some, None, option_and_then}
use Rattle.sci_forms.specs.declared.spec.Spec.{Spec}
use Rattle.sci_forms.specs.Words.{size}
use Rattle.sci_net.specs.declared.Wire.{Wire}
use Rattle.sci_net.specs.Parts.{Parts, spec_of, wire_of}
use Rattle.sci_reaction.specs.Memory.{Columns}
use Rattle.sci_ranges_base.specs.declared.interval.Interval.{Interval}
use Rattle.sci_ranges_base.specs.Intervals.{meet, range_at}
use Rattle.sci_ranges_rules.specs.Rules.{compared}
use Rattle.sci_ranges_refined.specs.Sums.{is_sum, sum_cells}
use Rattle.sci_ranges_refined.specs.Choices.{is_switch, taken_input, taken_place, taken_numbers, compares, known_truth, sum_of}
use Rattle.sci_ranges_rows.specs.Marks.{Marks}
use Rattle.sci_ranges_rows.specs.Tests.{is_along}
use Rattle.sci_ranges_pass.specs.Ranges.{Ranges, same_wire, entered}

-- ---- blocks before a switch

-- a block shows one number on this wire, its first output, wherever c acts
abbrev pub is_single : Parts → Marks → ℕ → Wire → Bool
is_single n m c w = nat_eq w.port 1 && (nat_eq (size (spec_of n w.block)) 1 && is_along m w.block c)

-- the comparison that the switch looks at, and the sum that is its first input, or its third
abbrev pub comparison : Parts → Marks → ℕ → Option ℕ
comparison n m c =
    let w = wire_of n c 2 in
    if compares (spec_of n w.block).kind && is_single n m c w then Some w.block else None

abbrev pub addition : Parts → Marks → (c : ℕ) → (first : Bool) → Option ℕ
addition n m c first =
    let w = wire_of n c (taken_input first) in
    if is_sum (spec_of n w.block).kind && is_single n m c w then Some w.block else None

-- ---- what a wire has, where the switch takes its first input, or its third

-- of its condition's own numbers those on which it does
abbrev pub by_condition : Parts → ℕ → Bool → Wire → Option Interval → Option Interval
by_condition n c first w o = if same_wire (wire_of n c 2) w then option_and_then (taken_numbers (spec_of n c) first) o else o

-- of input k of a comparison, counted from 0, those that may compare so
abbrev pub by_input : Parts → (g k : ℕ) → Bool → List (Option Interval) → Wire → Option Interval → Option Interval
by_input n g k holds vs w o =
    if same_wire (wire_of n g (k + 1)) w then meet o (option_and_then (compared (spec_of n g) k holds) (range_at vs (1 - k))) else o

abbrev pub by_truth : Parts → ℕ → List (Option Interval) → Wire → Option Bool → Option Interval → Option Interval
by_truth n g vs w None o = o
by_truth n g vs w (Some holds) o = by_input n g 1 holds vs w (by_input n g 0 holds vs w o)

abbrev pub by_comparison : Parts → Columns → Marks → Ranges → (c : ℕ) → Bool → Wire → Option ℕ → Option Interval → Option Interval
by_comparison n i m r c first w None o = o
by_comparison n i m r c first w (Some g) o = by_truth n g (entered n i m r g) w (known_truth (spec_of n c) first) o

abbrev pub kept_on : Parts → Columns → Marks → Ranges → ℕ → Bool → Wire → Option Interval → Option Interval
kept_on n i m r c first w o = by_comparison n i m r c first w (comparison n m c) (by_condition n c first w o)

-- ---- what it takes

-- what input j of the sum has, counted from 0
abbrev pub summand : Parts → Columns → Marks → Ranges → ℕ → Bool → (g j : ℕ) → Option Interval
summand n i m r c first g j = kept_on n i m r c first (wire_of n g (j + 1)) (range_at (entered n i m r g) j)

abbrev pub by_addition : Parts → Columns → Marks → Ranges → ℕ → Bool → Option ℕ → Option Interval → Option Interval
by_addition n i m r c first None o = o
by_addition n i m r c first (Some g) o = meet o ((sum_cells (spec_of n g) (sum_of (spec_of n g) (summand n i m r c first g))).values)

abbrev pub taken_range : Parts → Columns → Marks → Ranges → ℕ → List (Option Interval) → Bool → Option Interval
taken_range n i m r c us first =
    by_addition n i m r c first (addition n m c first) (kept_on n i m r c first (wire_of n c (taken_input first)) (range_at us (taken_place first)))

-- a switch of one element
abbrev pub is_choice : Spec → Bool
is_choice s = is_switch s.kind && nat_eq (size s) 1

-- what its rule is told to go in
abbrev pub taken_ranges : Parts → Columns → Marks → Ranges → ℕ → List (Option Interval) → List (Option Interval)
taken_ranges n i m r c us = taken_range n i m r c us true ∷ range_at us 1 ∷ taken_range n i m r c us false ∷ []

-- the same of any block: what goes in
abbrev pub told_inputs : Parts → Columns → Marks → Ranges → ℕ → List (Option Interval) → List (Option Interval)
told_inputs n i m r c us = if is_choice (spec_of n c) then taken_ranges n i m r c us else us
