-- What is told of each element of a block, as the pass works it out: by the rule, and of a sum or a switch by what goes in with it too.
use Rattle.std.specs.Prelude.{ℕ, zero, suc, ◌+◌, pos, negsuc, nat_eq, Bool, ◌&&◌, if◌then◌else◌, List, [], length, Option, Some, None, option_map, slice_index_or}
use Rattle.sci_base.specs.Fit.{int_eq}
use Rattle.sci_forms.specs.declared.spec.Spec.{Spec}
use Rattle.sci_forms.specs.Words.{param}
use Rattle.sci_net.specs.declared.Wire.{Wire}
use Rattle.sci_net.specs.Parts.{Parts, spec_of, wire_of}
use Rattle.sci_reaction.specs.Memory.{Columns}
use Rattle.sci_ranges_base.specs.declared.interval.Interval.{Interval}
use Rattle.sci_ranges_base.specs.declared.cells.Cells.{Cells}
use Rattle.sci_ranges_base.specs.Intervals.{meet}
use Rattle.sci_ranges_rules.specs.Rules.{cells, exact_sums}
use Rattle.sci_ranges_refined.specs.Sums.{is_sum, sum_cells, keeps_sum, shrinks, adds_two, takes_difference, subtracted, either_input, leaking_sums, shifts_right, places_of}
use Rattle.sci_ranges_rows.specs.Marks.{Marks}
use Rattle.sci_ranges_rows.specs.Tests.{is_along}
use Rattle.sci_ranges_pass.specs.Ranges.{Ranges, same_wire, entered, masks_for}
use Rattle.sci_ranges_pass.specs.Taken.{told_inputs}

-- the first that is there, of two, and of f 0 to f (n - 1)
abbrev pub either_of : {A : Type 0} → Option A → Option A → Option A
either_of None o = o
either_of (Some x) o = Some x

abbrev pub first_of : {A : Type 0} → (ℕ → Option A) → ℕ → Option A
first_of f zero = None
first_of f (suc n) = either_of (first_of f n) (f n)

-- ---- towards

-- block b shows a part of what its first input has, wherever c acts, and this is its output's wire
abbrev pub shrinks_along : Parts → Marks → ℕ → Wire → Bool
shrinks_along n m c w = nat_eq w.port 1 && (shrinks (spec_of n w.block) && is_along m w.block c)

-- the wire, or that of which it has a part
abbrev pub step_back : Parts → Marks → ℕ → Wire → Wire
step_back n m c w = if shrinks_along n m c w then wire_of n w.block 1 else w

-- three steps back
abbrev pub stepped_back : Parts → Marks → ℕ → Wire → Wire
stepped_back n m c w = step_back n m c (step_back n m c (step_back n m c w))

-- a block takes a difference wherever c does, this is its output's wire, and the other one is what it subtracts
abbrev pub subtracts_along : Parts → Marks → ℕ → Wire → Wire → Bool
subtracts_along n m c x w =
    nat_eq w.port 1 && (takes_difference (spec_of n w.block) && (is_along m w.block c && same_wire x (wire_of n w.block (subtracted (spec_of n w.block) + 1))))

-- the block whose difference c follows on one of its inputs, where it has what that subtracts on the other; inputs counted from 1
abbrev pub aim_at : Parts → Marks → (c from more : ℕ) → Option ℕ
aim_at n m c from more =
    let w = stepped_back n m c (wire_of n c more) in
    if subtracts_along n m c (wire_of n c from) w then Some w.block else None

abbrev pub aim : Parts → Marks → ℕ → Option ℕ
aim n m c = if adds_two (spec_of n c) then either_of (aim_at n m c 1 2) (aim_at n m c 2 1) else None

-- ---- leaking

-- an input that is added, one that is subtracted, both counted from 0, and by how many places what the one has is shifted right before it goes to the other
pub record Leak : Type 0 where
  pub kept : ℕ
  pub lost : ℕ
  pub places : ℕ

-- input l is subtracted, and comes from a block that shifts right wherever c acts
abbrev pub loses : Parts → Marks → (c l : ℕ) → Bool
loses n m c l =
    let w = wire_of n c (l + 1) in
    int_eq (param (spec_of n c) (l + 1)) (negsuc 0) && (nat_eq w.port 1 && (shifts_right (spec_of n w.block) && is_along m w.block c))

-- input k is added, and has what block g shifts
abbrev pub keeps : Parts → (c g k : ℕ) → Bool
keeps n c g k = int_eq (param (spec_of n c) (k + 1)) (pos 1) && same_wire (wire_of n g 1) (wire_of n c (k + 1))

abbrev pub kept_at : Parts → (c g k : ℕ) → Option ℕ
kept_at n c g k = if keeps n c g k then Some k else None

abbrev pub leak_by : Parts → (l g k : ℕ) → Leak
leak_by n l g k = record { kept = k; lost = l; places = places_of (spec_of n g) }

abbrev pub leak_at : Parts → Marks → (c l : ℕ) → Option Leak
leak_at n m c l =
    let g = (wire_of n c (l + 1)).block in
    if loses n m c l then option_map (leak_by n l g) (first_of (kept_at n c g) (length (spec_of n c).ins)) else None

abbrev pub leak : Parts → Marks → ℕ → Option Leak
leak n m c = if is_sum (spec_of n c).kind then first_of (leak_at n m c) (length (spec_of n c).ins) else None

-- ---- what is told

-- of the exact values of a sum, those between the inputs of a difference, where that doesn't wrap
abbrev pub between_inputs : Spec → List (Option Interval) → ℕ → Option Interval → Option Interval
between_inputs d vs e o = if keeps_sum d vs e then meet o (either_input d vs e) else o

abbrev pub by_aim : Parts → Columns → Marks → Ranges → ℕ → Option ℕ → Option Interval → Option Interval
by_aim n i m r e None o = o
by_aim n i m r e (Some f) o = between_inputs (spec_of n f) (entered n i m r f) e o

-- and those that leak
abbrev pub by_leak : Parts → ℕ → List (Option Interval) → ℕ → Option Leak → Option Interval → Option Interval
by_leak n c us e None o = o
by_leak n c us e (Some k) o = meet o (leaking_sums (spec_of n c) k.kept k.lost k.places us e)

abbrev pub sum_range : Parts → Columns → Marks → Ranges → ℕ → List (Option Interval) → ℕ → Option Interval
sum_range n i m r c us e = by_leak n c us e (leak n m c) (by_aim n i m r e (aim n m c) (exact_sums (spec_of n c) us e))

abbrev pub told : Parts → Columns → Marks → Ranges → ℕ → List (Option Interval) → ℕ → Cells
told n i m r c us e =
    if is_sum (spec_of n c).kind then sum_cells (spec_of n c) (sum_range n i m r c us e)
    else cells (spec_of n c) (slice_index_or r.states c []) (masks_for n m c) (told_inputs n i m r c us) e
