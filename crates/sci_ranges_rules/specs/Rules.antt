-- What each kind of block makes of intervals, element by element: beside each row of its meaning (`sci_kinds`, `Table`) the interval of the values
-- that it may give, and the stops that may be.
use Rattle.std.specs.Prelude.{ℕ, ◌+◌, ◌-◌, ◌*◌, ◌^◌, pos, negsuc, ◌-ℤ◌, ◌*ℤ◌, int_lt, int_le, nat_eq, if◌then◌else◌, List, length, Option, Some, option_map, option_and_then, Bool, true, unsigned_abs, slice_index_or}
use Rattle.std.specs.Int.{int_min, int_max}
use Rattle.sci_base.specs.declared.Ty.{Ty}
use Rattle.sci_base.specs.Fit.{low, high, span, int_eq}
use Rattle.sci_base.specs.Lists.{spread}
use Rattle.sci_forms.specs.declared.Kind.{Kind}
use Rattle.sci_forms.specs.declared.Kind.TheVariants.{Const, Summation, GainBlk, Product, AbsValue, Signum, MaxMin, Saturation, DeadBand, Convert, Mux, Demux, Extractor, LogicalOp, RelationalOp, Shift, BitSet, BitClear, ExtractBits, Switch2, Select, Logic, AndLog, Dollar, SampHold, Register, ModuloCount, GatedDelay, Sensor, IfThEl, ESelect}
use Rattle.sci_forms.specs.declared.spec.Spec.{Spec}
use Rattle.sci_forms.specs.Ports.{type_at}
use Rattle.sci_forms.specs.Words.{param, out_type, in_type, size}
use Rattle.sci_kinds.specs.Table.{mode_of, sign, brought}
use Rattle.sci_ranges_base.specs.declared.interval.Interval.{Interval}
use Rattle.sci_ranges_base.specs.declared.cells.Cells.{Cells}
use Rattle.sci_ranges_base.specs.declared.masks.Masks.{Masks}
use Rattle.sci_ranges_base.specs.Intervals.{from_to, one, whole, join, hull, both, minus, times, at_ends, corners, range_at}
use Rattle.sci_ranges_base.specs.Cells.{valued, on_some, on_both}
use Rattle.sci_ranges_base.specs.Fitting.{fitted_range}
use Rattle.sci_ranges_rules.specs.Patterns.{patterns_of, numbers_of, extracted}
use Rattle.sci_ranges_base.specs.Masks.{some_choose, may_be_both, may_lack_one}
use Rattle.sci_ranges_rules.specs.Words.{opposite, mirrored, related, input_range, sums, extremes, joins, quotient_cells, magnitudes, beyond, truth_range, logical_range, relation_range, allows, all_joined, turned_by, by_sign, set_bits, kept_bits, shifted_range, turned_range, may_take_first, may_take_third, if_so}

-- the interval of each value of the state; one stands for all
abbrev pub state_range : List Interval → ℕ → Interval
state_range xs e = if nat_eq (length xs) 1 then slice_index_or xs 0 (one (pos 0)) else slice_index_or xs e (one (pos 0))

-- fitted into the output's type, by the mode of parameter 0
abbrev pub fitted_out : Spec → Interval → Cells
fitted_out s i = fitted_range (out_type s) (mode_of (param s 0)) i

-- the exact sums of a SUMMATION at element e
abbrev pub exact_sums : Spec → List (Option Interval) → ℕ → Option Interval
exact_sums s us e = sums (λ k. option_map (times (param s (k + 1))) (input_range (size s) us k e)) (length s.ins)

abbrev pub product_cells : Spec → Interval → Interval → Cells
product_cells s i j =
    if int_eq (param s 1) (pos 1) then fitted_out s (corners (λ a b. a *ℤ b) i j) else quotient_cells (out_type s) (mode_of (param s 0)) i j

abbrev pub logical_cells : Spec → (ℕ → Option Interval) → Cells
logical_cells s f =
    if int_eq (param s 1) (pos 0) then valued (option_map (logical_range (param s 0) (length s.ins)) (sums (λ k. option_map truth_range (f k)) (length s.ins)))
    else valued (option_map (λ p. numbers_of (out_type s) (turned_by (out_type s) (param s 0) p)) (all_joined (out_type s) (param s 0) f (length s.ins - 1)))

-- what is told of a type where nothing better is known: all its values, and both stops
abbrev pub anything : Ty → Cells
anything t = record { values = Some (whole t); overflow = true; zero = true }

-- ---- the table

-- Element e of the outputs, from the intervals of the states, the masks, and the intervals of all elements of the inputs. A kind without a rule of its own has
-- anything there; those that program events, choose branches or end the run have no outputs.
abbrev pub cells_of : Kind → Spec → List Interval → List Masks → List (Option Interval) → ℕ → Cells
cells_of Const s xs ms us e = valued (Some (one (spread s.params e)))
cells_of Summation s xs ms us e = on_some (fitted_out s) (exact_sums s us e)
cells_of GainBlk s xs ms us e = on_some (λ i. fitted_out s (times (param s 1) i)) (range_at us e)
cells_of Product s xs ms us e = on_both (product_cells s) (input_range (size s) us 0 e) (input_range (size s) us 1 e)
cells_of AbsValue s xs ms us e = on_some (λ i. fitted_out s (magnitudes i)) (range_at us e)
cells_of Signum s xs ms us e = valued (option_map (at_ends sign) (range_at us e))
cells_of MaxMin s xs ms us e =
    valued (extremes (if int_eq (param s 0) (pos 1) then int_min else int_max) (λ k. input_range (size s) us k e) (length s.ins - 1))
cells_of Saturation s xs ms us e = valued (option_map (at_ends (brought (param s 0) (param s 1))) (range_at us e))
cells_of DeadBand s xs ms us e = on_some (λ i. fitted_out s (at_ends (beyond (param s 1) (param s 2)) i)) (range_at us e)
cells_of Convert s xs ms us e = on_some (fitted_out s) (range_at us e)
cells_of Mux s xs ms us e = valued (range_at us e)
cells_of Demux s xs ms us e = valued (range_at us e)
cells_of Extractor s xs ms us e = valued (range_at us (unsigned_abs (param s e) - 1))
cells_of LogicalOp s xs ms us e = logical_cells s (λ k. input_range (size s) us k e)
cells_of RelationalOp s xs ms us e =
    valued (option_map (relation_range (param s 0)) (both minus (input_range (size s) us 0 e) (input_range (size s) us 1 e)))
cells_of Shift s xs ms us e =
    valued (option_map (λ i. if int_eq (param s 1) (pos 0) then shifted_range (out_type s) (param s 0) i else turned_range (out_type s) (param s 0) i) (range_at us e))
cells_of BitSet s xs ms us e = valued (option_and_then (by_sign (set_bits (out_type s) (2 ^ unsigned_abs (param s 0)))) (range_at us e))
cells_of BitClear s xs ms us e =
    valued (option_and_then (by_sign (kept_bits (out_type s) ((span (out_type s) - 1) - 2 ^ unsigned_abs (param s 0)))) (range_at us e))
cells_of ExtractBits s xs ms us e =
    valued (option_map (λ i. numbers_of (out_type s) (extracted (unsigned_abs (param s 0)) ((unsigned_abs (param s 1) - unsigned_abs (param s 0)) + 1) (patterns_of (out_type s) i))) (range_at us e))
cells_of Switch2 s xs ms us e =
    on_some (λ i. valued (join (if_so (may_take_first (param s 0) (param s 1) i) (range_at us e)) (if_so (may_take_third (param s 0) (param s 1) i) (range_at us (size s + 1 + e))))) (range_at us (size s))
cells_of Select s xs ms us e = valued (joins (λ k. if_so (some_choose ms k) (input_range (size s) us k e)) s.evtin)
cells_of Logic s xs ms us e =
    valued (joins (λ row. if_so (allows us (length s.ins) row) (Some (one (param s (row * length s.outs + e))))) (2 ^ length s.ins))
cells_of AndLog s xs ms us e = valued (join (if_so (may_be_both ms) (Some (one (pos 1)))) (if_so (may_lack_one ms) (Some (one (negsuc 0)))))
cells_of Dollar s xs ms us e = valued (Some (state_range xs e))
cells_of SampHold s xs ms us e = valued (range_at us e)
cells_of Register s xs ms us e = valued (Some (state_range xs 0))
cells_of ModuloCount s xs ms us e = valued (Some (state_range xs 0))
cells_of GatedDelay s xs ms us e =
    on_some (λ i. valued (join (if_so (int_lt (pos 0) i.greatest) (Some (state_range xs e))) (if_so (int_le i.least (pos 0)) (Some (one (pos 0)))))) (range_at us (size s))
cells_of Sensor s xs ms us e = valued (range_at us 0)
cells_of _ s xs ms us e = anything (type_at s.outs e)

abbrev pub cells : Spec → List Interval → List Masks → List (Option Interval) → ℕ → Cells
cells s xs ms us e = cells_of s.kind s xs ms us e

-- ---- the next state

-- value i of the next state; of a REGISTER the next one, or what comes in
abbrev pub next_range_of : Kind → Spec → List Interval → List (Option Interval) → ℕ → Option Interval
next_range_of Dollar s xs us i = range_at us i
next_range_of GatedDelay s xs us i = range_at us i
next_range_of Register s xs us i = both hull (Some (state_range xs (i + 1))) (range_at us 0)
next_range_of ModuloCount s xs us i = Some (from_to (pos 0) (param s 0 -ℤ pos 1))
next_range_of _ s xs us i = Some (one (pos 0))

abbrev pub next_range : Spec → List Interval → List (Option Interval) → ℕ → Option Interval
next_range s xs us i = next_range_of s.kind s xs us i

-- ---- comparisons

-- the numbers that a RELATIONALOP may have on its input k, counted from 0, where the other one has such numbers, and it holds or not
abbrev pub compared : Spec → ℕ → Bool → Interval → Option Interval
compared s k holds j =
    let op = if holds then param s 0 else opposite (param s 0) in
    related (if nat_eq k 0 then op else mirrored op) (in_type s) j

-- ---- branches

-- the numbers of the input's type on which a synchronous block takes its branch p
abbrev pub taking_of : Kind → Spec → ℕ → Interval
taking_of IfThEl s p = if nat_eq p 1 then from_to (pos 1) (high (in_type s)) else from_to (low (in_type s)) (pos 0)
taking_of ESelect s p = from_to (if nat_eq p 1 then low (in_type s) else pos p) (if nat_eq p s.evtout then high (in_type s) else pos p)
taking_of _ s p = whole (in_type s)

abbrev pub taking : Spec → ℕ → Interval
taking s p = taking_of s.kind s p
