-- A table of ranges of code, each `Vec` as its list; and what is read of it.
use Rattle.std.specs.Prelude.{◌≡◌, ℕ, pos, int_le, Bool, not, ◌&&◌, ◌||◌, if◌then◌else◌, List, [], length, Option, Some, None, is_none, slice_index_or}
use Rattle.sci_forms.specs.Form.{is_sync}
use Rattle.sci_forms.specs.Ports.{total}
use Rattle.sci_net.specs.declared.Feed.{Feed}
use Rattle.sci_net.specs.declared.Wire.{Wire}
use Rattle.sci_net.specs.Parts.{Parts, rows_of, spec_of, wire_of}
use Rattle.sci_net.specs.Sources.{source_of}
use Rattle.sci_reaction.specs.Memory.{Columns}
use Rattle.sci_run.specs.Programs.{firing_of}
use Rattle.sci_ranges_base.specs.declared.interval.Interval.{Interval}
use Rattle.sci_ranges_base.specs.Intervals.{meet, range_at}
use Rattle.sci_ranges.specs.Table.{held_range}
use Rattle.sci_ranges_rules.specs.Rules.{taking}
use Rattle.sci_ranges_rows.specs.Marks.{Marks, dead_of}
use Rattle.sci_ranges_rows.specs.Tests.{all_below}
use Rattle.sci_ranges_pass.specs.Ranges.{Ranges, table_of, same_wire, under_range}
use Rattle.sci_ranges_pass.specs.Pass.{holds_cells, holds_told, holds_next, marks_dated, marks_programmed}
use Rattle.sci_ranges_sums.specs.declared.parts.Beside.{Beside}
use Rattle.sci_ranges_sums.specs.View.{sum_told}
use Rattle.sci_ranges_find.specs.declared.table.RangeTable.{RangeTable}

abbrev pub ranges_of : RangeTable → Ranges
ranges_of t = record { shows = rows_of t.shows.items; states = rows_of t.states.items; overflows = t.overflows.items; zeros = t.zeros.items }

-- a block is a condition on this wire
abbrev pub decides_on : Parts → ℕ → Wire → Bool
decides_on n b w = is_sync (spec_of n b).kind && same_wire (wire_of n b 1) w

-- those of the numbers, where some are given, that an interval has
abbrev pub narrowed : Option Interval → Option Interval → Option Interval
narrowed None o = o
narrowed (Some i) o = meet o (Some i)

-- these are the numbers, if any, to which the branch of the hint keeps the first element of input k
abbrev pub IsTaken : Parts → Marks → (block input : ℕ) → Option Feed → Option Interval → Type 0
IsTaken n m c k hint numbers = (o : Option Interval) → narrowed numbers o ≡ under_range n m c k 0 hint o

-- what an element of a block's outputs shows, or what it holds
abbrev pub fed_range : Parts → Ranges → Bool → (block element : ℕ) → Option Interval
fed_range n r shown b e =
    if shown then range_at (slice_index_or r.shows b []) e else held_range n (table_of n [] r) b e

-- the branch isn't dead, or no number of this interval takes it
abbrev pub untaken_on : Parts → Marks → ℕ → Option Interval → ℕ → Bool
untaken_on n m c o p = not (dead_of m.dead c p) || is_none (meet o (Some (taking (spec_of n c) p)))

-- the condition reads no number of this interval that takes one of its dead branches
abbrev pub dead_on : Parts → Marks → ℕ → Option Interval → Bool
dead_on n m c o = all_below (untaken_on n m c o) (length (slice_index_or m.dead c []))

-- the block is no condition, or none of its dead branches is taken
abbrev pub alive_on : Parts → Marks → ℕ → List (Option Interval) → Bool
alive_on n m c us = not (is_sync (spec_of n c).kind) || dead_on n m c (range_at us 0)

-- what is told of the block, on what goes in
abbrev pub rule_on : Parts → Columns → Marks → Ranges → ℕ → List (Option Interval) → Bool
rule_on n i m r c us = holds_told n i m r c us && holds_next (spec_of n c) r c us

-- of a sum, on what goes in beside that
abbrev pub sums_on : Parts → Ranges → ℕ → List (Option Interval) → Beside → Bool
sums_on n r c us b = all_below (λ e. holds_cells r c e (sum_told n c us b e)) (total (spec_of n c).outs)

abbrev pub is_dated : Parts → Feed → Bool
is_dated n q = int_le (pos 0) (firing_of n q)

abbrev pub marked_by_all : Parts → Marks → ℕ → Bool
marked_by_all n m j = all_below (λ k. marks_programmed n m k j (source_of n j)) (length m.rows)

abbrev pub marked_place : Parts → Marks → ℕ → Bool
marked_place n m j = marks_dated n m j (source_of n j) && marked_by_all n m j
