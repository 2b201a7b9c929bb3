-- The pass over a table: whether a rule widens it.
use Rattle.std.specs.Prelude.{ℕ, ◌+◌, Bool, not, ◌&&◌, ◌||◌, int_le, if◌then◌else◌, List, [], length, Option, Some, is_none, slice_index_or, pos}
use Rattle.sci_base.specs.Lists.{at, truth_at}
use Rattle.sci_forms.specs.declared.spec.Spec.{Spec}
use Rattle.sci_forms.specs.Form.{is_sync}
use Rattle.sci_forms.specs.Ports.{total}
use Rattle.sci_kinds.specs.Table.{state_len, first_state}
use Rattle.sci_net.specs.declared.Source.{Source}
use Rattle.sci_net.specs.declared.Source.TheVariants.{Start, Port}
use Rattle.sci_net.specs.Parts.{Parts, spec_of}
use Rattle.sci_net.specs.Sources.{source_of}
use Rattle.sci_reaction.specs.Memory.{Columns}
use Rattle.sci_run.specs.Programs.{firing_of}
use Rattle.sci_ranges_base.specs.declared.interval.Interval.{Interval}
use Rattle.sci_ranges_base.specs.declared.cells.Cells.{Cells}
use Rattle.sci_ranges_base.specs.declared.masks.Masks.{Masks}
use Rattle.sci_ranges_base.specs.Intervals.{has, meet, within, range_at}
use Rattle.sci_ranges_rules.specs.Rules.{cells, next_range, state_range, taking}
use Rattle.sci_ranges_refined.specs.Sums.{is_sum, sum_cells}
use Rattle.sci_ranges_reads.specs.Live.{may_program}
use Rattle.sci_ranges_rows.specs.Marks.{Marks, dead_of, may_act}
use Rattle.sci_ranges_rows.specs.Tests.{all_below}
use Rattle.sci_ranges_pass.specs.Ranges.{Ranges, read_range, entered, masks_for}
use Rattle.sci_ranges_pass.specs.Taken.{told_inputs}
use Rattle.sci_ranges_pass.specs.Told.{sum_range}

-- ---- one block

-- the cells of an element are in the table
abbrev pub holds_cells : Ranges → ℕ → ℕ → Cells → Bool
holds_cells r c e cs =
    within cs.values (range_at (slice_index_or r.shows c []) e) && ((not cs.overflow || truth_at r.overflows c) && (not cs.zero || truth_at r.zeros c))

-- of these states, masks and inputs the rule tells nothing more
abbrev pub holds_values : Spec → Ranges → ℕ → List Masks → List (Option Interval) → Bool
holds_values s r c ms us = all_below (λ e. holds_cells r c e (cells s (slice_index_or r.states c []) ms us e)) (total s.outs)

-- and nothing more is told of a sum
abbrev pub holds_sums : Parts → Columns → Marks → Ranges → ℕ → List (Option Interval) → Bool
holds_sums n i m r c us = all_below (λ e. holds_cells r c e (sum_cells (spec_of n c) (sum_range n i m r c us e))) (total (spec_of n c).outs)

abbrev pub holds_told : Parts → Columns → Marks → Ranges → ℕ → List (Option Interval) → Bool
holds_told n i m r c us =
    if is_sum (spec_of n c).kind then holds_sums n i m r c us else holds_values (spec_of n c) r c (masks_for n m c) (told_inputs n i m r c us)

abbrev pub holds_next : Spec → Ranges → ℕ → List (Option Interval) → Bool
holds_next s r c us =
    all_below (λ k. within (next_range s (slice_index_or r.states c []) us k) (Some (state_range (slice_index_or r.states c []) k))) (state_len s)

-- the first state is in the table
abbrev pub holds_first : Spec → Ranges → ℕ → Bool
holds_first s r c = all_below (λ k. has (state_range (slice_index_or r.states c []) k) (at (first_state s) k)) (state_len s)

-- on no number that the condition reads a dead branch is taken
abbrev pub are_dead : Parts → Marks → Ranges → ℕ → Bool
are_dead n m r c =
    all_below (λ p. not (dead_of m.dead c p) || is_none (meet (read_range n m r c 1 0) (Some (taking (spec_of n c) p)))) (length (slice_index_or m.dead c []))

-- some live source may activate the block
abbrev pub is_possible : Marks → ℕ → Bool
is_possible m c = not (all_below (λ k. not (may_act m k c)) (length m.rows))

abbrev pub holds_rule : Parts → Columns → Marks → Ranges → ℕ → Bool
holds_rule n i m r c =
    let us = entered n i m r c in
    holds_told n i m r c us && holds_next (spec_of n c) r c us

abbrev pub holds_block : Parts → Columns → Marks → Ranges → ℕ → Bool
holds_block n i m r c =
    holds_first (spec_of n c) r c && ((not (is_sync (spec_of n c).kind) || are_dead n m r c) && (not (is_possible m c) || holds_rule n i m r c))

-- ---- all blocks

abbrev pub is_closed : Parts → Columns → Marks → Ranges → Bool
is_closed n i m r = all_below (λ b. holds_block n i m r (b + 1)) (length n.specs)

-- ---- live sources

-- an activation output with a first event is marked
abbrev pub marks_dated : Parts → Marks → ℕ → Source → Bool
marks_dated n m k Start = truth_at m.live k
marks_dated n m k (Port q) = not (int_le (pos 0) (firing_of n q)) || truth_at m.live k

-- and so is one that the source of place k programs
abbrev pub marks_programmed : Parts → Marks → ℕ → ℕ → Source → Bool
marks_programmed n m k j Start = truth_at m.live j
marks_programmed n m k j (Port q) = not (may_act m k q.block && may_program (spec_of n q.block)) || truth_at m.live j

abbrev pub marks_live : Parts → Marks → Bool
marks_live n m =
    all_below (λ j. marks_dated n m j (source_of n j) && all_below (λ k. marks_programmed n m k j (source_of n j)) (length m.rows)) (length m.rows)
