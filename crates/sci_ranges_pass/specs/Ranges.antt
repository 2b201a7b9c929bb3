-- A table of ranges as lists.
use Rattle.std.specs.Prelude.{ℕ, ◌+◌, ◌-◌, Bool, false, ◌&&◌, nat_eq, if◌then◌else◌, List, [], ◌∷◌, ◌++◌, zero, suc, Option, Some, None, slice_index_or}
use Rattle.sci_base.specs.declared.observation.StopWord.{StopWord}
use Rattle.sci_base.specs.declared.observation.StopWord.TheVariants.{Overflow, Zero, Input, Conflict}
use Rattle.sci_base.specs.Lists.{truth_at}
use Rattle.sci_forms.specs.declared.ports.Port.{Port}
use Rattle.sci_forms.specs.Form.{is_sensor, is_sync, reads_mask}
use Rattle.sci_forms.specs.Ports.{elements}
use Rattle.sci_net.specs.declared.Feed.{Feed}
use Rattle.sci_net.specs.declared.Wire.{Wire}
use Rattle.sci_net.specs.Parts.{Parts, spec_of, wire_of}
use Rattle.sci_reaction.specs.Memory.{Columns}
use Rattle.sci_ranges_base.specs.declared.interval.Interval.{Interval}
use Rattle.sci_ranges_base.specs.declared.masks.Masks.{Masks}
use Rattle.sci_ranges_base.specs.Intervals.{meet, range_at}
use Rattle.sci_ranges_rules.specs.Rules.{taking}
use Rattle.sci_ranges.specs.Columns.{sensed_range}
use Rattle.sci_ranges.specs.Table.{Table, held_range}
use Rattle.sci_ranges.specs.Reads.{fed_element}
use Rattle.sci_ranges_rows.specs.Marks.{Marks, dead_of}
use Rattle.sci_ranges_rows.specs.Tests.{is_shown, is_under, masks_of}

-- by block, counted from 1: what each element of its outputs shows, what each value of its state is, and whether it may stop by an overflow, or by a zero
pub record Ranges : Type 0 where
  pub shows : List (List (Option Interval))
  pub states : List (List Interval)
  pub overflows : List Bool
  pub zeros : List Bool

-- a sensor may always stop where its column ends
abbrev pub listed_stop : Parts → Ranges → ℕ → StopWord → Bool
listed_stop n r b Overflow = truth_at r.overflows b
listed_stop n r b Zero = truth_at r.zeros b
listed_stop n r b Input = is_sensor (spec_of n b).kind
listed_stop n r b Conflict = false

-- the table, with these branches dead
abbrev pub table_of : Parts → List (List Bool) → Ranges → Table
table_of n dead r =
    record { shows = λ b. slice_index_or r.shows b []; states = λ b. slice_index_or r.states b []; dead = dead_of dead; stops = listed_stop n r }

-- ---- what goes into a block

-- element d of input k of block c, counted from 1: what its feeder shows where the rows tell that it takes that, and else what it holds
abbrev pub plain_range : Parts → Marks → Ranges → (c k d : ℕ) → Option Interval
plain_range n m r c k d =
    if is_shown n m c (k - 1) then range_at (slice_index_or r.shows (wire_of n c k).block []) (fed_element n c k d)
    else held_range n (table_of n m.dead r) (wire_of n c k).block (fed_element n c k d)

abbrev pub same_wire : Wire → Wire → Bool
same_wire v w = nat_eq v.block w.block && nat_eq v.port w.port

-- the block acts under this branch alone, whose condition takes the first element of this wire
abbrev pub conditions : Parts → Marks → Feed → (c k d : ℕ) → Bool
conditions n m q c k d = nat_eq d 0 && (is_sync (spec_of n q.block).kind && (same_wire (wire_of n q.block 1) (wire_of n c k) && is_under m q c))

abbrev pub under_range : Parts → Marks → (c k d : ℕ) → Option Feed → Option Interval → Option Interval
under_range n m c k d None o = o
under_range n m c k d (Some q) o = if conditions n m q c k d then meet o (Some (taking (spec_of n q.block) q.port)) else o

abbrev pub read_range : Parts → Marks → Ranges → (c k d : ℕ) → Option Interval
read_range n m r c k d = under_range n m c k d (slice_index_or m.under c None) (plain_range n m r c k d)

-- the first elements of an input, and all elements of the inputs from k on
abbrev pub read_port : Parts → Marks → Ranges → (c k count : ℕ) → List (Option Interval)
read_port n m r c k zero = []
read_port n m r c k (suc d) = read_port n m r c k d ++ read_range n m r c k d ∷ []

abbrev pub read_ports : Parts → Marks → Ranges → (c k : ℕ) → List Port → List (Option Interval)
read_ports n m r c k [] = []
read_ports n m r c k (p ∷ ps) = read_port n m r c k (elements p) ++ read_ports n m r c (k + 1) ps

-- to a sensor goes what its column has
abbrev pub entered : Parts → Columns → Marks → Ranges → ℕ → List (Option Interval)
entered n i m r c = if is_sensor (spec_of n c).kind then Some (sensed_range i (spec_of n c)) ∷ [] else read_ports n m r c 1 (spec_of n c).ins

-- any mask of at most one activation input
abbrev pub any_mask : Masks
any_mask = record { certain = 0; may = 1 }

abbrev pub masks_for : Parts → Marks → ℕ → List Masks
masks_for n m c = if reads_mask (spec_of n c).kind then masks_of m c else any_mask ∷ []
