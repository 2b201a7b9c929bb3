-- How a block takes its inputs, and what goes into it where it takes them so.
use Rattle.std.specs.Prelude.{◌≡◌, ℕ, ◌+◌, ◌-◌, ◌<◌, zero, suc, false, nat_eq, if◌then◌else◌, List, [], ◌∷◌, ◌++◌, length, Option, Some, None, slice_index_or}
use Rattle.sci_forms.specs.declared.ports.Port.{Port}
use Rattle.sci_forms.specs.Form.{is_sensor}
use Rattle.sci_forms.specs.Ports.{elements}
use Rattle.sci_net.specs.Parts.{Parts, spec_of, wire_of}
use Rattle.sci_reaction.specs.Memory.{Columns}
use Rattle.sci_ranges_base.specs.declared.interval.Interval.{Interval}
use Rattle.sci_ranges.specs.Columns.{sensed_range}
use Rattle.sci_ranges.specs.Reads.{fed_element}
use Rattle.sci_ranges_rows.specs.Marks.{Marks}
use Rattle.sci_ranges_rows.specs.Tests.{is_shown}
use Rattle.sci_ranges_pass.specs.Ranges.{Ranges}
use Rattle.sci_ranges_find.specs.declared.reads.Reading.{Reading}
use Rattle.sci_ranges_find.specs.View.{narrowed, fed_range, IsTaken}

-- where nothing better is known, what the feeder holds is taken
abbrev pub no_reading : Reading
no_reading = record { shown = false; numbers = None }

-- the marks tell that input k is taken so
pub record IsReading (n : Parts) (m : Marks) (c k : ℕ) (q : Reading) : Type 0 where
  pub shown : q.shown ≡ is_shown n m c (k - 1)
  pub taken : IsTaken n m c k (slice_index_or m.under c None) q.numbers

-- and each input, from the first to number `count`
abbrev pub AreReadingsTo : Parts → Marks → (block count : ℕ) → List Reading → Type 0
AreReadingsTo n m c count qs = (length qs ≡ count) × ((k : ℕ) → k < count → IsReading n m c (k + 1) (slice_index_or qs k no_reading))

abbrev pub AreReadings : Parts → Marks → ℕ → List Reading → Type 0
AreReadings n m c qs = AreReadingsTo n m c (length (spec_of n c).ins) qs

-- ---- what goes in

-- element d of input k, counted from 1
abbrev pub plain_by : Parts → Ranges → Reading → (c k d : ℕ) → Option Interval
plain_by n r q c k d = fed_range n r q.shown (wire_of n c k).block (fed_element n c k d)

abbrev pub element_by : Parts → Ranges → Reading → (c k d : ℕ) → Option Interval
element_by n r q c k d = if nat_eq d 0 then narrowed q.numbers (plain_by n r q c k d) else plain_by n r q c k d

-- the first elements of an input, and all elements of the inputs behind the first j
abbrev pub port_by : Parts → Ranges → Reading → (c k count : ℕ) → List (Option Interval)
port_by n r q c k zero = []
port_by n r q c k (suc d) = port_by n r q c k d ++ element_by n r q c k d ∷ []

abbrev pub ports_by : Parts → Ranges → List Reading → (c j : ℕ) → List Port → List (Option Interval)
ports_by n r qs c j [] = []
ports_by n r qs c j (p ∷ ps) = port_by n r (slice_index_or qs j no_reading) c (j + 1) (elements p) ++ ports_by n r qs c (j + 1) ps

-- to a sensor goes what its column has
abbrev pub entered_by : Parts → Columns → Ranges → List Reading → ℕ → List (Option Interval)
entered_by n i r qs c = if is_sensor (spec_of n c).kind then Some (sensed_range i (spec_of n c)) ∷ [] else ports_by n r qs c 0 (spec_of n c).ins
