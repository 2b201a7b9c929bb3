-- The widest table as lists.
use Rattle.std.specs.Prelude.{◌≡◌, ℕ, ◌+◌, ◌<◌, List, [], ◌∷◌, ◌++◌, length, replicate, Option, Some, slice_index_or}
use Rattle.sci_forms.specs.declared.ports.Port.{Port}
use Rattle.sci_forms.specs.Ports.{elements, type_of}
use Rattle.sci_forms.specs.Words.{out_type}
use Rattle.sci_net.specs.Parts.{Parts, spec_of}
use Rattle.sci_ranges_base.specs.declared.interval.Interval.{Interval}
use Rattle.sci_ranges_base.specs.Intervals.{whole}

-- any number of its type for each element of the ports
abbrev pub whole_ports : List Port → List (Option Interval)
whole_ports [] = []
whole_ports (p ∷ ps) = replicate (elements p) (Some (whole (type_of p))) ++ whole_ports ps

-- of the first blocks, so many
abbrev pub AreWholeShowsTo : Parts → ℕ → List (List (Option Interval)) → Type 0
AreWholeShowsTo n count shows = (length shows ≡ count + 1) × ((b : ℕ) → b < count → slice_index_or shows (b + 1) [] ≡ whole_ports (spec_of n (b + 1)).outs)

abbrev pub AreWholeShows : Parts → List (List (Option Interval)) → Type 0
AreWholeShows n shows = AreWholeShowsTo n (length n.specs) shows

abbrev pub AreWholeStatesTo : Parts → ℕ → List (List Interval) → Type 0
AreWholeStatesTo n count states = (length states ≡ count + 1) × ((b : ℕ) → b < count → slice_index_or states (b + 1) [] ≡ whole (out_type (spec_of n (b + 1))) ∷ [])

abbrev pub AreWholeStates : Parts → List (List Interval) → Type 0
AreWholeStates n states = AreWholeStatesTo n (length n.specs) states
