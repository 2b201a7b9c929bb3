-- What goes in with a switch, in plain form.
use Rattle.std.specs.Prelude.{◌≡◌, ℕ, ◌+◌, Bool, true, false, if◌then◌else◌, List, [], ◌∷◌, Option, Some, None, IfSome}
use Rattle.sci_forms.specs.Words.{size}
use Rattle.sci_net.specs.declared.Wire.{Wire}
use Rattle.sci_net.specs.Parts.{Parts, IsBlock, spec_of, wire_of}
use Rattle.sci_ranges_base.specs.declared.interval.Interval.{Interval}
use Rattle.sci_ranges_base.specs.Intervals.{meet, range_at}
use Rattle.sci_ranges_refined.specs.Sums.{is_sum, sum_cells}
use Rattle.sci_ranges_refined.specs.Choices.{taken_input, taken_place, compares, known_truth, sum_of}
use Rattle.sci_ranges_pass.specs.Taken.{by_condition, by_truth}
use Rattle.sci_ranges_sums.specs.declared.parts.Followed.{Followed}
use Rattle.sci_ranges_choices.specs.declared.parts.Choice.{Choice}

-- ---- the blocks before a switch

-- a block compares, and one adds, numbers of one element
pub record IsCompared (n : Parts) (g : ℕ) : Type 0 where
  pub block : IsBlock n g
  pub comparing : compares (spec_of n g).kind ≡ true

pub record IsAdded (n : Parts) (g : ℕ) : Type 0 where
  pub block : IsBlock n g
  pub sum : is_sum (spec_of n g).kind ≡ true
  pub single : size (spec_of n g) ≡ 1

-- those of a choice are such
pub record AreFollowed (n : Parts) (b : Choice) : Type 0 where
  pub compared : IfSome b.compared (λ f. IsCompared n f.block)
  pub first : IfSome b.first (λ f. IsAdded n f.block)
  pub third : IfSome b.third (λ f. IsAdded n f.block)

-- ---- what it takes

abbrev pub by_looked : Parts → ℕ → Bool → Wire → Option Followed → Option Interval → Option Interval
by_looked n c first w None o = o
by_looked n c first w (Some f) o = by_truth n f.block f.ins.items w (known_truth (spec_of n c) first) o

abbrev pub kept_by : Parts → ℕ → Bool → Choice → Wire → Option Interval → Option Interval
kept_by n c first b w o = by_looked n c first w b.compared (by_condition n c first w o)

abbrev pub summand_by : Parts → ℕ → Bool → Choice → Followed → ℕ → Option Interval
summand_by n c first b f j = kept_by n c first b (wire_of n f.block (j + 1)) (range_at f.ins.items j)

abbrev pub by_added : Parts → ℕ → Bool → Choice → Option Followed → Option Interval → Option Interval
by_added n c first b None o = o
by_added n c first b (Some f) o = meet o ((sum_cells (spec_of n f.block) (sum_of (spec_of n f.block) (summand_by n c first b f))).values)

abbrev pub sum_before : Choice → Bool → Option Followed
sum_before b first = if first then b.first else b.third

abbrev pub taken_by : Parts → ℕ → List (Option Interval) → Choice → Bool → Option Interval
taken_by n c us b first = by_added n c first b (sum_before b first) (kept_by n c first b (wire_of n c (taken_input first)) (range_at us (taken_place first)))

-- what its rule is told to go in
abbrev pub all_taken_by : Parts → ℕ → List (Option Interval) → Choice → List (Option Interval)
all_taken_by n c us b = taken_by n c us b true ∷ range_at us 1 ∷ taken_by n c us b false ∷ []
