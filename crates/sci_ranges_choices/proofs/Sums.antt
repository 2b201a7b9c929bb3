-- The terms of a sum before a switch.
use Rattle.std.proofs.Common.{ℕ, ◌+◌, Bool, Option}
use Rattle.std.specs.Prelude.{option_map}
use Rattle.sci_forms.specs.Words.{param}
use Rattle.sci_net.specs.Parts.{Parts, spec_of}
use Rattle.sci_ranges_base.specs.declared.interval.Interval.{Interval}
use Rattle.sci_ranges_base.specs.Intervals.{times}
use Rattle.sci_ranges_sums.specs.declared.parts.Followed.{Followed}
use Rattle.sci_ranges_choices.specs.declared.parts.Choice.{Choice}
use Rattle.sci_ranges_choices.specs.View.{summand_by}

abbrev pub sum_term : Parts → ℕ → Bool → Choice → Followed → ℕ → Option Interval
sum_term n c first b f j = option_map (times (param (spec_of n f.block) (j + 1))) (summand_by n c first b f j)
