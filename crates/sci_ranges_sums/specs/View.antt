-- What goes in with a sum, in plain form.
use Rattle.std.specs.Prelude.{ℕ, List, Option, Some, None, option_map}
use Rattle.sci_net.specs.Parts.{Parts, spec_of}
use Rattle.sci_forms.specs.declared.spec.Spec.{Spec}
use Rattle.sci_ranges_base.specs.declared.interval.Interval.{Interval}
use Rattle.sci_ranges_base.specs.declared.cells.Cells.{Cells}
use Rattle.sci_ranges_base.specs.Intervals.{meet}
use Rattle.sci_ranges_rules.specs.Rules.{exact_sums}
use Rattle.sci_ranges_refined.specs.Sums.{sum_cells, leaking_sums}
use Rattle.sci_ranges_pass.specs.Told.{Leak as PlainLeak, between_inputs}
use Rattle.sci_ranges_sums.specs.declared.parts.Leak.{Leak}
use Rattle.sci_ranges_sums.specs.declared.parts.Followed.{Followed}
use Rattle.sci_ranges_sums.specs.declared.parts.Beside.{Beside}

abbrev pub leak_of : Leak → PlainLeak
leak_of l = record { kept = l.kept; lost = l.lost; places = l.places }

-- of exact values those between the inputs of the difference that is followed
abbrev pub by_followed : Parts → ℕ → Option Followed → Option Interval → Option Interval
by_followed n e None o = o
by_followed n e (Some f) o = between_inputs (spec_of n f.block) f.ins.items e o

-- and those that the sum has, where it leaks
abbrev pub by_leak : Spec → List (Option Interval) → ℕ → Option PlainLeak → Option Interval → Option Interval
by_leak s us e None o = o
by_leak s us e (Some l) o = meet o (leaking_sums s l.kept l.lost l.places us e)

abbrev pub sum_told : Parts → ℕ → List (Option Interval) → Beside → ℕ → Cells
sum_told n c us b e =
    sum_cells (spec_of n c) (by_leak (spec_of n c) us e (option_map leak_of b.leak) (by_followed n e b.followed (exact_sums (spec_of n c) us e)))
