use Rattle.std.proofs.Common.{◌≡◌, true, [], Some, slice_index_or}
use Rattle.sci_ranges_base.specs.Intervals.{within}
use Rattle.sci_ranges_rows.specs.Tests.{all_below}
use Rattle.sci_ranges_rules.specs.Rules.{next_range, state_range}
use Rattle.sci_ranges_find.specs.View.{ranges_of}
use Rattle.sci_ranges_find.proofs.table.RangeTable.holds_next.Given as goal

abbrev pub invariant-loop-k : goal.invariant-loop-k
invariant-loop-k l =
    all_below (λ k. within (next_range l.spec (slice_index_or (ranges_of l.self).states l.block []) l.ins k) (Some (state_range (slice_index_or (ranges_of l.self).states l.block []) k))) l.k ≡ true
