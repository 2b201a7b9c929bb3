use Rattle.std.proofs.Common.{◌≡◌, true, [], slice_index_or}
use Rattle.sci_base.specs.Lists.{at}
use Rattle.sci_kinds.specs.Table.{first_state}
use Rattle.sci_ranges_base.specs.Intervals.{has}
use Rattle.sci_ranges_rows.specs.Tests.{all_below}
use Rattle.sci_ranges_rules.specs.Rules.{state_range}
use Rattle.sci_ranges_find.specs.View.{ranges_of}
use Rattle.sci_ranges_find.proofs.table.RangeTable.holds_first.Given as goal

abbrev pub invariant-loop-k : goal.invariant-loop-k
invariant-loop-k l = all_below (λ k. has (state_range (slice_index_or (ranges_of l.self).states l.block []) k) (at (first_state l.spec) k)) l.k ≡ true
