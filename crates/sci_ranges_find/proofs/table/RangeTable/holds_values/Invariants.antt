use Rattle.std.proofs.Common.{◌≡◌, true, [], slice_index_or}
use Rattle.sci_ranges_rows.specs.Tests.{all_below}
use Rattle.sci_ranges_rules.specs.Rules.{cells}
use Rattle.sci_ranges_pass.specs.Pass.{holds_cells}
use Rattle.sci_ranges_find.specs.View.{ranges_of}
use Rattle.sci_ranges_find.proofs.table.RangeTable.holds_values.Given as goal

abbrev pub invariant-loop-e : goal.invariant-loop-e
invariant-loop-e l =
    all_below (λ e. holds_cells (ranges_of l.self) l.block e (cells l.spec (slice_index_or (ranges_of l.self).states l.block []) l.masks l.ins e)) l.e ≡ true
