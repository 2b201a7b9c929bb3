use Rattle.std.proofs.Common.{◌≡◌, true}
use Rattle.sci_ranges_rows.specs.Tests.{all_below}
use Rattle.sci_ranges_pass.specs.Pass.{holds_cells}
use Rattle.sci_ranges_sums.specs.View.{sum_told}
use Rattle.sci_ranges_find.specs.View.{ranges_of}
use Rattle.sci_ranges_find.proofs.table.RangeTable.holds_sums.Given as goal

abbrev pub invariant-loop-e : goal.invariant-loop-e
invariant-loop-e l = all_below (λ e. holds_cells (ranges_of l.self) l.block e (sum_told l.net l.block l.ins l.beside e)) l.e ≡ true
