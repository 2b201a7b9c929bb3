-- The rows to come decide.
use Rattle.std.proofs.Common.{◌≡◌, ◌+◌, ◌-◌}
use Rattle.sci_cgen_blocks.specs.Recipes.{are_as}
use Rattle.sci_cgen_blocks.proofs.table_texts.are_alike.Given as goal

abbrev pub invariant-loop-row : goal.invariant-loop-row
invariant-loop-row l = are_as l.s l.first l.row ((l.first + l.count) - l.row) ≡ are_as l.s l.first l.first l.count
