-- The entries to come decide.
use Rattle.std.proofs.Common.{◌≡◌, ◌-◌, length}
use Rattle.sci_cgen_blocks.specs.Recipes.{same_entries}
use Rattle.sci_cgen_blocks.proofs.table_texts.is_same_row.Given as goal

abbrev pub invariant-loop-e : goal.invariant-loop-e
invariant-loop-e l = same_entries l.s l.row l.other l.e (length l.s.outs - l.e) ≡ same_entries l.s l.row l.other 0 (length l.s.outs)
