use Rattle.std.proofs.Common.{◌≡◌, ◌+◌, ◌-◌, ◌++◌, length}
use Rattle.sci_bulk.specs.Bulk.{blocks_from, data_blocks}
use Rattle.sci_bulk.proofs.data_block.data_blocks.Given as goal

-- those that are left stand behind those that were made
abbrev pub invariant-loop-i : goal.invariant-loop-i
invariant-loop-i l = (l.blocks.items ++ blocks_from (l.fn.size + 1 - l.i) l.i l.x ≡ data_blocks l.fn.seed l.fn.size) × (length l.blocks.items + 1 ≡ l.i)
