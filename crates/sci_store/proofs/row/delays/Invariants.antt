use Rattle.std.proofs.Common.{◌≡◌, take}
use Rattle.sci_forms.specs.Form.{has_delay}
use Rattle.sci_store.specs.Chosen.{of_kinds}
use Rattle.sci_store.proofs.row.delays.Given as goal

-- those of the blocks so far
abbrev pub invariant-loop-block : goal.invariant-loop-block
invariant-loop-block l = l.some.items ≡ of_kinds l.frame.net has_delay (take l.block-index l.blocks)
