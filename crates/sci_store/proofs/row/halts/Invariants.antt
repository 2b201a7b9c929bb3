use Rattle.std.proofs.Common.{◌≡◌, take}
use Rattle.sci_forms.specs.Form.{is_halt}
use Rattle.sci_store.specs.Chosen.{of_kinds}
use Rattle.sci_store.proofs.row.halts.Given as goal

-- those of the blocks so far
abbrev pub invariant-loop-block : goal.invariant-loop-block
invariant-loop-block l = l.some.items ≡ of_kinds l.frame.net is_halt (take l.block-index l.blocks)
