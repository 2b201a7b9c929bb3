use Rattle.std.proofs.Common.{◌≡◌, length, is_some}
use Rattle.sci_json.specs.View.{items_view}
use Rattle.sci_json.specs.Field.{wholes}
use Rattle.sci_json.proofs.are_whole.Given as goal

abbrev pub invariant-loop-item : goal.invariant-loop-item
invariant-loop-item l = is_some (wholes (items_view l.items)) ≡ is_some (wholes (items_view l.initial.items))

abbrev pub decreases-loop-item : goal.decreases-loop-item
decreases-loop-item l = length l.items
