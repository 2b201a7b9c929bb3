use Rattle.std.proofs.Common.{◌≡◌, length}
use Rattle.sci_json.specs.View.{items_view}
use Rattle.sci_json.specs.Field.{truths}
use Rattle.sci_json.proofs.Wholes.{with_truths}
use Rattle.sci_json.proofs.truths.Given as goal

abbrev pub invariant-loop-item : goal.invariant-loop-item
invariant-loop-item l = with_truths l.truths.items (items_view l.items) ≡ truths (items_view l.initial.items)

abbrev pub decreases-loop-item : goal.decreases-loop-item
decreases-loop-item l = length l.items
