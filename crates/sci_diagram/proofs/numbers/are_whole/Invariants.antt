use Rattle.std.proofs.Common.{◌≡◌, length}
use Rattle.sci_json.specs.View.{items_view}
use Rattle.sci_diagram.specs.Numbers.{all_whole}
use Rattle.sci_diagram.proofs.numbers.are_whole.Given as goal

abbrev pub invariant-loop-item : goal.invariant-loop-item
invariant-loop-item l = all_whole (items_view l.items) ≡ all_whole (items_view l.initial.items)

abbrev pub decreases-loop-item : goal.decreases-loop-item
decreases-loop-item l = length l.items
