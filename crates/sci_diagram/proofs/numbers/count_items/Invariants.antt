use Rattle.std.proofs.Common.{◌≡◌, ◌+◌, ◌≤◌, length}
use Rattle.sci_json.specs.View.{items_view}
use Rattle.sci_json.specs.Field.{wholes}
use Rattle.sci_diagram.specs.Numbers.{count_small}
use Rattle.sci_diagram.specs.Weight.{items_weight}
use Rattle.sci_diagram.proofs.Standing.{counted_on}
use Rattle.sci_diagram.proofs.numbers.count_items.Given as goal

abbrev pub invariant-loop-item : goal.invariant-loop-item
invariant-loop-item l = record {
  counted : counted_on l.count (items_view l.items) ≡ count_small (wholes (items_view l.initial.items));
  few : l.count + items_weight (items_view l.items) ≤ items_weight (items_view l.initial.items);
}

abbrev pub decreases-loop-item : goal.decreases-loop-item
decreases-loop-item l = length l.items
