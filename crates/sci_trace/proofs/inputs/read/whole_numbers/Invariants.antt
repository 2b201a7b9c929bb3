use Rattle.std.proofs.Common.{◌≡◌, drop}
use Rattle.serde_json.specs.View.{items_view}
use Rattle.sci_json.specs.Field.{wholes}
use Rattle.sci_json.proofs.Wholes.{with_rest}
use Rattle.sci_trace.proofs.inputs.read.whole_numbers.Given as goal

abbrev pub invariant-loop-item : goal.invariant-loop-item
invariant-loop-item l = with_rest l.xs.items (items_view (drop l.item-index l.items)) ≡ wholes (items_view l.items)
