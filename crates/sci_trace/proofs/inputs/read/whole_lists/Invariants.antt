use Rattle.std.proofs.Common.{◌≡◌, drop}
use Rattle.serde_json.specs.View.{items_view}
use Rattle.sci_trace.specs.Columns.{columns_view}
use Rattle.sci_trace.specs.Reading.{whole_lists}
use Rattle.sci_trace.proofs.Reading.{with_rest}
use Rattle.sci_trace.proofs.inputs.read.whole_lists.Given as goal

abbrev pub invariant-loop-item : goal.invariant-loop-item
invariant-loop-item l = with_rest (columns_view l.columns.items) (drop l.item-index l.items) ≡ whole_lists (items_view l.items)
