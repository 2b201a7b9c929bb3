use Rattle.std.proofs.Common.{◌≡◌, Some, sym, rules}
use Rattle.sci_json.specs.View.{view, items_view}
use Rattle.sci_diagram.specs.Numbers.{side_in}
use Rattle.sci_diagram.proofs.Items.{taken}
use Rattle.sci_diagram.proofs.Standing.{end_taken}
use Rattle.sci_diagram.proofs.numbers.end_of.Goals as goal

pub returns : goal.returns
returns c =
    let first = taken (items_view c.in_ok-items.items) (view c.in_ok-next.field-0) (items_view c.next.new.self) c.in_ok-next.ensures.value in
    let second = taken (items_view c.next.new.self) (view c.in_ok-next-2.field-0) (items_view c.next-2.new.self) c.in_ok-next-2.ensures.value in
    let side : side_in c.args.side (items_view c.next-2.new.self) ≡ Some c.in_ok-side.side = search rules in
    let is = end_taken c.args.side (view c.args.found.now) (items_view c.in_ok-items.items) (items_view c.next.new.self) (items_view c.next-2.new.self) (view c.in_ok-next.field-0) (view c.in_ok-next-2.field-0) c.in_ok-block.block c.in_ok-port.port c.in_ok-side.side (sym c.in_ok-items.ensures) first second (sym c.in_ok-block.ensures) (sym c.in_ok-port.ensures) side in
    search (rules, is)
