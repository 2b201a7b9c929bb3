use Rattle.std.proofs.Common.{cond, ap, sym, ◌∙◌}
use Rattle.sci_json.specs.View.{view, items_view}
use Rattle.sci_json.specs.declared.FieldStop.TheVariants.{Wrong, Memory}
use Rattle.sci_json.proofs.Wholes.{lost}
use Rattle.sci_json.proofs.whole_numbers.Goals as goal

pub returns-then-is_err-clause-stop : goal.returns-then-is_err-clause-stop
returns-then-is_err-clause-stop c =
    lost c.loop-item.xs.items c.in-Some-as_i64.n (view c.in-Some.item) (items_view c.loop-item.items) (items_view c.next.new.self) _ c.without_memory.result c.loop-item.invariant c.in-Some.ensures.value (sym c.in-Some-as_i64.ensures) (c.without_memory.ensures ∙ ap (λ b. cond b Memory Wrong) c.are_whole.ensures)
