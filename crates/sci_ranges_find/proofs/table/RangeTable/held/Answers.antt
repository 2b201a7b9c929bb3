use Rattle.std.proofs.Common.{[], slice_index_or, ◌∙◌, ap, w64, rules}
use Rattle.std.proofs.lemmas.Int.{to_z-of_z}
use Rattle.sci_ranges_base.specs.declared.interval.Interval.{Interval}
use Rattle.sci_ranges_base.specs.Intervals.{one, join, range_at}
use Rattle.std.proofs.Common.{Option, Some}
use Rattle.sci_ranges_find.specs.View.{ranges_of}
use Rattle.sci_ranges_find.proofs.Entering.{held_is}
use Rattle.sci_ranges_find.proofs.table.RangeTable.held.Goals as goal

pub returns : goal.returns
returns c =
    c.join.ensures
    ∙ (ap (λ (o : Option Interval). join (Some c.one-first.result) o) c.shown.ensures
    ∙ held_is c.args.net.now c.args.block c.args.e c.spec.result.now c.held.result c.one-first.result (range_at (slice_index_or (ranges_of c.args.self.now).shows c.args.block []) c.args.e)
    c.spec.ensures.value c.held.ensures (c.one-first.ensures ∙ ap one (to_z-of_z w64 c.held.result (search rules))) c.requires.element)
