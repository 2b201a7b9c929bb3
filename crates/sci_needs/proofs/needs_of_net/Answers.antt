use Rattle.std.proofs.Common.{◌∙◌}
use Rattle.sci_needs.proofs.Sensors.{column_block, all_needs}
use Rattle.sci_needs.proofs.needs_of_net.Goals as goal

pub path-requires : goal.path-requires
path-requires c =
    let h = column_block c.args.net.now _ c.loop-column.column-index _ (c.deref-column-items.ensures.value ∙ c.in_ok-columns.ensures) c.loop-column-test.true in
    record { least = h.least; most = h.most }

pub returns-clause-exact : goal.returns-clause-exact
returns-clause-exact c =
    all_needs _ _ _ c.loop-column.column-index (c.deref-column-items.ensures.value ∙ c.in_ok-columns.ensures) c.loop-column-test.false c.loop-column.invariant
