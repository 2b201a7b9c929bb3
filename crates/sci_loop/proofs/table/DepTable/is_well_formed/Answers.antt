use Rattle.std.proofs.Common.{subst, sym, ◌∙◌}
use Rattle.std.specs.List.Sorted.{IsStrictlyIncreasing}
use Rattle.sci_loop.proofs.Places.{table_fits}
use Rattle.sci_loop.proofs.table.DepTable.is_well_formed.Goals as goal

pub returns : goal.returns
returns c =
    let t = c.args.self.now in
    table_fits t c.rows_fit.result c.deref-2.result.now c.deref-3.result.now c.deref-2.ensures.value c.deref-3.ensures.value
    (subst IsStrictlyIncreasing c.deref.ensures.value (c.rises.ensures.0 c.if-not-rises.false))
    (sym t.needs.ok.0 ∙ (sym c.len.ensures ∙ (c.if-len.false ∙ (c.len-2.ensures ∙ t.members.ok.0)))) c.rows_fit.ensures
