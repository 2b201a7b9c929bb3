use Rattle.std.proofs.Common.{List, ap, ◌∙◌}
use Rattle.std.specs.List.{sum_by}
use Rattle.sci_sched.specs.declared.outline.Outline.{Outline}
use Rattle.sci_sched.specs.Measured.{outline_entries, outline_guards}
use Rattle.sci_sched.proofs.Measuring.{measured}
use Rattle.sci_sched.proofs.planning.measure.Goals as goal

pub returns-clause-ok : goal.returns-clause-ok
returns-clause-ok c =
    let found = c.in_ok-found.ensures.ok in
    measured c.args.net.now c.well_formed-2.ensures c.in_ok-found.found.outlines.items found.outlines c.measured.result found.short
    (c.measured.ensures.entries ∙ ap (λ (os : List Outline). sum_by outline_entries os) c.deref.ensures.value)
    (c.measured.ensures.guards ∙ ap (λ (os : List Outline). sum_by outline_guards os) c.deref.ensures.value)
