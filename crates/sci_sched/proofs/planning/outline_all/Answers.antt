use Rattle.std.proofs.Common.{◌<◌, ◌≤◌, ◌^◌, List, subst, sym, ap, ◌∙◌}
use Rattle.std.specs.List.{sum_by}
use Rattle.sci_sched.specs.declared.outline.Outline.{Outline}
use Rattle.sci_sched.specs.Outlines.{outline_size}
use Rattle.sci_sched.proofs.Planned.{total_fits, too_long}
use Rattle.sci_sched.proofs.planning.outline_all.Goals as goal

pub total-size-requires : goal.total-size-requires
total-size-requires c =
    subst (λ (os : List Outline). sum_by outline_size os < 2 ^ 63) (sym c.deref.ensures.value)
    (total_fits c.args.net.now c.well_formed-2.ensures c.in_ok-outlines.outlines.items c.in_ok-outlines.ensures.ok)

pub length_stop-requires : goal.length_stop-requires
length_stop-requires c =
    let fits = subst (λ (os : List Outline). sum_by outline_size os < 2 ^ 63) (sym c.deref.ensures.value)
    (total_fits c.args.net.now c.well_formed-2.ensures c.in_ok-outlines.outlines.items c.in_ok-outlines.ensures.ok) in
    subst (λ m. m < 2 ^ 63) (sym c.total-size.ensures) fits

pub returns-then-size-gt-ENTRIES-clause-stop : goal.returns-then-size-gt-ENTRIES-clause-stop
returns-then-size-gt-ENTRIES-clause-stop c =
    too_long c.args.net.now c.well_formed-2.ensures c.in_ok-outlines.outlines.items c.in_ok-outlines.ensures.ok c.total-size.result c.length_stop.result
    (c.total-size.ensures ∙ ap (λ (os : List Outline). sum_by outline_size os) c.deref.ensures.value) c.if-size-gt-ENTRIES.true c.length_stop.ensures

pub returns-clause-ok : goal.returns-clause-ok
returns-clause-ok c =
    let same = c.total-size.ensures ∙ ap (λ (os : List Outline). sum_by outline_size os) c.deref.ensures.value in
    record {
      origins = c.in_ok-reach.ensures;
      outlines = c.in_ok-outlines.ensures.ok;
      short = subst (λ m. m ≤ 262144) same c.if-size-gt-ENTRIES.false;
    }
