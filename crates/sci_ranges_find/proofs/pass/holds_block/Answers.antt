use Rattle.std.proofs.Common.{◌||◌, not, List, Option, sym, ap, ◌∙◌}
use Rattle.sci_forms.specs.declared.spec.Spec.{Spec}
use Rattle.sci_ranges_base.specs.declared.interval.Interval.{Interval}
use Rattle.sci_ranges_pass.specs.Pass.{holds_first, is_possible}
use Rattle.sci_ranges_marks.specs.View.{marks_of}
use Rattle.sci_ranges_find.specs.declared.reads.Reading.{Reading}
use Rattle.sci_ranges_find.specs.View.{ranges_of, rule_on}
use Rattle.sci_ranges_find.specs.Readings.{entered_by}
use Rattle.sci_ranges_find.proofs.Passing.{block_is}
use Rattle.sci_ranges_find.proofs.Readings.{entered_read}
use Rattle.sci_ranges_find.proofs.pass.holds_block.Goals as goal

pub returns : goal.returns
returns c =
    let n = c.args.net.now in
    let i = c.args.inputs.now in
    let m = marks_of c.args.marks.now in
    let r = ranges_of c.args.table.now in
    let b = c.args.block in
    c.all_hold.ensures
    ∙ block_is n i m r b c.deref-2.result.now c.holds_first-first.result c.is_alive-alive.result c.in_ok-rule.rule c.well_formed-2.ensures c.requires.block
    (c.deref-2.ensures.value
    ∙ (c.in_ok-ins.ensures ∙ (ap (λ (qs : List Reading). entered_by n i r qs b) c.deref.ensures.value ∙ entered_read n i m r c.in_ok-readings.readings.items b c.in_ok-readings.ensures)))
    (c.holds_first-first.ensures ∙ ap (λ (s : Spec). holds_first s r b) c.spec.ensures.value) c.is_alive-alive.ensures
    (c.in_ok-rule.ensures ∙ ap (λ (us : List (Option Interval)). not (is_possible m b) || rule_on n c.args.inputs.now m r b us) (c.deref-3.ensures.value ∙ sym c.deref-2.ensures.value))
