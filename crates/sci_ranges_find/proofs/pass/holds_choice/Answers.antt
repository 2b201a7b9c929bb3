use Rattle.std.proofs.Common.{◌≡◌, List, Option, sym, ap, ◌∙◌, arith}
use Rattle.sci_forms.specs.declared.spec.Spec.{Spec}
use Rattle.sci_forms.specs.Ports.{total}
use Rattle.sci_ranges_base.specs.declared.interval.Interval.{Interval}
use Rattle.sci_ranges_base.specs.declared.masks.Masks.{Masks}
use Rattle.sci_ranges_pass.specs.Ranges.{masks_for}
use Rattle.sci_ranges_pass.specs.Pass.{holds_values}
use Rattle.sci_ranges_pass.specs.Taken.{taken_ranges}
use Rattle.sci_ranges_marks.specs.View.{marks_of}
use Rattle.sci_ranges_find.specs.View.{ranges_of}
use Rattle.sci_ranges_find.proofs.Choices.{all_taken_is}
use Rattle.sci_ranges_find.proofs.Counted.{outs_small}
use Rattle.sci_ranges_find.proofs.pass.holds_choice.Goals as goal

pub holds_values-requires-clause-few : goal.holds_values-requires-clause-few
holds_values-requires-clause-few c =
    let same = ap (λ (s : Spec). total s.outs) c.spec-spec.ensures.value in
    let small = outs_small c.args.net.now c.args.block c.well_formed-2.ensures c.requires.block in
    omega (arith, same, small)

pub returns : goal.returns
returns c =
    let n = c.args.net.now in
    let i = c.args.inputs.now in
    let m = marks_of c.args.marks.now in
    let r = ranges_of c.args.table.now in
    let b = c.args.block in
    c.holds_values.ensures
    ∙ (ap (λ (ms : List Masks). holds_values c.spec-spec.result.now r b ms c.deref-2.result.now) (c.deref.ensures.value ∙ c.in_ok-masks.ensures)
    ∙ (ap (holds_values c.spec-spec.result.now r b (masks_for n m b))
    (c.deref-2.ensures.value ∙ (c.in_ok-taken.ensures ∙ all_taken_is n i m r b c.args.ins.now c.in_ok-choice.choice c.in_ok-choice.ensures.before))
    ∙ ap (λ (s : Spec). holds_values s r b (masks_for n m b) (taken_ranges n i m r b c.args.ins.now)) c.spec-spec.ensures.value))
