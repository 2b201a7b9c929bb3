use Rattle.std.proofs.Common.{◌∙◌, pos, Some, refl, ap, rules, FitsSigned, w64}
use Rattle.std.proofs.lemmas.Int.{to_z-of_z}
use Rattle.sci_forms.specs.Words.{param}
use Rattle.sci_ranges_base.specs.Intervals.{from_to}
use Rattle.sci_ranges_base.specs.Cells.{valued}
use Rattle.sci_ranges_rules.specs.Words.{logical_range}
use Rattle.sci_ranges_kinds.proofs.truths.logical_truths.Goals as goal

pub logical_range-range-requires-clause-order : goal.logical_range-range-requires-clause-order
logical_range-range-requires-clause-order c = c.in_ok-counts.ensures.order.0

pub logical_range-range-requires-clause-few : goal.logical_range-range-requires-clause-few
logical_range-range-requires-clause-few c = c.in_ok-counts.ensures.order.1

pub returns : goal.returns
returns c =
    let counts = from_to (pos c.in_ok-counts.counts.sure) (pos c.in_ok-counts.counts.may) in
    let fits : FitsSigned w64 c.at-op.result = search rules in
    let op = to_z-of_z w64 c.at-op.result fits ∙ c.at-op.ensures in
    let value = c.in_ok-counts.ensures.value in
    rw (← value)
    (c.of.ensures
    ∙ ap (λ i. valued (Some i)) (c.logical_range-range.ensures ∙ ap (λ z. logical_range z c.len-n.result counts) op
    ∙ ap (λ n. logical_range (param c.args.spec.now 0) n counts) c.len-n.ensures.value))

pub returns-in_err-counts : goal.returns-in_err-counts
returns-in_err-counts c = let value = c.in_err-counts.ensures.value in rw (c.from_residual.ensures, ← value) refl
