use Rattle.std.proofs.Common.{◌≡◌, ◌∙◌, Some, refl, ap, rules, FitsSigned, w64}
use Rattle.std.proofs.lemmas.Int.{to_z-of_z}
use Rattle.sci_forms.specs.Words.{param}
use Rattle.sci_ranges_base.specs.declared.interval.Interval.{Interval}
use Rattle.sci_ranges_base.specs.Intervals.{minus}
use Rattle.sci_ranges_base.specs.Cells.{valued}
use Rattle.sci_ranges_base.specs.Wide.{numbers}
use Rattle.sci_ranges_rules.specs.Words.{relation_range}
use Rattle.sci_ranges_kinds.proofs.numbers.relational_op.Goals as goal

less : {i j k l : Interval} → i ≡ j → k ≡ l → minus i k ≡ minus j l
less e f = rw (e, f) refl

pub returns : goal.returns
returns c =
    let fits : FitsSigned w64 c.at.result = search rules in
    let op = to_z-of_z w64 c.at.result fits ∙ c.at.ensures in
    let first = c.in_ok-i.ensures in
    let second = c.in_ok-j.ensures in
    rw (← first, ← second)
    (c.of-3.ensures
    ∙ ap (λ r. valued (Some r)) (c.relation_range.ensures ∙ ap (λ z. relation_range z (numbers c.minus-difference.result)) op
    ∙ ap (relation_range (param c.args.spec.now 0)) (c.minus-difference.ensures ∙ less (ap numbers c.of.ensures.value) (ap numbers c.of-2.ensures.value))))
