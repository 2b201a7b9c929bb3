use Rattle.std.proofs.Common.{◌∙◌, ap, rules, FitsSigned, w64}
use Rattle.std.proofs.lemmas.Int.{to_z-of_z}
use Rattle.sci_forms.specs.Words.{param}
use Rattle.sci_ranges_base.specs.Intervals.{times}
use Rattle.sci_ranges_base.specs.Wide.{numbers}
use Rattle.sci_ranges_rules.specs.Rules.{fitted_out}
use Rattle.sci_ranges_kinds.proofs.sums.gain.Goals as goal

pub returns : goal.returns
returns c =
    let s = c.args.spec.now in
    let fits : FitsSigned w64 c.at.result = search rules in
    let factor = to_z-of_z w64 c.at.result fits ∙ c.at.ensures in
    let value = c.in_ok-i.ensures in
    rw (← value)
    (c.fitted_out.ensures
    ∙ ap (fitted_out s) (c.times-products.ensures.value ∙ ap (λ z. times z (numbers c.of.result)) factor
    ∙ ap (times (param s 1)) (ap numbers c.of.ensures.value)))
