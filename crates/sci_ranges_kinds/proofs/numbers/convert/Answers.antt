use Rattle.std.proofs.Common.{◌∙◌, ap}
use Rattle.sci_ranges_base.specs.Wide.{numbers}
use Rattle.sci_ranges_rules.specs.Rules.{fitted_out}
use Rattle.sci_ranges_kinds.proofs.numbers.convert.Goals as goal

pub returns : goal.returns
returns c = let value = c.in_ok-i.ensures in rw (← value) (c.fitted_out.ensures ∙ ap (fitted_out c.args.spec.now) (ap numbers c.of.ensures.value))
