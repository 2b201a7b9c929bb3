use Rattle.std.proofs.Common.{◌+◌, ◌-◌, ◌%◌, ap, arith}
use Rattle.sci_base.proofs.FitLemmas.{span_at_most}
use Rattle.sci_ranges_kinds.proofs.patterns.lowest.Goals as goal

pub overflow_add-size : goal.overflow_add-size
overflow_add-size c = omega (arith, c.open_bits-size.ensures.few, span_at_most c.args.ty)

pub returns-clause-value : goal.returns-clause-value
returns-clause-value c = ap (λ o. c.args.p.least - c.args.p.least % (o + 1)) c.open_bits-size.ensures.value

pub returns-clause-bits : goal.returns-clause-bits
returns-clause-bits c = omega (arith, c.requires.least)
