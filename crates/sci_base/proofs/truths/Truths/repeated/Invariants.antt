use Rattle.std.proofs.Common.{◌≡◌}
use Rattle.sci_base.specs.Lists.{repeated}
use Rattle.sci_base.proofs.truths.Truths.repeated.Given as goal

abbrev pub invariant-loop : goal.invariant-loop
invariant-loop l = l.items.items ≡ repeated l.truth l.counter
