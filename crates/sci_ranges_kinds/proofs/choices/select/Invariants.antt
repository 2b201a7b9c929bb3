use Rattle.std.proofs.Common.{◌≡◌}
use Rattle.sci_forms.specs.Words.{size}
use Rattle.sci_ranges_base.specs.Masks.{some_choose}
use Rattle.sci_ranges_rules.specs.Words.{joins, if_so, input_range}
use Rattle.sci_ranges_kinds.proofs.choices.select.Given as goal

abbrev pub invariant-loop-k : goal.invariant-loop-k
invariant-loop-k l = l.all ≡ joins (λ k. if_so (some_choose l.masks k) (input_range (size l.spec) l.ins k l.e)) l.k
