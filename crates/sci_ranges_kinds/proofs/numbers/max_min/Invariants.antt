use Rattle.std.proofs.Common.{◌≡◌, ◌-◌, Some, cond}
use Rattle.std.specs.Int.{int_min, int_max}
use Rattle.sci_forms.specs.Words.{size}
use Rattle.sci_ranges_rules.specs.Words.{extremes, input_range}
use Rattle.sci_ranges_kinds.proofs.numbers.max_min.Given as goal

abbrev pub invariant-loop-k : goal.invariant-loop-k
invariant-loop-k l = Some l.all ≡ extremes (cond l.least int_min int_max) (λ k. input_range (size l.spec) l.ins k l.e) (l.k - 1)
