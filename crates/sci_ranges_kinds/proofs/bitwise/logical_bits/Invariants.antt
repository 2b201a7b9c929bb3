use Rattle.std.proofs.Common.{◌≡◌, ◌-◌, Some}
use Rattle.sci_forms.specs.Words.{param, out_type, size}
use Rattle.sci_ranges_rules.specs.Patterns.{InType}
use Rattle.sci_ranges_rules.specs.Words.{all_joined, input_range}
use Rattle.sci_ranges_kinds.proofs.bitwise.logical_bits.Given as goal

abbrev pub invariant-loop-k : goal.invariant-loop-k
invariant-loop-k l =
    (Some l.all ≡ all_joined (out_type l.spec) (param l.spec 0) (λ k. input_range (size l.spec) l.ins k l.e) (l.k - 1)) × InType (out_type l.spec) l.all
