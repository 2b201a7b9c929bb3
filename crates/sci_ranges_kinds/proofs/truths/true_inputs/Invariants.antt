use Rattle.std.specs.Prelude.{option_map}
use Rattle.sci_forms.specs.Words.{size}
use Rattle.sci_ranges_rules.specs.Words.{truth_range, input_range}
use Rattle.sci_ranges_kinds.proofs.Counting.{AreCounted}
use Rattle.sci_ranges_kinds.proofs.truths.true_inputs.Given as goal

abbrev pub invariant-loop-k : goal.invariant-loop-k
invariant-loop-k l = AreCounted (λ k. option_map truth_range (input_range (size l.spec) l.ins k l.e)) l.k l.sure l.may
