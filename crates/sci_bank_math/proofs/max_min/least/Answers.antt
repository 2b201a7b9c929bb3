use Rattle.std.proofs.Common.{◌∙◌, arith, rules, FitsSigned, w64, to_z}
use Rattle.std.proofs.lemmas.Int.{to_z-of_z}
use Rattle.sci_forms.specs.Words.{size}
use Rattle.sci_kinds.specs.Table.{input}
use Rattle.sci_bank_math.proofs.KindLemmas.{least_more}
use Rattle.sci_bank_math.proofs.max_min.least.Goals as goal

pub loop-k-preserved : goal.loop-k-preserved
loop-k-preserved c =
    let fits : FitsSigned w64 c.min-least.result = search rules in
    let fits_input : FitsSigned w64 c.input.result = search rules in
    least_more (λ k. input (size c.args.spec.now) c.args.ins.now k c.args.at) c.loop-k.k (to_z w64 c.loop-k.least-bits) _ _ (omega arith) c.loop-k.invariant (to_z-of_z w64 c.input.result fits_input ∙ c.input.ensures) (to_z-of_z w64 c.min-least.result fits ∙ c.min-least.ensures.value)
