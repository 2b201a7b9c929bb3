use Rattle.std.proofs.Common.{sym, subst, rules, FitsSigned, w64, pos, ◌≤ℤ◌, ℤ}
use Rattle.std.proofs.lemmas.Int.{to_z-of_z}
use Rattle.sci_bank_math.proofs.KindLemmas.{number_least}
use Rattle.sci_bank_math.proofs.extractor.ExtractorRuleCellRule.cell.Goals as goal

pub element_numbered-requires : goal.element_numbered-requires
element_numbered-requires c =
    let fits : FitsSigned w64 c.param.result = search rules in
    rw (to_z-of_z w64 c.param.result fits) (subst (λ (z : ℤ). pos 1 ≤ℤ z) (sym c.param.ensures) (number_least c.args.spec.now c.args.at c.requires.typed.asks c.requires.at))
