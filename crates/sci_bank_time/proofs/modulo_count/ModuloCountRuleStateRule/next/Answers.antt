use Rattle.std.proofs.Common.{sym, subst, rules, FitsSigned, w64, pos, ◌≤ℤ◌, ℤ}
use Rattle.std.proofs.lemmas.Int.{to_z-of_z}
use Rattle.sci_bank_time.proofs.CountLemmas.{count_small}
use Rattle.sci_bank_time.proofs.modulo_count.ModuloCountRuleStateRule.next.Goals as goal

pub counted-requires-clause-small : goal.counted-requires-clause-small
counted-requires-clause-small c =
    let fits : FitsSigned w64 c.at.result = search rules in
    rw (to_z-of_z w64 c.at.result fits) (subst (λ (z : ℤ). z ≤ℤ pos 4294967295) (sym c.at.ensures) (count_small c.args.spec.now c.args.state.now c.requires.typed.kind_is c.requires.state))
