use Rattle.std.proofs.Common.{refl, rules, FitsSigned, w64}
use Rattle.std.proofs.lemmas.Int.{to_z-of_z}
use Rattle.sci_bank_time.proofs.gated_delay.GatedDelayRuleStateRule.cell.Goals as goal

pub returns : goal.returns
returns c =
    let fits : FitsSigned w64 c.gated.result = search rules in
    let fits_gate : FitsSigned w64 c.gate.result = search rules in
    let fits_state : FitsSigned w64 c.at.result = search rules in
    rw (to_z-of_z w64 c.gated.result fits, c.gated.ensures, to_z-of_z w64 c.gate.result fits_gate, to_z-of_z w64 c.at.result fits_state, c.gate.ensures, c.at.ensures) refl
