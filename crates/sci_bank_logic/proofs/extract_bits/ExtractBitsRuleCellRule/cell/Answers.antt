use Rattle.std.proofs.Common.{arith, rules}
use Rattle.std.proofs.lemmas.Int.{to_z-of_z}
use Rattle.sci_bank_logic.proofs.extract_bits.ExtractBitsRuleCellRule.cell.Goals as goal

pub returns : goal.returns
returns c = first_of (search (rules, to_z-of_z), grind (arith, to_z-of_z))
