use Rattle.std.proofs.Common.{arith, rules}
use Rattle.std.proofs.lemmas.Int.{to_z-of_z}
use Rattle.sci_bank_logic.proofs.shift.ShiftRuleCellRule.cell.Goals as goal

pub returns-then-is_equal : goal.returns-then-is_equal
returns-then-is_equal c = first_of (search (rules, to_z-of_z), grind (arith, to_z-of_z))

pub returns-else-is_equal : goal.returns-else-is_equal
returns-else-is_equal c = first_of (search (rules, to_z-of_z), grind (arith, to_z-of_z))
