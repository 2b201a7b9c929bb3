use Rattle.std.proofs.Common.{arith, rules}
use Rattle.std.proofs.lemmas.Int.{to_z-of_z}
use Rattle.sci_forms.specs.Words.{out_type, size}
use Rattle.sci_kinds.proofs.Elements.{total_one}
use Rattle.sci_bank_logic.proofs.switch2.Switch2RuleCellRule.cell.Goals as goal

pub returns-then-switches : goal.returns-then-switches
returns-then-switches c = first_of (search (rules, to_z-of_z), grind (arith, to_z-of_z))

pub returns-else-switches : goal.returns-else-switches
returns-else-switches c = first_of (search (rules, to_z-of_z), grind (arith, to_z-of_z))

pub overflow_add-size-else-switches : goal.overflow_add-size-else-switches
overflow_add-size-else-switches c =
    let s = c.args.spec.now in
    let a = c.requires.typed.asks.0 in
    omega (arith, c.requires.at, c.requires.typed.small, c.size-size.ensures, total_one s.outs (out_type s) (size s) a.outs_alike a.one)
