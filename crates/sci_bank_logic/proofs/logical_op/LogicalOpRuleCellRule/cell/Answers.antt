use Rattle.std.proofs.Common.{◌∙◌, ℕ, ℤ, length, ap, sym, rules, FitsSigned, w64}
use Rattle.std.proofs.lemmas.Int.{to_z-of_z}
use Rattle.sci_forms.specs.Words.{out_type, size, param}
use Rattle.sci_kinds.specs.Table.{input, truth}
use Rattle.sci_bank_logic.proofs.JoinLemmas.{truth_cell, bits_cell}
use Rattle.sci_bank_logic.proofs.logical_op.LogicalOpRuleCellRule.cell.Goals as goal

pub returns-then-is_equal : goal.returns-then-is_equal
returns-then-is_equal c =
    let f : ℕ → ℤ = λ k. input (size c.args.spec.now) c.args.ins.now k c.args.at in
    let s = c.args.spec.now in
    let fits : FitsSigned w64 c.param.result = search rules in
    let fits_op : FitsSigned w64 c.param-op.result = search rules in
    let fits_truth : FitsSigned w64 c.truth.result = search rules in
    let op = to_z-of_z w64 c.param-op.result fits_op ∙ c.param-op.ensures in
    let flag = to_z-of_z w64 c.param.result fits ∙ c.param.ensures in
    let told = rw flag at (sym c.is_equal.ensures ∙ c.if-is_equal.true) in
    let does = rw (op, c.in_count.ensures, c.true_inputs.ensures) at c.logical.ensures in
    truth_cell (out_type s) (param s 0) (param s 1) (length s.ins) f _ told (to_z-of_z w64 c.truth.result fits_truth ∙ (c.truth.ensures ∙ ap truth does))

pub returns-else-is_equal : goal.returns-else-is_equal
returns-else-is_equal c =
    let f : ℕ → ℤ = λ k. input (size c.args.spec.now) c.args.ins.now k c.args.at in
    let s = c.args.spec.now in
    let fits : FitsSigned w64 c.param.result = search rules in
    let fits_op : FitsSigned w64 c.param-op.result = search rules in
    let op = to_z-of_z w64 c.param-op.result fits_op ∙ c.param-op.ensures in
    let flag = to_z-of_z w64 c.param.result fits ∙ c.param.ensures in
    let told = rw flag at (sym c.is_equal.ensures ∙ c.if-is_equal.false) in
    bits_cell (out_type s) (param s 0) (param s 1) (length s.ins) f _ told (rw op at c.bitwise.ensures)
