use Rattle.std.proofs.Common.{◌∙◌, ℕ, ℤ, length, ap, sym, subst, w64}
use Rattle.std.proofs.lemmas.Int.{to_z-of_z}
use Rattle.sci_forms.specs.Words.{out_type, size}
use Rattle.sci_kinds.specs.Table.{input, number}
use Rattle.sci_bank_logic.specs.Joins.{IsJoined, join_of, is_turned}
use Rattle.sci_bank_logic.proofs.JoinLemmas.{straight_bits, turned_bits}
use Rattle.sci_bank_logic.proofs.logical_op.bitwise.Goals as goal

pub returns-then-is_turned : goal.returns-then-is_turned
returns-then-is_turned c =
    let f : ℕ → ℤ = λ k. input (size c.args.spec.now) c.args.ins.now k c.args.at in
    let t = out_type c.args.spec.now in
    let n = length c.args.spec.now.ins in
    let op = to_z-of_z w64 c.args.op c.ranges.op in
    let join = c.join_of.ensures ∙ ap join_of op in
    let all = subst (λ j. IsJoined t j f n c.all_joined-all.result) join c.all_joined-all.ensures in
    let told = sym (c.is_turned.ensures ∙ ap is_turned op) ∙ c.if-is_turned.true in
    let is = rw (c.ones.ensures, c.out_type-t.ensures) at c.number.ensures in
    is ∙ ap (number t) (sym (turned_bits t c.args.op n f c.all_joined-all.result all told))

pub returns-else-is_turned : goal.returns-else-is_turned
returns-else-is_turned c =
    let f : ℕ → ℤ = λ k. input (size c.args.spec.now) c.args.ins.now k c.args.at in
    let t = out_type c.args.spec.now in
    let n = length c.args.spec.now.ins in
    let op = to_z-of_z w64 c.args.op c.ranges.op in
    let join = c.join_of.ensures ∙ ap join_of op in
    let all = subst (λ j. IsJoined t j f n c.all_joined-all.result) join c.all_joined-all.ensures in
    let told = sym (c.is_turned.ensures ∙ ap is_turned op) ∙ c.if-is_turned.false in
    let is = rw c.out_type-t.ensures at c.number-else-is_turned.ensures in
    is ∙ ap (number t) (sym (straight_bits t c.args.op n f c.all_joined-all.result all told))
