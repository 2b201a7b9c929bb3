use Rattle.std.proofs.Common.{◌≡◌, ◌∙◌, ◌+◌, ℕ, ℤ, length, arith, rules, sym, subst, FitsSigned, w64}
use Rattle.std.proofs.lemmas.Int.{to_z-of_z}
use Rattle.sci_forms.specs.Words.{out_type, size}
use Rattle.sci_kinds.specs.Table.{input}
use Rattle.sci_bank_logic.specs.Joins.{IsJoined}
use Rattle.sci_bank_logic.proofs.JoinLemmas.{joined_more}
use Rattle.sci_bank_logic.proofs.logical_op.all_joined.Goals as goal

pub loop-k-init : goal.loop-k-init
loop-k-init c =
    subst (λ t. IsJoined t c.args.join (λ k. input (size c.args.spec.now) c.args.ins.now k c.args.at) 0 c.neutral-all.result)
    c.out_type-t.ensures (c.neutral-all.ensures (λ k. input (size c.args.spec.now) c.args.ins.now k c.args.at))

pub loop-k-preserved : goal.loop-k-preserved
loop-k-preserved c =
    let f : ℕ → ℤ = λ k. input (size c.args.spec.now) c.args.ins.now k c.args.at in
    let t = out_type c.args.spec.now in
    let fits : FitsSigned w64 c.alike_input.result = search rules in
    let v = to_z-of_z w64 c.alike_input.result fits ∙ c.alike_input.ensures.value in
    let is = rw (c.out_type-t.ensures, v) at c.pattern.ensures.value in
    let below = rw c.out_type-t.ensures at c.pattern.ensures.below in
    subst (IsJoined t c.args.join f (c.loop-k.k + 1)) (sym c.joined-all.ensures) (joined_more t c.args.join f c.loop-k.k c.loop-k.all c.pattern.result c.loop-k.invariant is below)

pub returns : goal.returns
returns c =
    let all : c.loop-k.k ≡ length c.args.spec.now.ins = omega arith in
    subst (λ n. IsJoined (out_type c.args.spec.now) c.args.join (λ k. input (size c.args.spec.now) c.args.ins.now k c.args.at) n c.loop-k.all) all c.loop-k.invariant
