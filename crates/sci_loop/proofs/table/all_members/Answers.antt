use Rattle.std.proofs.Common.{ℕ, get_or, Contains, subst, refl, arith, below_more}
use Rattle.std.proofs.lemmas.List.{get_or_default}
use Rattle.sci_loop.proofs.table.all_members.Goals as goal

pub loop-i-preserved : goal.loop-i-preserved
loop-i-preserved c =
    let P : ℕ → Type 0 = λ m. Contains c.args.members.now (get_or c.args.numbers.now m 0) in below_more P _ c.loop-i.invariant (c.is_member.ensures.0 c.if-not-is_member.false)

pub returns : goal.returns
returns c = (
  λ on k d h. subst (Contains c.args.members.now) (get_or_default c.args.numbers.now k 0 d h) (c.loop-i.invariant k (omega (arith, h, c.loop-i-test.false))),
  λ all. refl,
)
