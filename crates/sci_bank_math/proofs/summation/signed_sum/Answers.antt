use Rattle.std.proofs.Common.{◌≡◌, length, ◌+ℤ◌, arith, to_z, of_z, w64}
use Rattle.std.proofs.lemmas.Int.{ints}
use Rattle.sci_bank_math.proofs.SumLemmas.{sum_more}
use Rattle.sci_bank_math.proofs.summation.signed_sum.Goals as goal

pub overflow_add-sum : goal.overflow_add-sum
overflow_add-sum c =
    let a = c.loop-k.invariant.1 in
    let b = c.loop-k.invariant.2 in
    let few = c.requires.typed.asks.2 in
    omega (arith, ints)

pub loop-k-preserved : goal.loop-k-preserved
loop-k-preserved c =
    let a = c.loop-k.invariant.1 in
    let b = c.loop-k.invariant.2 in
    let few = c.requires.typed.asks.2 in
    let fits : to_z w64 (of_z w64 (to_z w64 c.loop-k.sum-bits +ℤ to_z w64 (of_z w64 c.signed_term-sum.result))) ≡ to_z w64 c.loop-k.sum-bits +ℤ c.signed_term-sum.result = omega (arith, ints) in
    rw fits (
      sum_more _ c.loop-k.k (to_z w64 c.loop-k.sum-bits) c.signed_term-sum.result c.loop-k.invariant.0 c.signed_term-sum.ensures.value,
      omega (arith, ints),
      omega (arith, ints),
    )

pub returns : goal.returns
returns c =
    let all : c.loop-k.k ≡ length c.args.spec.now.ins = omega arith in
    rw all at c.loop-k.invariant.0
