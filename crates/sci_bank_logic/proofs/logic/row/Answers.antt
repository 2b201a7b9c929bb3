use Rattle.std.proofs.Common.{arith}
use Rattle.sci_base.specs.Lists.{at}
use Rattle.sci_bank_logic.proofs.CountLemmas.{row_small}
use Rattle.sci_bank_logic.proofs.logic.row.Goals as goal

pub overflow_mul-row : goal.overflow_mul-row
overflow_mul-row c =
    let small = row_small (at c.args.ins.now) c.loop-k.k (omega arith) in
    let is = c.loop-k.invariant in
    omega (arith, small, is)

pub overflow_add-row : goal.overflow_add-row
overflow_add-row c =
    let small = row_small (at c.args.ins.now) c.loop-k.k (omega arith) in
    let is = c.loop-k.invariant in
    let few = c.digit.ensures.few in
    omega (arith, small, is, few)

pub returns-clause-below : goal.returns-clause-below
returns-clause-below c =
    let small = row_small (at c.args.ins.now) c.loop-k.k (omega arith) in
    let is = c.loop-k.invariant in
    omega (arith, small, is)
