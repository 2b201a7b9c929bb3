use Rattle.std.proofs.Common.{arith, ◌≡◌, ◌≤◌, length}
use Rattle.c_trim.proofs.Marking.{functions_more, functions_done}
use Rattle.c_trim.proofs.texts.functions.Goals as goal

pub loop-func-preserved : goal.loop-func-preserved
loop-func-preserved c =
    let own : c.deref.result.now ≡ c.func-item.result.body.items = cc (c.deref.ensures.value, c.func-item.is) in
    functions_more c.args.funcs.now c.loop-func.func-index c.func-item.result c.deref.result.now _ _ _ c.loop-func-test.true c.func-item.is own
    c.block.ensures c.loop-func.invariant

pub returns : goal.returns
returns c =
    let most : length c.args.funcs.now ≤ c.loop-func.func-index = omega arith in functions_done c.args.funcs.now c.loop-func.func-index _ _ most c.loop-func.invariant
