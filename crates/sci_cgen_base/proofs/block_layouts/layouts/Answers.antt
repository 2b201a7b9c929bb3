use Rattle.std.proofs.Common.{◌<◌, length, arith}
use Rattle.sci_cgen_base.proofs.LaidLemmas.{states_small, laid_next}
use Rattle.sci_cgen_base.proofs.block_layouts.layouts.Goals as goal

pub overflow_cast-state : goal.overflow_cast-state
overflow_cast-state c =
    let n = c.args.net.now in
    let within : c.loop-block.block < length n.specs = omega (arith, c.loop-block-test.true, c.len-block-end.ensures) in
    let small = states_small n c.loop-block.block c.spec.result.now c.well_formed-2.ensures within c.spec.ensures.value in
    omega (arith, small, c.state_len.ensures)

pub overflow_add-state : goal.overflow_add-state
overflow_add-state c =
    let n = c.args.net.now in
    let within : c.loop-block.block < length n.specs = omega (arith, c.loop-block-test.true, c.len-block-end.ensures) in
    let small = states_small n c.loop-block.block c.spec.result.now c.well_formed-2.ensures within c.spec.ensures.value in
    omega (arith, small, c.loop-block.invariant.states, c.state_len.ensures)

pub loop-block-preserved : goal.loop-block-preserved
loop-block-preserved c =
    let n = c.args.net.now in
    let k = c.loop-block.block in
    let within : k < length n.specs = omega (arith, c.loop-block-test.true, c.len-block-end.ensures) in
    laid_next n k _ _ _ _ _ _ c.loop-block.invariant within c.in_ok-block_layout.ensures c.in_ok-push.ensures.items c.spec.ensures.value c.state_len.ensures
