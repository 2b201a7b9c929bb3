use Rattle.std.proofs.Common.{arith, ◌<◌, suc, length, refl, sym, ap, ◌∙◌}
use Rattle.c_ast.specs.View.{statements_of}
use Rattle.c_mean.specs.Texts.{joined}
use Rattle.sci_cgen_blocks.proofs.Written.{joined_done}
use Rattle.sci_program.specs.Program.{state_begun}
use Rattle.sci_cgen_run.proofs.OutsetLemmas.{behind_more, behind_all, state_few, first_is}
use Rattle.sci_cgen_run.proofs.outset_texts.push_all_states.Goals as goal

pub loop-block-init : goal.loop-block-init
loop-block-init c = (sym (joined_done _), omega arith)

pub push_state-requires-clause-few : goal.push_state-requires-clause-few
push_state-requires-clause-few c =
    let l : c.loop-block.block < length c.args.net.now.specs = omega (arith, c.loop-block-test.true) in
    state_few c.args.net.now c.well_formed-2.ensures c.args.layouts.now c.requires.laid c.loop-block.block l c.layout.result.now c.layout.ensures
    c.spec.result.now c.spec.ensures.value

pub loop-block-preserved : goal.loop-block-preserved
loop-block-preserved c =
    let l : c.loop-block.block < length c.args.net.now.specs = omega (arith, c.loop-block-test.true) in (
      behind_more (λ k. state_begun c.args.net.now (suc k)) c.loop-block.block _ _ _
          (c.in_ok-push_state.ensures
          ∙ ap (joined (statements_of c.loop-block.out.items)) (first_is c.args.net.now c.well_formed-2.ensures c.args.layouts.now c.requires.laid
          c.loop-block.block l c.layout.result.now c.layout.ensures c.spec.result.now c.spec.ensures.value))
          c.loop-block.invariant.0,
      omega arith,
    )

pub returns : goal.returns
returns c =
    behind_all (λ k. state_begun c.args.net.now (suc k)) c.loop-block.block (length c.args.net.now.specs) _ _ _ c.loop-block.invariant.0
    (omega (arith, c.loop-block.invariant.1)) refl
