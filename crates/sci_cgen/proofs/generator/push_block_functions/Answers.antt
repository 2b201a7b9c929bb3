use Rattle.std.proofs.Common.{arith, ◌≡◌, suc, ◌+◌, ◌++◌, map, length, slice_index_or, false, ap, ◌∙◌}
use Rattle.c_ast.specs.View.{function_of}
use Rattle.sci_program.specs.Program.{functions_upto}
use Rattle.sci_cgen.specs.Built.{marked_function}
use Rattle.sci_cgen.proofs.EmitLemmas.{function_more, none_yet}
use Rattle.sci_cgen.proofs.generator.push_block_functions.Goals as goal

pub loop-at-init : goal.loop-at-init
loop-at-init c = (none_yet _, omega arith)

pub loop-at-preserved : goal.loop-at-preserved
loop-at-preserved c = (
  function_more (λ k. marked_function c.args.net.now (slice_index_or c.args.marks.now k false) (suc k)) c.loop-at.at _ _ _ _ c.in_ok-push.ensures.items
      (c.in_ok-block_function.ensures ∙ ap (marked_function c.args.net.now (slice_index_or c.args.marks.now c.loop-at.at false)) (let next : c.loop-at.at + 1 ≡ suc c.loop-at.at = omega arith in next))
      c.loop-at.invariant.0,
  omega arith,
)

pub returns : goal.returns
returns c =
    let all : c.loop-at.at ≡ length c.args.net.now.specs = omega (arith, c.loop-at.invariant.1) in
    c.loop-at.invariant.0
    ∙ ap (λ m. map function_of c.args.funcs.now.items ++ functions_upto (λ k. marked_function c.args.net.now (slice_index_or c.args.marks.now k false) (suc k)) m) all
