use Rattle.std.proofs.Common.{arith, ◌≡◌, ◌+◌, pos, ap, ◌∙◌}
use Rattle.sci_forms.specs.Words.{state_len_of}
use Rattle.c_mean.specs.Texts.{upto}
use Rattle.c_ast.specs.Syntax.{done, next, num, set, cell}
use Rattle.sci_cgen_blocks.specs.Recipes.{next_term}
use Rattle.sci_cgen_blocks.specs.Texts.{fixed, written, states, expression}
use Rattle.sci_cgen_blocks.specs.Plain.{plain_places}
use Rattle.sci_cgen_blocks.proofs.Written.{pushed, upto_more}
use Rattle.sci_cgen_blocks.proofs.block_texts.unrolled_next.Goals as goal

pub loop-i-preserved : goal.loop-i-preserved
loop-i-preserved c = (
  upto_more
      (λ i. next (set (cell states (num (pos (c.args.at.now.state + i)))) (expression (written (plain_places c.args.at.now) (fixed 0)) (next_term c.args.s.now.kind c.args.s.now i))) done)
      c.loop-i.i _ _ (pushed _ _ _ _ c.in_ok-push.ensures.items c.in_ok-next_value.ensures) c.loop-i.invariant.0,
  omega arith,
)

pub returns : goal.returns
returns c =
    let same : c.loop-i.i ≡ state_len_of c.args.s.now.kind c.args.s.now = omega (arith, c.loop-i.invariant.1) in
    c.loop-i.invariant.0
    ∙ ap (upto (λ i. next (set (cell states (num (pos (c.args.at.now.state + i)))) (expression (written (plain_places c.args.at.now) (fixed 0)) (next_term c.args.s.now.kind c.args.s.now i))) done)) same
