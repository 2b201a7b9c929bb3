use Rattle.std.proofs.Common.{arith, ◌≡◌, ◌+◌, ◌-◌, sym, ap, ◌∙◌}
use Rattle.sci_forms.specs.Words.{state_len_of}
use Rattle.c_ast.specs.View.{statements_of}
use Rattle.c_mean.specs.Texts.{joined, upto}
use Rattle.sci_cgen_blocks.specs.Texts.{next_value_text}
use Rattle.sci_cgen_blocks.specs.Plain.{plain_places}
use Rattle.sci_cgen_blocks.proofs.Written.{pushed, joined_done, behind_more}
use Rattle.sci_cgen_blocks.proofs.block_texts.push_next.Goals as goal

pub loop-i-init : goal.loop-i-init
loop-i-init c = (sym (joined_done _), omega arith)

pub loop-i-preserved : goal.loop-i-preserved
loop-i-preserved c = (
  behind_more (λ i. next_value_text c.args.s.now (plain_places c.args.at.now) (c.args.first + i)) c.loop-i.i _ _ _ c.loop-i.invariant.0
      (pushed _ _ _ _ c.in_ok-push.ensures.items c.in_ok-next_value.ensures),
  omega arith,
)

pub returns : goal.returns
returns c =
    let same : c.loop-i.i ≡ state_len_of c.args.s.now.kind c.args.s.now - c.args.first = omega (arith, c.loop-i.invariant.1) in
    c.loop-i.invariant.0
    ∙ ap (λ k. joined (statements_of c.args.out.now.items) (upto (λ i. next_value_text c.args.s.now (plain_places c.args.at.now) (c.args.first + i)) k)) same
