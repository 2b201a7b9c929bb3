use Rattle.std.proofs.Common.{arith, ◌≡◌, ◌≤◌, ◌∷◌, ◌+◌, drop, length, sym, ap, subst, ◌∙◌}
use Rattle.c_ast.specs.View.{statements_of}
use Rattle.c_mean.specs.Texts.{joined}
use Rattle.sci_cgen_blocks.specs.Texts.{written, works_text}
use Rattle.sci_cgen_blocks.specs.Plain.{works_of, which_of, plain_places, AreWorksSpelled}
use Rattle.sci_cgen_blocks.proofs.Written.{joined_done, statement_done, drop_item, all_dropped}
use Rattle.sci_cgen_blocks.proofs.writing.works.Goals as goal

pub loop-one-preserved : goal.loop-one-preserved
loop-one-preserved c =
    let cut : drop c.loop-one.one-index c.args.works.now ≡ c.one-item.result ∷ drop (c.loop-one.one-index + 1) c.args.works.now
    = drop_item c.args.works.now c.loop-one.one-index c.one-item.result c.loop-one-test.true c.one-item.is in
    let spelled = subst (λ ws. AreWorksSpelled (works_of ws)) cut c.loop-one.invariant.1 in (
      statement_done _ _ _ _ _ _ _ c.in_ok-push.ensures.items c.in_ok-work.ensures (ap (λ ws. works_text (written (plain_places c.args.at.now) (which_of c.args.which)) (works_of ws)) cut) c.loop-one.invariant.0,
      spelled.1,
    )

pub returns : goal.returns
returns c =
    let most : length c.args.works.now ≤ c.loop-one.one-index = omega arith in
    sym (joined_done _)
    ∙ ap (λ ws. joined (statements_of c.loop-one.out.items) (works_text (written (plain_places c.args.at.now) (which_of c.args.which)) (works_of ws))) (sym (all_dropped c.args.works.now c.loop-one.one-index most))
    ∙ c.loop-one.invariant.0
