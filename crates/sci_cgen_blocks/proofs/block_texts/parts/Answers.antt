use Rattle.std.proofs.Common.{arith, ◌≡◌, ◌<◌, ◌+◌, ap, ◌∙◌, pos, sym, subst}
use Rattle.sci_forms.specs.Ports.{total}
use Rattle.c_ast.specs.Syntax.{num, set, cell}
use Rattle.c_mean.specs.Texts.{upto}
use Rattle.sci_cgen_blocks.specs.Terms.{Term}
use Rattle.sci_cgen_blocks.specs.Recipes.{plain, part_of}
use Rattle.sci_cgen_blocks.specs.Texts.{fixed, written, values, expression, recipe_text}
use Rattle.sci_cgen_blocks.specs.Plain.{plain_places, AreSpelled}
use Rattle.sci_cgen_blocks.proofs.Written.{pushed, upto_more}
use Rattle.sci_cgen_blocks.proofs.KindSpelled.{part_spelled, few_elements}
use Rattle.sci_cgen_blocks.proofs.block_texts.parts.Goals as goal

pub part-requires-clause-few : goal.part-requires-clause-few
part-requires-clause-few c = few_elements c.args.s.now (plain_places c.args.at.now) c.requires.few

pub assigned-requires : goal.assigned-requires
assigned-requires c =
    let within : c.loop-e.e < total c.args.s.now.outs = omega arith in
    subst AreSpelled (sym c.part.ensures) (part_spelled c.args.s.now c.requires.is_typed c.requires.own c.requires.separate c.loop-e.e within)

pub loop-e-preserved : goal.loop-e-preserved
loop-e-preserved c =
    let p = plain_places c.args.at.now in (
      upto_more (λ e. recipe_text (written p (fixed e)) (plain (part_of c.args.s.now.kind c.args.s.now e))) c.loop-e.e _ _
          (pushed _ _ _ _ c.in_ok-push.ensures.items
          (c.in_ok-assigned.ensures
          ∙ ap (λ (t : Term). set (cell values (num (pos (p.outs + c.loop-e.e)))) (expression (written p (fixed c.loop-e.e)) t)) c.part.ensures))
          c.loop-e.invariant.0,
      omega arith,
    )

pub returns : goal.returns
returns c =
    let same : c.loop-e.e ≡ total c.args.s.now.outs = omega (arith, c.loop-e.invariant.1) in
    c.loop-e.invariant.0
    ∙ ap (upto (λ e. recipe_text (written (plain_places c.args.at.now) (fixed e)) (plain (part_of c.args.s.now.kind c.args.s.now e)))) same
