use Rattle.std.proofs.Common.{arith, ◌≡◌, ◌<◌, ap, ◌∙◌}
use Rattle.c_mean.specs.Texts.{upto}
use Rattle.sci_cgen_blocks.specs.Texts.{fixed, written, recipe_text}
use Rattle.sci_cgen_blocks.specs.Plain.{plain_places, plain_recipe}
use Rattle.sci_cgen_blocks.proofs.Written.{upto_more}
use Rattle.sci_cgen_blocks.proofs.element_texts.unrolled.Goals as goal

pub push_recipe-requires : goal.push_recipe-requires
push_recipe-requires c = let some : 0 < c.args.count = omega arith in c.requires some

pub loop-e-preserved : goal.loop-e-preserved
loop-e-preserved c = (
  upto_more (λ e. recipe_text (written (plain_places c.args.at.now) (fixed e)) (plain_recipe c.args.recipe.now)) c.loop-e.e _ _ c.in_ok-push_recipe.ensures
      c.loop-e.invariant.0,
  omega arith,
)

pub returns : goal.returns
returns c =
    let same : c.loop-e.e ≡ c.args.count = omega (arith, c.loop-e.invariant.1) in
    c.loop-e.invariant.0 ∙ ap (upto (λ e. recipe_text (written (plain_places c.args.at.now) (fixed e)) (plain_recipe c.args.recipe.now))) same
