use Rattle.std.proofs.Common.{arith, ◌≡◌, ◌<◌, ℕ, sym, subst, IfOk}
use Rattle.sci_forms.specs.Ports.{total}
use Rattle.c_ast.specs.View.{statements_of}
use Rattle.sci_cgen_blocks.specs.Terms.{Recipe, all}
use Rattle.sci_cgen_blocks.specs.Recipes.{worked_of}
use Rattle.sci_cgen_blocks.specs.Texts.{way_text}
use Rattle.sci_cgen_blocks.specs.Plain.{plain_places, plain_recipe, IsRecipeSpelled}
use Rattle.sci_cgen_blocks.proofs.KindSpelled.{recipe_spelled_all}
use Rattle.sci_cgen_blocks.proofs.block_texts.alike.Goals as goal

pub all_elements-requires-clause-spelled : goal.all_elements-requires-clause-spelled
all_elements-requires-clause-spelled c = λ some.
    let there : 0 < total c.args.s.now.outs = omega (arith, some, c.total.ensures) in
    subst IsRecipeSpelled (sym c.in_ok-recipe.ensures) (recipe_spelled_all c.args.s.now c.requires.is_typed c.requires.own c.requires.single there)

pub returns : goal.returns
returns c =
    let p = plain_places c.args.at.now in
    let s = c.args.s.now in
    subst (λ (r : Recipe). IfOk c.all_elements.result (λ v. statements_of v.items ≡ way_text p (total s.outs) (all (worked_of s.kind s) r))) c.in_ok-recipe.ensures
    (subst (λ (m : ℕ). IfOk c.all_elements.result
    (λ v. statements_of v.items ≡ way_text p (total s.outs) (all m (plain_recipe c.in_ok-recipe.recipe)))) c.recipe_scratch.ensures.value
    (subst (λ (n : ℕ). IfOk c.all_elements.result
    (λ v. statements_of v.items ≡ way_text p n (all c.recipe_scratch.result (plain_recipe c.in_ok-recipe.recipe)))) c.total.ensures c.all_elements.ensures))
