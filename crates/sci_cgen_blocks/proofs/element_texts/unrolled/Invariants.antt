use Rattle.std.proofs.Common.{◌≡◌, ◌≤◌}
use Rattle.c_ast.specs.View.{statements_of}
use Rattle.c_mean.specs.Texts.{upto}
use Rattle.sci_cgen_blocks.specs.Texts.{fixed, written, recipe_text}
use Rattle.sci_cgen_blocks.specs.Plain.{plain_places, plain_recipe}
use Rattle.sci_cgen_blocks.proofs.element_texts.unrolled.Given as goal

abbrev pub invariant-loop-e : goal.invariant-loop-e
invariant-loop-e l =
    (statements_of l.out.items ≡ upto (λ e. recipe_text (written (plain_places l.at) (fixed e)) (plain_recipe l.recipe)) l.e) × (l.e ≤ l.count)
