use Rattle.std.proofs.Common.{ap, ◌∙◌, pos}
use Rattle.c_ast.specs.declared.Name.{Name}
use Rattle.c_ast.specs.declared.Bound.TheVariants as bounds
use Rattle.c_ast.specs.Syntax.{loop}
use Rattle.c_ast.specs.View.{statements_of}
use Rattle.sci_cgen_blocks.specs.Plain.{plain_places, plain_recipe}
use Rattle.sci_cgen_blocks.proofs.Written.{looped_done}
use Rattle.sci_cgen_blocks.proofs.element_texts.looped.Goals as goal

pub returns : goal.returns
returns c =
    looped_done (plain_places c.args.at.now) c.args.count c.args.counter (plain_recipe c.args.recipe.now) _ _ _ _ c.new-body.ensures.items
    c.in_ok-push_recipe.ensures
    (c.repeated.ensures ∙ ap (λ (x : Name). loop x (bounds.Num (pos c.args.count)) (statements_of c.push_recipe.new.out.items)) c.scratch.ensures)
    c.in_ok-text.ensures.items
