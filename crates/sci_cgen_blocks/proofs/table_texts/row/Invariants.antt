use Rattle.std.proofs.Common.{◌≡◌, ◌≤◌}
use Rattle.sci_forms.specs.Ports.{total}
use Rattle.c_ast.specs.View.{statements_of}
use Rattle.c_mean.specs.Texts.{upto}
use Rattle.sci_cgen_blocks.specs.Terms.{constant}
use Rattle.sci_cgen_blocks.specs.Recipes.{plain, entry}
use Rattle.sci_cgen_blocks.specs.Texts.{fixed, written, recipe_text}
use Rattle.sci_cgen_blocks.specs.Plain.{plain_places}
use Rattle.sci_cgen_blocks.proofs.table_texts.row.Given as goal

abbrev pub invariant-loop-e : goal.invariant-loop-e
invariant-loop-e l =
    (statements_of l.out.items ≡ upto (λ e. recipe_text (written (plain_places l.at) (fixed e)) (plain (constant (entry l.s l.number e)))) l.e) × (l.e ≤ total l.s.outs)
