use Rattle.std.proofs.Common.{◌≡◌, sym, subst, IfOk}
use Rattle.c_ast.specs.View.{statements_of}
use Rattle.sci_cgen_blocks.specs.Terms.{Recipe, all}
use Rattle.sci_cgen_blocks.specs.Texts.{way_text}
use Rattle.sci_cgen_blocks.specs.Plain.{plain_places, IsRecipeSpelled}
use Rattle.sci_cgen_blocks.proofs.choice_texts.copied.Goals as goal

pub all_elements-requires-clause-spelled : goal.all_elements-requires-clause-spelled
all_elements-requires-clause-spelled c = λ some. subst IsRecipeSpelled (sym c.plain.ensures) (tt, tt)

pub returns : goal.returns
returns c =
    subst (λ (r : Recipe). IfOk c.all_elements.result (λ v. statements_of v.items ≡ way_text (plain_places c.args.at.now) c.args.count (all 0 r))) c.plain.ensures
    c.all_elements.ensures
