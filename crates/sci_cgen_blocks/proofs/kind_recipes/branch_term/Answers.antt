use Rattle.std.proofs.Common.{◌≡◌, sym, subst, IfOk}
use Rattle.sci_cgen_blocks.specs.Recipes.{branch_term}
use Rattle.sci_cgen_blocks.specs.Plain.{term_of}
use Rattle.sci_cgen_blocks.proofs.kind_recipes.branch_term.Goals as goal

pub returns-in-IfThEl : goal.returns-in-IfThEl
returns-in-IfThEl c = subst (λ k. IfOk c.branch_by_sign.result (λ t. term_of t ≡ branch_term k c.args.s.now)) (sym c.in-IfThEl.is) c.branch_by_sign.ensures

pub returns-in-ESelect : goal.returns-in-ESelect
returns-in-ESelect c = subst (λ k. IfOk c.branch_by_number.result (λ t. term_of t ≡ branch_term k c.args.s.now)) (sym c.in-ESelect.is) c.branch_by_number.ensures
