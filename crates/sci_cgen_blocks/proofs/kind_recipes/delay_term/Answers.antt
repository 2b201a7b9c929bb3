use Rattle.std.proofs.Common.{◌≡◌, sym, subst, IfOk}
use Rattle.sci_cgen_blocks.specs.Recipes.{delay_term}
use Rattle.sci_cgen_blocks.specs.Plain.{term_of}
use Rattle.sci_cgen_blocks.proofs.kind_recipes.delay_term.Goals as goal

pub returns-in-EvtVarDly : goal.returns-in-EvtVarDly
returns-in-EvtVarDly c = subst (λ k. IfOk c.delay_by_input.result (λ t. term_of t ≡ delay_term k c.args.s.now)) (sym c.in-EvtVarDly.is) c.delay_by_input.ensures
