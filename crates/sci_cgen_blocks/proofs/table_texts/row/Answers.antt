use Rattle.std.proofs.Common.{arith, ◌≡◌, ◌+◌, ap, ◌∙◌, pos, sym, subst}
use Rattle.sci_forms.specs.Ports.{total}
use Rattle.c_ast.specs.Syntax.{num, set, cell}
use Rattle.c_mean.specs.Texts.{upto}
use Rattle.sci_cgen_blocks.specs.Terms.{Term, constant}
use Rattle.sci_cgen_blocks.specs.Recipes.{plain, entry}
use Rattle.sci_cgen_blocks.specs.Texts.{fixed, written, values, expression, recipe_text}
use Rattle.sci_cgen_blocks.specs.Plain.{plain_places, AreSpelled}
use Rattle.sci_cgen_blocks.proofs.Written.{pushed, upto_more}
use Rattle.sci_cgen_blocks.proofs.TableKind.{entry_spelled}
use Rattle.sci_cgen_blocks.proofs.KindBounds.{few_columns}
use Rattle.sci_cgen_blocks.proofs.table_texts.row.Goals as goal

pub entry_term-requires-clause-outs : goal.entry_term-requires-clause-outs
entry_term-requires-clause-outs c = few_columns c.args.s.now c.requires.is_typed c.requires.kind

pub assigned-requires : goal.assigned-requires
assigned-requires c =
    subst AreSpelled (sym c.entry_term.ensures) (entry_spelled c.args.s.now c.requires.is_typed c.requires.kind c.args.number c.loop-e.e)

pub loop-e-preserved : goal.loop-e-preserved
loop-e-preserved c =
    let p = plain_places c.args.at.now in (
      upto_more (λ e. recipe_text (written p (fixed e)) (plain (constant (entry c.args.s.now c.args.number e)))) c.loop-e.e _ _
          (pushed _ _ _ _ c.in_ok-push.ensures.items
          (c.in_ok-assigned.ensures ∙ ap (λ (t : Term). set (cell values (num (pos (p.outs + c.loop-e.e)))) (expression (written p (fixed c.loop-e.e)) t)) c.entry_term.ensures))
          c.loop-e.invariant.0,
      omega arith,
    )

pub returns : goal.returns
returns c =
    let same : c.loop-e.e ≡ total c.args.s.now.outs = omega (arith, c.loop-e.invariant.1) in
    c.loop-e.invariant.0 ∙ ap (upto (λ e. recipe_text (written (plain_places c.args.at.now) (fixed e)) (plain (constant (entry c.args.s.now c.args.number e))))) same
