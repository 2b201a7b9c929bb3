use Rattle.std.proofs.Common.{arith, rules, w64, ◌+◌, ◌<◌, ℤ, negsuc, sym, ap, subst, ◌∙◌}
use Rattle.std.specs.Prelude.{◌≤ℤ◌}
use Rattle.std.proofs.lemmas.Int.{to_z-of_z}
use Rattle.sci_forms.specs.Ports.{total}
use Rattle.sci_forms.specs.Words.{held_of}
use Rattle.c_ast.specs.View.{statements_of}
use Rattle.c_mean.specs.Texts.{joined}
use Rattle.sci_cgen_blocks.specs.Texts.{values}
use Rattle.sci_cgen_blocks.proofs.Written.{joined_done}
use Rattle.sci_program.specs.Program.{begun_text}
use Rattle.sci_cgen_run.proofs.OutsetLemmas.{begun_alike, behind_more, behind_all, list_is, held_least}
use Rattle.sci_cgen_run.proofs.outset_texts.push_held.Goals as goal

pub loop-e-init : goal.loop-e-init
loop-e-init c = (sym (joined_done _), omega arith)

pub push_begun-requires : goal.push_begun-requires
push_begun-requires c =
    let within : c.loop-e.e < total c.args.s.now.outs = omega (arith, c.loop-e-test.true) in
    subst (λ (z : ℤ). negsuc 9223372036854775806 ≤ℤ z) (sym (to_z-of_z w64 c.held.result (search rules) ∙ c.held.ensures))
    (held_least c.args.s.now c.loop-e.e c.requires.is_typed within)

pub loop-e-preserved : goal.loop-e-preserved
loop-e-preserved c = (
  behind_more (λ j. begun_text values (c.args.at.now.outs + j) (held_of c.args.s.now.kind c.args.s.now j)) c.loop-e.e _ _ _
      (c.in_ok-push_begun.ensures
      ∙ ap (joined (statements_of c.loop-e.out.items)) (begun_alike _ _ _ _ _ c.values.ensures
      (to_z-of_z w64 c.held.result (search rules) ∙ c.held.ensures)))
      c.loop-e.invariant.0,
  omega arith,
)

pub returns : goal.returns
returns c =
    behind_all (λ j. begun_text values (c.args.at.now.outs + j) (held_of c.args.s.now.kind c.args.s.now j)) c.loop-e.e (total c.args.s.now.outs) _ _ _
    c.loop-e.invariant.0 (omega (arith, c.loop-e.invariant.1))
    (list_is values c.args.at.now.outs (held_of c.args.s.now.kind c.args.s.now) (total c.args.s.now.outs))
