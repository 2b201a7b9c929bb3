use Rattle.std.proofs.Common.{arith, rules, w64, ◌+◌, ◌<◌, ℤ, negsuc, sym, ap, subst, ◌∙◌}
use Rattle.std.specs.Prelude.{◌≤ℤ◌}
use Rattle.std.proofs.lemmas.Int.{to_z-of_z}
use Rattle.sci_base.specs.Lists.{spread}
use Rattle.sci_forms.specs.Words.{state_len_of}
use Rattle.c_ast.specs.View.{statements_of}
use Rattle.c_mean.specs.Texts.{joined}
use Rattle.sci_cgen_blocks.specs.Texts.{states}
use Rattle.sci_cgen_blocks.proofs.Written.{joined_done}
use Rattle.sci_program.specs.Program.{begun_text}
use Rattle.sci_cgen_run.proofs.OutsetLemmas.{begun_alike, behind_more, behind_all, list_is, state_least}
use Rattle.sci_cgen_run.proofs.outset_texts.push_state.Goals as goal

pub loop-i-init : goal.loop-i-init
loop-i-init c = (sym (joined_done _), omega arith)

pub push_begun-requires : goal.push_begun-requires
push_begun-requires c =
    let within : c.loop-i.i < state_len_of c.args.s.now.kind c.args.s.now = omega (arith, c.loop-i-test.true) in
    subst (λ (z : ℤ). negsuc 9223372036854775806 ≤ℤ z) (sym (to_z-of_z w64 c.spread.result (search rules) ∙ c.spread.ensures))
    (state_least c.args.s.now c.loop-i.i c.requires.is_typed within)

pub loop-i-preserved : goal.loop-i-preserved
loop-i-preserved c = (
  behind_more (λ j. begun_text states (c.args.at.now.state + j) (spread c.args.s.now.state j)) c.loop-i.i _ _ _
      (c.in_ok-push_begun.ensures
      ∙ ap (joined (statements_of c.loop-i.out.items)) (begun_alike _ _ _ _ _ c.states.ensures
      (to_z-of_z w64 c.spread.result (search rules) ∙ c.spread.ensures)))
      c.loop-i.invariant.0,
  omega arith,
)

pub returns : goal.returns
returns c =
    behind_all (λ j. begun_text states (c.args.at.now.state + j) (spread c.args.s.now.state j)) c.loop-i.i (state_len_of c.args.s.now.kind c.args.s.now) _ _ _
    c.loop-i.invariant.0 (omega (arith, c.loop-i.invariant.1))
    (list_is states c.args.at.now.state (spread c.args.s.now.state) (state_len_of c.args.s.now.kind c.args.s.now))
