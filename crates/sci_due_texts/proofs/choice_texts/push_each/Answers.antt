use Rattle.std.proofs.Common.{arith, ◌≡◌, ℕ, ◌+◌, sym, ap, ◌∙◌, pos}
use Rattle.c_ast.specs.View.{statements_of}
use Rattle.c_mean.specs.Texts.{joined}
use Rattle.sci_cgen_blocks.proofs.Written.{joined_done}
use Rattle.sci_due.specs.Texts.{choose_turn}
use Rattle.sci_due_texts.specs.Turns.{turn_place}
use Rattle.sci_due_texts.proofs.TextLemmas.{upto_pushed, each_done}
use Rattle.c_ast.specs.Syntax.{num}
use Rattle.sci_due_texts.proofs.choice_texts.push_each.Goals as goal

pub loop-at-init : goal.loop-at-init
loop-at-init c = record { so_far = sym (joined_done _); within = omega arith }

pub loop-at-preserved : goal.loop-at-preserved
loop-at-preserved c = record {
  so_far = upto_pushed (λ (j : ℕ). choose_turn (turn_place c.args.grouped (num (pos (c.args.from + j))))) c.loop-at.at _ _ _ c.loop-at.invariant.so_far
      (c.in_ok-push.ensures ∙ ap (joined (statements_of c.loop-at.out.items)) c.in_ok-choose_turn.ensures);
  within = omega arith;
}

pub returns : goal.returns
returns c =
    let all : c.loop-at.at ≡ c.args.count = omega (arith, c.loop-at.invariant.within) in
    each_done (λ (j : ℕ). choose_turn (turn_place c.args.grouped (num (pos (c.args.from + j))))) c.loop-at.at _ _ _ all c.loop-at.invariant.so_far
