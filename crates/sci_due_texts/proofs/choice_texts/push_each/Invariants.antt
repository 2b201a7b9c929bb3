-- The sources or groups so far.
use Rattle.std.proofs.Common.{◌≡◌, ◌≤◌, ◌+◌, pos}
use Rattle.c_ast.specs.View.{statements_of}
use Rattle.c_mean.specs.Texts.{joined, upto}
use Rattle.sci_due.specs.Texts.{choose_turn}
use Rattle.sci_due_texts.specs.Turns.{turn_place}
use Rattle.c_ast.specs.Syntax.{num}
use Rattle.sci_due_texts.proofs.choice_texts.push_each.Given as goal

abbrev pub invariant-loop-at : goal.invariant-loop-at
invariant-loop-at l = record {
  so_far : statements_of l.out.items ≡ joined (statements_of l.fn.out.items) (upto (λ j. choose_turn (turn_place l.grouped (num (pos (l.from + j))))) l.at);
  within : l.at ≤ l.count;
}
