use Rattle.std.proofs.Common.{arith, ◌≡◌, ℕ, suc, ◌+◌, pos, false, ap, ◌∙◌}
use Rattle.c_ast.specs.Syntax.{Block, num, element, scalar, set, next}
use Rattle.c_mean.specs.Texts.{joined}
use Rattle.sci_due.specs.Due.{dates, best, coming}
use Rattle.sci_due.specs.Texts.{turns_text}
use Rattle.sci_due_texts.specs.Turns.{turn_place}
use Rattle.sci_due_texts.proofs.choice_texts.span_text.Goals as goal

pub returns : goal.returns
returns c =
    let begun : ℕ → Block = λ k. next (set (scalar best) (num (pos c.args.first))) (next (set (scalar coming) (element dates (num (pos c.args.first))))
    (turns_text (turn_place false) k c.args.count)) in
    c.in_ok-push_turns.ensures ∙ (ap (λ (b : Block). joined b (turns_text (turn_place false) (c.args.first + 1) c.args.count)) c.in_ok-out.ensures
    ∙ ap begun (let e : c.args.first + 1 ≡ suc c.args.first = omega arith in e))
