use Rattle.std.proofs.Common.{ℕ, ◌-◌, pos, true, ap, ◌∙◌}
use Rattle.c_ast.specs.Syntax.{Block, num, var, element, scalar, set, done, next}
use Rattle.c_mean.specs.Texts.{joined, upto}
use Rattle.sci_cgen_blocks.proofs.Written.{joined_assoc}
use Rattle.sci_due.specs.Due.{dates, best, coming, group_count}
use Rattle.sci_due.specs.Texts.{first_of, turns_text, group_text}
use Rattle.sci_due_texts.specs.Turns.{turn_place}
use Rattle.sci_due_texts.proofs.choice_texts.groups_text.Goals as goal

pub returns : goal.returns
returns c =
    let groups : Block = upto (group_text c.args.ports) (group_count c.args.ports) in
    let begin : Block = next (set (scalar best) (first_of (num (pos 0)))) (next (set (scalar coming) (element dates (var best))) done) in
    let turns : Block = turns_text (turn_place true) 1 (group_count c.args.ports - 1) in
    let known = c.in_ok-push_all.ensures ∙ (ap (joined _) c.in_ok-begin_text.ensures ∙ ap (λ (b : Block). joined b begin) c.in_ok-out.ensures) in
    c.in_ok-push_turns.ensures
    ∙ (ap (λ (b : Block). joined b (turns_text (turn_place true) 1 (c.group_count.result - 1))) known
    ∙ (ap (λ (k : ℕ). joined (joined groups begin) (turns_text (turn_place true) 1 (k - 1))) c.group_count.ensures
    ∙ joined_assoc groups begin turns))
