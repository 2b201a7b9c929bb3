use Rattle.std.proofs.Common.{Bool, ◌++◌, codes, drop, ap, sym, ◌∙◌}
use Rattle.sci_sched.specs.Text.{always_text}
use Rattle.sci_sched.proofs.write.line_end_before.Goals as goal

pub returns-then-always-clause-text : goal.returns-then-always-clause-text
returns-then-always-clause-text c =
    c.word_before.ensures.text ∙ ap (λ (a : Bool). (always_text a ++ codes "\n") ++ drop c.args.end c.args.text.now) (sym c.if-always.true)

pub returns-else-always-clause-text : goal.returns-else-always-clause-text
returns-else-always-clause-text c =
    c.word_before-else-always.ensures.text ∙ ap (λ (a : Bool). (always_text a ++ codes "\n") ++ drop c.args.end c.args.text.now) (sym c.if-always.false)
