use Rattle.std.proofs.Common.{List, ℕ, ◌++◌, decimal, drop, ap, ◌∙◌}
use Rattle.sci_sched.specs.Text.{entry_text}
use Rattle.sci_sched.proofs.Together.{alone_text}
use Rattle.sci_sched.proofs.write.alone_before.Goals as goal

pub returns-clause-text : goal.returns-clause-text
unfolding entry_text
returns-clause-text c =
    let e = c.args.entry.now in
    c.digits_before.ensures.text
    ∙ (ap (λ (l : List ℕ). decimal e.block ++ l) c.line_end_before-at.ensures.text ∙ alone_text e.block e.always e.guards.items (drop c.args.end c.args.text.now) c.requires.alone)
