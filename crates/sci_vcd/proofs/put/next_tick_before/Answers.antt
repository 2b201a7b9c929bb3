use Rattle.std.proofs.Common.{◌≡◌, List, ℕ, ◌++◌, drop, sym, ap, ◌∙◌}
use Rattle.sci_vcd.proofs.Putting.{told_text, tick_text}
use Rattle.sci_vcd.proofs.put.next_tick_before.Goals as goal

pub returns-then-told-tick-clause-text : goal.returns-then-told-tick-clause-text
returns-then-told-tick-clause-text c =
    sym (ap (λ (l : List ℕ). l ++ drop c.args.end c.args.text.now) (told_text c.args.told c.args.tick c.if-told-tick.true))

pub returns-clause-text : goal.returns-clause-text
returns-clause-text c =
    c.tick_before.ensures.text
    ∙ sym (ap (λ (l : List ℕ). l ++ drop c.args.end c.args.text.now) (tick_text c.args.told c.args.tick (λ (e : c.args.told ≡ c.args.tick). c.if-told-tick.false e)))
