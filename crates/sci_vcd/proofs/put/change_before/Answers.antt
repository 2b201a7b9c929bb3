use Rattle.std.proofs.Common.{◌≡◌, true, false, List, ℕ, ◌+◌, ◌++◌, drop, sym, ap, ◌∙◌}
use mir.Syntax.{w64}
use Rattle.std.proofs.lemmas.Int.{to_z-of_z}
use Rattle.sci_base.specs.Fit.{int_eq}
use Rattle.sci_vcd.proofs.Putting.{same_here, change_alone}
use Rattle.sci_vcd.proofs.put.change_before.Goals as goal

pub returns-then-is_equal-clause-text : goal.returns-then-is_equal-clause-text
returns-then-is_equal-clause-text c = λ t.
    let same : int_eq c.args.old c.args.new ≡ true = sym (rw (to_z-of_z w64 c.args.old c.ranges.old, to_z-of_z w64 c.args.new c.ranges.new) at c.if-is_equal.ensures) in
    sym (ap (λ (l : List ℕ). l ++ drop c.args.end c.args.text.now) (same_here c.args.signals.now t t (c.args.at + 1) c.args.old c.args.new same))

pub returns-clause-text : goal.returns-clause-text
returns-clause-text c = λ t.
    let differ : int_eq c.args.old c.args.new ≡ false = sym (rw (to_z-of_z w64 c.args.old c.ranges.old, to_z-of_z w64 c.args.new c.ranges.new) at c.if-is_equal.ensures) in
    (rw (to_z-of_z w64 c.args.new c.ranges.new) at c.value_before.ensures.text)
    ∙ sym (ap (λ (l : List ℕ). l ++ drop c.args.end c.args.text.now) (change_alone c.args.signals.now t c.args.at c.args.old c.args.new differ))
