use Rattle.std.proofs.Common.{arith, false, ◌∙◌}
use Rattle.std.specs.Prelude.{pos}
use Rattle.std.proofs.lemmas.List.{ext_get_or, get_or_default}
use Rattle.sci_vcd.proofs.pages.settle.Goals as goal

pub returns-clause-old : goal.returns-clause-old
returns-clause-old c =
    ext_get_or (pos 0) c.loop-page.old c.args.new.now (omega (arith, c.requires.one_each)) (λ k h. c.loop-page.invariant.done k h (omega (arith, h)))

pub returns-clause-unmarked : goal.returns-clause-unmarked
returns-clause-unmarked c = λ k d h. get_or_default c.loop-page.marked k d false h ∙ c.loop-page.invariant.unmarked k (omega (arith, h))
