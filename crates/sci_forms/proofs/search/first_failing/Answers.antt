use Rattle.std.proofs.Common.{◌≡◌, false, sym, ◌∙◌}
use Rattle.sci_forms.proofs.FirstNot.{found}
use Rattle.sci_forms.proofs.search.first_failing.Goals as goal

pub returns-then-not-passes-clause-first : goal.returns-then-not-passes-clause-first
returns-then-not-passes-clause-first g c = λ test same.
    let k = c.loop-k.k in
    let fails : test k ≡ false = sym (same k c.passes.result c.loop-k-test.true c.passes.ensures) ∙ c.if-not-passes.true in
    sym (found test k c.args.n (c.loop-k.invariant test same) fails c.loop-k-test.true)
