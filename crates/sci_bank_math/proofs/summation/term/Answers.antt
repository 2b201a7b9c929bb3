use Rattle.std.proofs.Common.{◌≡◌, ◌∙◌, sym, subst, length, arith, rules, FitsSigned, w64}
use Rattle.std.proofs.lemmas.Int.{to_z-of_z}
use Rattle.sci_base.specs.Fit.{InRange}
use Rattle.sci_forms.specs.Words.{out_type}
use Rattle.sci_bank.proofs.WordLemmas.{alike_in_range}
use Rattle.sci_bank_math.proofs.SumLemmas.{one_each}
use Rattle.sci_bank_math.proofs.summation.term.Goals as goal

pub returns-then-len-in_count-clause-value : goal.returns-then-len-in_count-clause-value
returns-then-len-in_count-clause-value c =
    let fits : FitsSigned w64 c.get.result = search rules in
    let same : length c.args.ins.now ≡ length c.args.spec.now.ins = omega (arith, c.len.ensures.value, c.in_count.ensures, c.if-len-in_count.true) in
    to_z-of_z w64 c.get.result fits ∙ c.get.ensures ∙ one_each c.args.spec.now c.args.ins.now c.args.k c.args.at c.requires.typed.asks.0 c.requires.ins same c.requires.port c.requires.at

pub returns-then-len-in_count-clause-in_range : goal.returns-then-len-in_count-clause-in_range
returns-then-len-in_count-clause-in_range c =
    let fits : FitsSigned w64 c.get.result = search rules in
    let same : length c.args.ins.now ≡ length c.args.spec.now.ins = omega (arith, c.len.ensures.value, c.in_count.ensures, c.if-len-in_count.true) in
    subst (InRange (out_type c.args.spec.now)) (sym (to_z-of_z w64 c.get.result fits ∙ c.get.ensures ∙ one_each c.args.spec.now c.args.ins.now c.args.k c.args.at c.requires.typed.asks.0 c.requires.ins same c.requires.port c.requires.at))
    (alike_in_range c.args.spec.now c.args.ins.now c.args.k c.args.at c.requires.typed.asks.0 c.requires.ins c.requires.port c.requires.at)
