use Rattle.std.proofs.Common.{sym, subst, FitsSigned, w64, rules}
use Rattle.std.proofs.lemmas.Int.{to_z-of_z}
use Rattle.sci_base.specs.Fit.{InRange}
use Rattle.sci_forms.specs.Words.{out_type}
use Rattle.sci_bank.proofs.WordLemmas.{alike_in_range}
use Rattle.sci_bank.proofs.words.alike_input.Goals as goal

pub returns-clause-in_range : goal.returns-clause-in_range
returns-clause-in_range c =
    let fits : FitsSigned w64 c.input.result = search rules in
    rw (to_z-of_z w64 c.input.result fits) (subst (InRange (out_type c.args.spec.now)) (sym c.input.ensures) (alike_in_range c.args.spec.now c.args.ins.now c.args.k c.args.e c.requires.alike c.requires.filled c.requires.port c.requires.element))
