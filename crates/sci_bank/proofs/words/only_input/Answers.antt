use Rattle.std.proofs.Common.{sym, subst, FitsSigned, w64, rules}
use Rattle.std.proofs.lemmas.Int.{to_z-of_z}
use Rattle.sci_base.specs.Fit.{InRange}
use Rattle.sci_forms.specs.Words.{out_type}
use Rattle.sci_bank.proofs.WordLemmas.{only_in_range}
use Rattle.sci_bank.proofs.words.only_input.Goals as goal

pub returns-clause-in_range : goal.returns-clause-in_range
returns-clause-in_range c =
    let fits : FitsSigned w64 c.element.result = search rules in
    rw (to_z-of_z w64 c.element.result fits) (subst (InRange (out_type c.args.spec.now)) (sym c.element.ensures) (only_in_range c.args.spec.now c.args.ins.now c.args.e c.requires.alike c.requires.filled c.requires.only c.requires.element))
