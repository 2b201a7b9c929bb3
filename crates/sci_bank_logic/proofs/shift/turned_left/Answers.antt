use Rattle.std.proofs.lemmas.Nat.{and_mask}
use Rattle.std.proofs.Common.{◌<◌, subst}
use Rattle.sci_base.specs.Fit.{width}
use Rattle.sci_base.proofs.FitLemmas.{span-pow}
use Rattle.sci_bank_logic.proofs.PatternLemmas.{turned_below}
use Rattle.sci_bank_logic.proofs.shift.turned_left.Goals as goal

pub returns-clause-below : goal.returns-clause-below
returns-clause-below c =
    rw (c.two_to.ensures, c.ones.ensures, c.width.ensures, and_mask, span-pow c.args.t)
    (turned_below (width c.args.t) c.args.k c.args.p (subst (λ n. c.args.p < n) (span-pow c.args.t) c.requires.pattern) c.requires.places)
