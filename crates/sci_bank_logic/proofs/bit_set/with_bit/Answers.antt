use Rattle.std.proofs.Common.{◌<◌, sym, subst}
use Rattle.sci_base.specs.Fit.{span}
use Rattle.sci_bank_logic.proofs.PatternLemmas.{set_below}
use Rattle.sci_bank_logic.proofs.bit_set.with_bit.Goals as goal

pub number-requires : goal.number-requires
number-requires c =
    subst (λ n. n < span c.args.t) (sym c.set_bit.ensures) (set_below c.args.t c.pattern.result c.args.k c.pattern.ensures.below c.requires.place)
