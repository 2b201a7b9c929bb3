use Rattle.std.proofs.Common.{◌≡◌, ◌-◌, refl, arith}
use Rattle.sci_base.specs.Fit.{span}
use Rattle.sci_ranges_kinds.proofs.patterns.turned_over.Goals as goal

pub returns : goal.returns
returns c = let all : c.ones-all.result ≡ span c.args.ty - 1 = omega (arith, c.ones-all.ensures) in rw all refl
