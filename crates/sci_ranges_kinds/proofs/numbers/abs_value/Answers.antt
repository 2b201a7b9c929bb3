use Rattle.std.proofs.Common.{sym, subst, rules, FitsSigned, w64}
use Rattle.sci_ranges_base.specs.Intervals.{HasEnds, exact}
use Rattle.sci_ranges_kinds.proofs.Corners.{magnitudes_exact}
use Rattle.sci_ranges_kinds.proofs.numbers.abs_value.Goals as goal

pub fitted_out-requires : goal.fitted_out-requires
fitted_out-requires c =
    let least : FitsSigned w64 c.in_ok-i.i.least = search rules in
    let greatest : FitsSigned w64 c.in_ok-i.i.greatest = search rules in
    subst (HasEnds exact) (sym c.magnitudes.ensures) (magnitudes_exact c.in_ok-i.i least greatest)
