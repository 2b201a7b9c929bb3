use Rattle.std.proofs.Common.{◌∙◌, ◌*ℤ◌, ap, sym, subst, rules, FitsSigned, w64, ℤ}
use Rattle.std.proofs.lemmas.Int.{to_z-of_z}
use Rattle.sci_ranges_base.specs.Intervals.{HasEnds, exact, one, hull}
use Rattle.sci_ranges_base.specs.Wide.{numbers}
use Rattle.sci_ranges_base.proofs.Ends.{hull_ends}
use Rattle.sci_ranges_kinds.proofs.Corners.{by_column}
use Rattle.sci_ranges_kinds.proofs.products.products.Goals as goal

pub returns-clause-value : goal.returns-clause-value
returns-clause-value c =
    let fits_least : FitsSigned w64 c.args.j.least = search rules in
    let fits_greatest : FitsSigned w64 c.args.j.greatest = search rules in
    let f = λ (z : ℤ). hull (one (c.args.i.least *ℤ z)) (one (c.args.i.greatest *ℤ z)) in
    c.hull.ensures
    ∙ by_column (λ a b. a *ℤ b) c.args.i c.args.j (numbers c.times_one-by_least.result) (numbers c.times_one-by_greatest.result)
    (c.times_one-by_least.ensures.value ∙ ap f (to_z-of_z w64 c.args.j.least fits_least))
    (c.times_one-by_greatest.ensures.value ∙ ap f (to_z-of_z w64 c.args.j.greatest fits_greatest))

pub returns-clause-ends : goal.returns-clause-ends
returns-clause-ends c =
    subst (HasEnds exact) (sym c.hull.ensures)
    (hull_ends exact (numbers c.times_one-by_least.result) (numbers c.times_one-by_greatest.result) c.times_one-by_least.ensures.ends
    c.times_one-by_greatest.ensures.ends)
