use Rattle.std.proofs.Common.{◌∙◌, Some, ap, sym, subst, rules, FitsSigned, w64, ℤ}
use Rattle.std.proofs.lemmas.Int.{to_z-of_z}
use Rattle.std.specs.Prelude.{int_div}
use Rattle.sci_ranges_base.specs.Intervals.{HasEnds, exact, one, hull}
use Rattle.sci_ranges_base.specs.Wide.{numbers}
use Rattle.sci_ranges_base.proofs.Ends.{hull_ends}
use Rattle.sci_ranges_kinds.proofs.Corners.{by_column}
use Rattle.sci_ranges_kinds.proofs.products.by_part.Goals as goal

pub returns-clause-value : goal.returns-clause-value
returns-clause-value c =
    let j = c.in_ok-j.j in
    let fits_least : FitsSigned w64 j.least = search rules in
    let fits_greatest : FitsSigned w64 j.greatest = search rules in
    let f = λ (z : ℤ). hull (one (int_div c.args.i.least z)) (one (int_div c.args.i.greatest z)) in
    rw c.in_ok-j.was
    (ap Some (c.hull.ensures
    ∙ by_column int_div c.args.i j (numbers c.by_one-by_least.result) (numbers c.by_one-by_greatest.result)
    (c.by_one-by_least.ensures.value ∙ ap f (to_z-of_z w64 j.least fits_least))
    (c.by_one-by_greatest.ensures.value ∙ ap f (to_z-of_z w64 j.greatest fits_greatest))))

pub returns-clause-ends : goal.returns-clause-ends
returns-clause-ends c =
    subst (HasEnds exact) (sym c.hull.ensures)
    (hull_ends exact (numbers c.by_one-by_least.result) (numbers c.by_one-by_greatest.result) c.by_one-by_least.ensures.ends c.by_one-by_greatest.ensures.ends)
