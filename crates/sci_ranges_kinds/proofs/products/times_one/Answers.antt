use Rattle.std.proofs.Common.{◌≡◌, ◌∙◌, ◌*ℤ◌, sym, subst, arith, rules, to_z, of_z, FitsSigned, w64}
use Rattle.std.specs.Int.{w128}
use Rattle.std.proofs.lemmas.Int.{ints}
use Rattle.sci_ranges_base.specs.Intervals.{HasEnds, exact, one, hull}
use Rattle.sci_ranges_base.specs.Wide.{numbers}
use Rattle.sci_ranges_base.proofs.Ends.{word_of, product_exact, code_product}
use Rattle.sci_ranges_kinds.proofs.Corners.{crossed, pair_ends, product_fits}
use Rattle.sci_ranges_kinds.proofs.products.times_one.Goals as goal

pub overflow_mul-least : goal.overflow_mul-least
overflow_mul-least c =
    let z : to_z w128 (of_z w128 c.from-factor.result) ≡ c.args.factor = omega (arith, ints) in
    let a : to_z w128 (of_z w128 c.from-a.result) ≡ c.args.i.least = omega (arith, ints) in
    let fits : FitsSigned w64 c.args.i.least = search rules in
    product_fits c.args.i.least c.args.factor _ _ a z (word_of c.args.i.least fits) (word_of c.args.factor c.ranges.factor)

pub overflow_mul-greatest : goal.overflow_mul-greatest
overflow_mul-greatest c =
    let z : to_z w128 (of_z w128 c.from-factor.result) ≡ c.args.factor = omega (arith, ints) in
    let b : to_z w128 (of_z w128 c.from-b.result) ≡ c.args.i.greatest = omega (arith, ints) in
    let fits : FitsSigned w64 c.args.i.greatest = search rules in
    product_fits c.args.i.greatest c.args.factor _ _ b z (word_of c.args.i.greatest fits) (word_of c.args.factor c.ranges.factor)

-- the products as the code has them
told : (c : goal.After-across) → numbers c.across.result ≡ hull (one (c.args.i.least *ℤ c.args.factor)) (one (c.args.i.greatest *ℤ c.args.factor))
told c =
    let z : to_z w128 (of_z w128 c.from-factor.result) ≡ c.args.factor = omega (arith, ints) in
    let a : to_z w128 (of_z w128 c.from-a.result) ≡ c.args.i.least = omega (arith, ints) in
    let b : to_z w128 (of_z w128 c.from-b.result) ≡ c.args.i.greatest = omega (arith, ints) in
    let fits_a : FitsSigned w64 c.args.i.least = search rules in
    let fits_b : FitsSigned w64 c.args.i.greatest = search rules in
    let w = word_of c.args.factor c.ranges.factor in
    c.across.ensures
    ∙ crossed _ _ (c.args.i.least *ℤ c.args.factor) (c.args.i.greatest *ℤ c.args.factor)
    (code_product c.args.i.least c.args.factor _ _ a z (word_of c.args.i.least fits_a) w)
    (code_product c.args.i.greatest c.args.factor _ _ b z (word_of c.args.i.greatest fits_b) w)

pub returns-clause-value : goal.returns-clause-value
returns-clause-value c = told c

pub returns-clause-ends : goal.returns-clause-ends
returns-clause-ends c =
    let fits_a : FitsSigned w64 c.args.i.least = search rules in
    let fits_b : FitsSigned w64 c.args.i.greatest = search rules in
    let w = word_of c.args.factor c.ranges.factor in
    subst (HasEnds exact) (sym (told c))
    (pair_ends exact (c.args.i.least *ℤ c.args.factor) (c.args.i.greatest *ℤ c.args.factor)
    (product_exact c.args.i.least c.args.factor (word_of c.args.i.least fits_a) w)
    (product_exact c.args.i.greatest c.args.factor (word_of c.args.i.greatest fits_b) w))
