use Rattle.std.proofs.Common.{◌≡◌, ◌∙◌, sym, subst, arith, rules, to_z, of_z, FitsSigned, w64}
use Rattle.std.specs.Prelude.{int_div}
use Rattle.std.specs.Int.{w128}
use Rattle.std.proofs.lemmas.Int.{ints}
use Rattle.sci_ranges_base.specs.Intervals.{HasEnds, exact, one, hull}
use Rattle.sci_ranges_base.specs.Wide.{numbers}
use Rattle.sci_ranges_base.proofs.Ends.{word_of}
use Rattle.sci_ranges_kinds.proofs.Corners.{crossed, pair_ends, quotient_exact, code_quotient}
use Rattle.sci_ranges_kinds.proofs.products.by_one.Goals as goal

-- the quotients as the code has them
told : (c : goal.After-across) → numbers c.across.result ≡ hull (one (int_div c.args.i.least c.args.divisor)) (one (int_div c.args.i.greatest c.args.divisor))
told c =
    let z : to_z w128 (of_z w128 c.from-divisor.result) ≡ c.args.divisor = omega (arith, ints) in
    let a : to_z w128 (of_z w128 c.from-a.result) ≡ c.args.i.least = omega (arith, ints) in
    let b : to_z w128 (of_z w128 c.from-b.result) ≡ c.args.i.greatest = omega (arith, ints) in
    let fits_a : FitsSigned w64 c.args.i.least = search rules in
    let fits_b : FitsSigned w64 c.args.i.greatest = search rules in
    c.across.ensures
    ∙ crossed _ _ (int_div c.args.i.least c.args.divisor) (int_div c.args.i.greatest c.args.divisor)
    (code_quotient c.args.i.least c.args.divisor _ _ a z (word_of c.args.i.least fits_a))
    (code_quotient c.args.i.greatest c.args.divisor _ _ b z (word_of c.args.i.greatest fits_b))

pub returns-clause-value : goal.returns-clause-value
returns-clause-value c = told c

pub returns-clause-ends : goal.returns-clause-ends
returns-clause-ends c =
    let fits_a : FitsSigned w64 c.args.i.least = search rules in
    let fits_b : FitsSigned w64 c.args.i.greatest = search rules in
    subst (HasEnds exact) (sym (told c))
    (pair_ends exact (int_div c.args.i.least c.args.divisor) (int_div c.args.i.greatest c.args.divisor)
    (quotient_exact c.args.i.least c.args.divisor (word_of c.args.i.least fits_a))
    (quotient_exact c.args.i.greatest c.args.divisor (word_of c.args.i.greatest fits_b)))
