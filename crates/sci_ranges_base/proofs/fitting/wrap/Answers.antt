use Rattle.std.proofs.Common.{◌≡◌, refl, pos, ◌+ℤ◌, ◌-ℤ◌, to_z, of_z, arith, ap, ◌∙◌, w64}
use Rattle.std.specs.Int.{w128}
use Rattle.std.proofs.lemmas.Int.{ints, to_z-of_z}
use Rattle.sci_base.specs.Fit.{low, span, wrap}
use Rattle.sci_base.proofs.FitLemmas.{low_at_least, high_at_most, wrap_fits, span_at_most}
use Rattle.sci_ranges_base.proofs.fitting.wrap.Goals as goal

pub overflow_add-result : goal.overflow_add-result
overflow_add-result c =
    let a = low_at_least c.args.ty in
    let b = high_at_most c.args.ty in
    let s = span_at_most c.args.ty in
    let lo : to_z w128 (of_z w128 c.from-low.result) ≡ low c.args.ty = omega (arith, ints) in
    let n : to_z w128 (of_z w128 c.span.result) ≡ pos (span c.args.ty) = omega (arith, ints) in
    let r = rw n at c.rem_euclid.ensures.upper_bound in
    omega (arith, ints)

-- the code's sum is the wrapped number
summed : (c : goal.After-rem_euclid) → to_z w128 (of_z w128 (to_z w128 (of_z w128 c.from-low.result) +ℤ to_z w128 (of_z w128 c.rem_euclid.result))) ≡ wrap c.args.ty c.args.v
summed c =
    let a = low_at_least c.args.ty in
    let b = high_at_most c.args.ty in
    let s = span_at_most c.args.ty in
    let lo : to_z w128 (of_z w128 c.from-low.result) ≡ low c.args.ty = omega (arith, ints) in
    let v : to_z w128 (of_z w128 (to_z w128 (of_z w128 c.args.v) -ℤ to_z w128 (of_z w128 c.from-low.result))) ≡ c.args.v -ℤ low c.args.ty = omega (arith, ints) in
    let n : to_z w128 (of_z w128 c.span.result) ≡ pos (span c.args.ty) = omega (arith, ints) in
    let r = rw (v, n) at c.rem_euclid.ensures.value in
    let rb = rw n at c.rem_euclid.ensures.upper_bound in
    let fits : to_z w128 (of_z w128 (low c.args.ty +ℤ to_z w128 (of_z w128 c.rem_euclid.result))) ≡ low c.args.ty +ℤ c.rem_euclid.result = omega (arith, ints) in
    rw lo (fits ∙ ap (λ x. low c.args.ty +ℤ x) r)

pub overflow_cast-result : goal.overflow_cast-result
overflow_cast-result c = rw (summed c) (wrap_fits c.args.ty c.args.v)

pub returns : goal.returns
returns c = rw (summed c, to_z-of_z w64 (wrap c.args.ty c.args.v) (wrap_fits c.args.ty c.args.v)) refl
