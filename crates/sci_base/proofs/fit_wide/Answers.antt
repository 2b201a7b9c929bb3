use Rattle.std.proofs.Common.{◌≡◌, ◌≤ℤ◌, pos, Some, ◌+ℤ◌, ◌-ℤ◌, to_z, of_z, arith, ap, sym, ◌∙◌, w64}
use Rattle.std.specs.Int.{w128}
use Rattle.std.proofs.lemmas.Int.{ints, to_z-of_z}
use Rattle.sci_base.specs.declared.Mode.TheVariants.{Wrap}
use Rattle.sci_base.specs.Fit.{low, high, span, wrap}
use Rattle.sci_base.proofs.FitLemmas.{fit_inside, fit_below, fit_above, low_at_least, high_at_most, wrap_bounds, wrap_fits, span_at_most}
use Rattle.sci_base.proofs.fit_wide.Goals as goal
use Rattle.sci_base.proofs.fit_wide.Goals.{else-low-v-via-then-low-v+else-v-high, else-low-v-via-else-low-v}

pub returns-then-v-high : goal.returns-then-v-high
returns-then-v-high c =
    let a = low_at_least c.args.t in
    let b = high_at_most c.args.t in
    let lo : low c.args.t ≤ℤ c.args.v = grind (arith, ints) in
    let hi : c.args.v ≤ℤ high c.args.t = grind (arith, ints) in
    let e : to_z w64 (of_z w64 (to_z w128 (of_z w128 c.args.v))) ≡ c.args.v = omega (arith, ints) in
    ap Some e ∙ sym (fit_inside c.args.t c.args.m c.args.v lo hi)

pub overflow_add-result : goal.overflow_add-result
overflow_add-result c =
    let a = low_at_least c.args.t in
    let b = high_at_most c.args.t in
    let s = span_at_most c.args.t in
    let lo : to_z w128 (of_z w128 c.from-low.result) ≡ low c.args.t = omega (arith, ints) in
    let n : to_z w128 (of_z w128 c.span.result) ≡ pos (span c.args.t) = omega (arith, ints) in
    let r = rw n at c.rem_euclid.ensures.upper_bound in
    omega (arith, ints)

-- the code's sum is the wrapped number
summed : (c : goal.After-rem_euclid) → to_z w128 (of_z w128 (to_z w128 (of_z w128 c.from-low.result) +ℤ to_z w128 (of_z w128 c.rem_euclid.result))) ≡ wrap c.args.t c.args.v
summed c =
    let a = low_at_least c.args.t in
    let b = high_at_most c.args.t in
    let s = span_at_most c.args.t in
    let lo : to_z w128 (of_z w128 c.from-low.result) ≡ low c.args.t = omega (arith, ints) in
    let v : to_z w128 (of_z w128 (to_z w128 (of_z w128 c.args.v) -ℤ to_z w128 (of_z w128 c.from-low.result))) ≡ c.args.v -ℤ low c.args.t = omega (arith, ints) in
    let n : to_z w128 (of_z w128 c.span.result) ≡ pos (span c.args.t) = omega (arith, ints) in
    let r = rw (v, n) at c.rem_euclid.ensures.value in
    let rb = rw n at c.rem_euclid.ensures.upper_bound in
    let fits : to_z w128 (of_z w128 (low c.args.t +ℤ to_z w128 (of_z w128 c.rem_euclid.result))) ≡ low c.args.t +ℤ c.rem_euclid.result = omega (arith, ints) in
    rw lo (fits ∙ ap (λ x. low c.args.t +ℤ x) r)

pub overflow_cast-result-in-Wrap : goal.overflow_cast-result-in-Wrap
overflow_cast-result-in-Wrap c =
    let a = low_at_least c.args.t in
    let b = high_at_most c.args.t in
    let w = wrap_bounds c.args.t c.args.v in
    rw (summed c) (wrap_fits c.args.t c.args.v)

pub returns-in-Wrap : goal.returns-in-Wrap
returns-in-Wrap c =
    rw (summed c, to_z-of_z w64 (wrap c.args.t c.args.v) (wrap_fits c.args.t c.args.v), c.in-Wrap.is)
    (elim c.else-low-v.branch [
      | else-low-v-via-then-low-v+else-v-high w ↦ sym (fit_above c.args.t Wrap c.args.v (grind (arith, ints)))
      | else-low-v-via-else-low-v w ↦ sym (fit_below c.args.t Wrap c.args.v (grind (arith, ints)))
    ])
