use Rattle.std.proofs.Common.{◌≡◌, ◌-ℤ◌, ◌≤ℤ◌, pos, arith, refl, to_z, of_z}
use Rattle.std.specs.Int.{w128}
use Rattle.std.proofs.lemmas.Int.{ints}
use Rattle.sci_base.specs.Fit.{low, high}
use Rattle.sci_base.proofs.FitLemmas.{low_at_least, high_at_most, int_le_yes}
use Rattle.sci_forms.proofs.typed.holds_before.Goals as goal

pub returns-then-from-before : goal.returns-then-from-before
returns-then-from-before c =
    let a = low_at_least c.args.t in
    let z = high_at_most c.args.t in
    let b : to_z w128 (of_z w128 (to_z w128 (of_z w128 c.from-before.result) -ℤ pos 1)) ≡ c.args.v -ℤ pos 1 = omega (arith, ints) in
    let h : to_z w128 (of_z w128 c.from-then-from-before.result) ≡ high c.args.t = omega (arith, ints) in
    let l : low c.args.t ≤ℤ (c.args.v -ℤ pos 1) = grind (arith, ints) in
    rw (b, h, int_le_yes (low c.args.t) (c.args.v -ℤ pos 1) l) refl
