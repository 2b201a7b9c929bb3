use Rattle.std.proofs.Common.{◌≡◌, ◌∙◌, ap, arith, true, false, ◌-ℤ◌, to_z, of_z, w64}
use Rattle.std.specs.Prelude.{int_lt}
use Rattle.std.proofs.lemmas.Int.{ints}
use Rattle.sci_base.specs.Fit.{fit}
use Rattle.sci_base.proofs.FitLemmas.{low_at_least, high_at_most}
use Rattle.sci_kinds.specs.Table.{fitted}
use Rattle.sci_bank_math.proofs.dead_band.beyond_cell.Goals as goal

pub returns-then-v-low : goal.returns-then-v-low
returns-then-v-low c =
    let within : int_lt c.args.high c.args.v ≡ false = grind (arith, ints) in
    let below : int_lt c.args.v c.args.low ≡ true = grind (arith, ints) in
    let a = low_at_least c.args.t in
    let z = high_at_most c.args.t in
    let difference : to_z w64 (of_z w64 (to_z w64 (of_z w64 c.args.v) -ℤ to_z w64 (of_z w64 c.args.low))) ≡ c.args.v -ℤ c.args.low = omega (arith, ints) in
    rw (within, below) (c.cell_of-then-v-low.ensures ∙ ap fitted (c.fit-then-v-low.ensures ∙ ap (fit c.args.t c.args.m) difference))
