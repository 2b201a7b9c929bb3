use Rattle.std.proofs.Common.{◌≡◌, ◌<◌, ◌^◌, ◌∙◌, ℤ, ap, subst, sym, arith, w64}
use Rattle.std.specs.Prelude.{unsigned_abs}
use Rattle.std.proofs.lemmas.Int.{to_z-of_z, fits_signed_from_abs}
use Rattle.sci_net.proofs.TypedSpecs.{sensor_kind, column_fits}
use Rattle.sci_net.proofs.net.push_column.Goals as goal

pub overflow_cast-unsigned_abs : goal.overflow_cast-unsigned_abs
overflow_cast-unsigned_abs c =
    let sensor = sensor_kind c.args.spec.now.kind (sym c.is_sensor.ensures ∙ c.if-is_sensor.true) in
    let small : unsigned_abs c.at.result < 2 ^ 32 = subst (λ (v : ℤ). unsigned_abs v < 2 ^ 32) (sym c.at.ensures) (column_fits c.args.spec.now sensor c.requires) in
    let same = to_z-of_z w64 c.at.result (fits_signed_from_abs w64 c.at.result (omega (arith, small))) in
    let e : c.unsigned_abs.result ≡ unsigned_abs c.at.result = c.unsigned_abs.ensures.value ∙ ap unsigned_abs same in
    omega (arith, small, e)
