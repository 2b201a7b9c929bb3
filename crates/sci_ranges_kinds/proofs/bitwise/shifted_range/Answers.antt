use Rattle.std.proofs.Common.{◌≡◌, ◌∙◌, ◌^◌, ◌<◌, sym, subst, true, false, pos, ap, arith, rules, to_z, of_z, FitsSigned, w64}
use Rattle.std.specs.Prelude.{int_lt, unsigned_abs}
use Rattle.std.proofs.lemmas.Int.{ints, to_z-of_z}
use Rattle.sci_base.proofs.FitLemmas.{high_at_most, low_at_least, low≤high}
use Rattle.sci_ranges_base.specs.Wide.{numbers}
use Rattle.sci_ranges_base.specs.Intervals.{times}
use Rattle.sci_ranges_kinds.proofs.Asked.{width_small}
use Rattle.sci_ranges_kinds.proofs.Shifting.{shifted_down, shifted_up, same_floor}
use Rattle.sci_ranges_kinds.proofs.bitwise.shifted_range.Goals as goal

pub power-factor-requires : goal.power-factor-requires
power-factor-requires c =
    let few : unsigned_abs c.args.places < 32 = omega (arith, c.requires, width_small c.args.ty) in
    subst (λ z. unsigned_abs z < 32) (sym (to_z-of_z w64 c.args.places c.ranges.places)) few

pub returns-then-places-lt0 : goal.returns-then-places-lt0
returns-then-places-lt0 c =
    let places = to_z-of_z w64 c.args.places c.ranges.places in
    let below = subst (λ z. int_lt z (pos 0) ≡ true) places c.if-places-lt0.true in
    let power = c.power-factor.ensures.value ∙ ap (λ z. pos (2 ^ unsigned_abs z)) places in
    let factor : to_z w64 (of_z w64 c.power-factor.result) ≡ c.power-factor.result = omega (arith, ints) in
    let a : to_z w64 (of_z w64 c.args.i.least) ≡ c.args.i.least = omega (arith, ints) in
    let b : to_z w64 (of_z w64 c.args.i.greatest) ≡ c.args.i.greatest = omega (arith, ints) in
    let fits_least : FitsSigned w64 c.div_euclid-least.result = search rules in
    let fits_greatest : FitsSigned w64 c.div_euclid-greatest.result = search rules in
    c.new.ensures
    ∙ shifted_down c.args.ty c.args.places c.args.i _ _ c.power-factor.result below power
    (to_z-of_z w64 c.div_euclid-least.result fits_least ∙ c.div_euclid-least.ensures ∙ same_floor _ _ c.args.i.least c.power-factor.result a factor)
    (to_z-of_z w64 c.div_euclid-greatest.result fits_greatest ∙ c.div_euclid-greatest.ensures ∙ same_floor _ _ c.args.i.greatest c.power-factor.result b factor)

pub returns-else-places-lt0 : goal.returns-else-places-lt0
returns-else-places-lt0 c =
    let places = to_z-of_z w64 c.args.places c.ranges.places in
    let above = subst (λ z. int_lt z (pos 0) ≡ false) places c.if-places-lt0.false in
    let power = c.power-factor.ensures.value ∙ ap (λ z. pos (2 ^ unsigned_abs z)) places in
    let factor : to_z w64 (of_z w64 c.power-factor.result) ≡ c.power-factor.result = omega (arith, ints) in
    let h = high_at_most c.args.ty in
    let l = low≤high c.args.ty in
    let m = low_at_least c.args.ty in
    let some = c.power-factor.ensures.some in
    let few = c.power-factor.ensures.few in
    c.wrapped_up_to.ensures
    ∙ shifted_up c.args.ty c.args.places c.args.i _ c.power-factor.result (numbers c.times-wide.result) above power (omega (arith, ints))
    (c.times-wide.ensures.value ∙ ap (λ z. times z (numbers c.of.result)) factor ∙ ap (times c.power-factor.result) (ap numbers c.of.ensures.value))
