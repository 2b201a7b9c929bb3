use Rattle.std.proofs.Common.{◌≡◌, ◌∙◌, ℤ, refl, ap, rules, FitsSigned, w64}
use Rattle.std.specs.Int.{w128}
use Rattle.std.proofs.lemmas.Int.{to_z-of_z}
use Rattle.sci_forms.specs.Words.{param}
use Rattle.sci_ranges_base.specs.Intervals.{from_to}
use Rattle.sci_ranges_base.specs.Wide.{numbers}
use Rattle.sci_ranges_base.proofs.Ends.{same_ends}
use Rattle.sci_ranges_rules.specs.Rules.{fitted_out}
use Rattle.sci_ranges_rules.specs.Words.{beyond}
use Rattle.sci_ranges_kinds.proofs.numbers.dead_band.Goals as goal

same : (a b v x y w : ℤ) → a ≡ x → b ≡ y → v ≡ w → beyond a b v ≡ beyond x y w
same a b v x y w e f g = rw (e, f, g) refl

pub returns : goal.returns
returns c =
    let i = c.in_ok-i.i in
    let low = param c.args.spec.now 1 in
    let high = param c.args.spec.now 2 in
    let fits_low : FitsSigned w64 c.at-low.result = search rules in
    let low_is = to_z-of_z w64 c.at-low.result fits_low ∙ c.at-low.ensures in
    let fits_high : FitsSigned w64 c.at-high.result = search rules in
    let high_is = to_z-of_z w64 c.at-high.result fits_high ∙ c.at-high.ensures in
    let fits_least : FitsSigned w64 i.least = search rules in
    let fits_greatest : FitsSigned w64 i.greatest = search rules in
    let fits_a : FitsSigned w128 c.beyond.result = search rules in
    let fits_b : FitsSigned w128 c.beyond-2.result = search rules in
    let wide = ap numbers c.new-wide.ensures
    ∙ same_ends _ (from_to (beyond low high i.least) (beyond low high i.greatest))
    (to_z-of_z w128 c.beyond.result fits_a ∙ c.beyond.ensures.value ∙ same _ _ _ low high i.least low_is high_is (to_z-of_z w64 i.least fits_least))
    (to_z-of_z w128 c.beyond-2.result fits_b ∙ c.beyond-2.ensures.value
    ∙ same _ _ _ low high i.greatest low_is high_is (to_z-of_z w64 i.greatest fits_greatest)) in
    let value = c.in_ok-i.ensures in
    rw (← value) (c.fitted_out.ensures ∙ ap (fitted_out c.args.spec.now) wide)
