use Rattle.std.proofs.Common.{◌≡◌, ℤ, Bool, Option, ◌∙◌, sym, ap, arith, rules, FitsSigned, w64}
use Rattle.std.proofs.lemmas.Int.{to_z-of_z, ints}
use Rattle.sci_forms.specs.Words.{param}
use Rattle.sci_ranges_base.specs.declared.interval.Interval.{Interval}
use Rattle.sci_ranges_refined.specs.Choices.{first_numbers, third_numbers, taken_numbers}
use Rattle.sci_ranges_choices.proofs.Inputs.{number_small}
use Rattle.sci_ranges_choices.proofs.numbers.taken_numbers.Goals as goal

pub first_numbers-requires-clause-least : goal.first_numbers-requires-clause-least
first_numbers-requires-clause-least c =
    let small = number_small c.args.spec.now c.requires.is_typed c.requires.switch in
    let fits : FitsSigned w64 c.at-number.result = search rules in
    let number = to_z-of_z w64 c.at-number.result fits ∙ c.at-number.ensures in
    omega (arith, ints, small.0, number)

pub first_numbers-requires-clause-greatest : goal.first_numbers-requires-clause-greatest
first_numbers-requires-clause-greatest c =
    let small = number_small c.args.spec.now c.requires.is_typed c.requires.switch in
    let fits : FitsSigned w64 c.at-number.result = search rules in
    let number = to_z-of_z w64 c.at-number.result fits ∙ c.at-number.ensures in
    omega (arith, ints, small.1, number)

pub third_numbers-requires : goal.third_numbers-requires
third_numbers-requires c =
    let small = number_small c.args.spec.now c.requires.is_typed c.requires.switch in
    let fits : FitsSigned w64 c.at-number.result = search rules in
    let number = to_z-of_z w64 c.at-number.result fits ∙ c.at-number.ensures in
    omega (arith, ints, small.0, number)

by_both : (f : ℤ → ℤ → Interval → Option Interval) (r : Option Interval) (a b x y : ℤ) (i : Interval) → r ≡ f a b i → a ≡ x → b ≡ y → r ≡ f x y i
by_both f r a b x y i h d e = h ∙ (ap (λ z. f z b i) d ∙ ap (λ z. f x z i) e)

pub returns-then-first : goal.returns-then-first
returns-then-first c =
    let fits_code : FitsSigned w64 c.at-code.result = search rules in
    let code = to_z-of_z w64 c.at-code.result fits_code ∙ c.at-code.ensures in
    let fits_number : FitsSigned w64 c.at-number.result = search rules in
    let number = to_z-of_z w64 c.at-number.result fits_number ∙ c.at-number.ensures in
    by_both first_numbers c.first_numbers.result _ _ (param c.args.spec.now 0) (param c.args.spec.now 1) c.args.i c.first_numbers.ensures code number
    ∙ ap (λ (b : Bool). taken_numbers c.args.spec.now b c.args.i) (sym c.if-first.true)

pub returns-else-first : goal.returns-else-first
returns-else-first c =
    let fits_code : FitsSigned w64 c.at-code.result = search rules in
    let code = to_z-of_z w64 c.at-code.result fits_code ∙ c.at-code.ensures in
    let fits_number : FitsSigned w64 c.at-number.result = search rules in
    let number = to_z-of_z w64 c.at-number.result fits_number ∙ c.at-number.ensures in
    by_both third_numbers c.third_numbers.result _ _ (param c.args.spec.now 0) (param c.args.spec.now 1) c.args.i c.third_numbers.ensures code number
    ∙ ap (λ (b : Bool). taken_numbers c.args.spec.now b c.args.i) (sym c.if-first.false)
