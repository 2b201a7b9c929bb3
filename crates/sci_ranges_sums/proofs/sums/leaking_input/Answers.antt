use Rattle.std.proofs.Common.{◌∙◌, ap, arith, rules, FitsSigned, w64}
use Rattle.std.proofs.lemmas.Int.{to_z-of_z}
use Rattle.sci_forms.specs.declared.Kind.TheVariants.{Summation}
use Rattle.sci_kinds.specs.Asks.{Asks}
use Rattle.sci_ranges_refined.specs.Sums.{left_over}
use Rattle.sci_ranges_kinds.proofs.Asked.{asks_of}
use Rattle.sci_ranges_sums.proofs.Totals.{kept_input, both_left}
use Rattle.sci_ranges_sums.proofs.sums.leaking_input.Goals as goal

pub input_range-requires-clause-few : goal.input_range-requires-clause-few
input_range-requires-clause-few c =
    let a : Asks Summation c.args.spec.now = asks_of Summation c.args.spec.now c.requires.kind c.requires.is_typed in
    omega (arith, a.2, c.requires.input)

pub returns-then-j-leak-2 : goal.returns-then-j-leak-2
returns-then-j-leak-2 c =
    let i = c.in_ok-input.input in
    let fits_least : FitsSigned w64 i.least = search rules in
    let fits_greatest : FitsSigned w64 i.greatest = search rules in
    let fits_a : FitsSigned w64 c.left_over-least.result = search rules in
    let fits_b : FitsSigned w64 c.left_over-greatest.result = search rules in
    kept_input c.args.spec.now c.args.leak.kept c.args.leak.lost c.args.leak.places c.args.ins.now c.args.e c.args.j i c.new.result c.if-j-leak.false c.if-j-leak-2.true c.in_ok-input.ensures
    (c.new.ensures
    ∙ both_left c.args.leak.places i _ _
    (to_z-of_z w64 c.left_over-least.result fits_a ∙ (c.left_over-least.ensures ∙ ap (left_over c.args.leak.places) (to_z-of_z w64 i.least fits_least)))
    (to_z-of_z w64 c.left_over-greatest.result fits_b ∙ (c.left_over-greatest.ensures ∙ ap (left_over c.args.leak.places) (to_z-of_z w64 i.greatest fits_greatest))))
