use Rattle.std.proofs.Common.{◌∙◌, Some, ap, rules, FitsSigned, w64}
use Rattle.std.proofs.lemmas.Int.{to_z-of_z}
use Rattle.sci_forms.specs.declared.Kind.TheVariants.{Shift}
use Rattle.sci_forms.specs.Words.{param, out_type}
use Rattle.sci_kinds.specs.Asks.{Asks}
use Rattle.sci_ranges_base.specs.Cells.{valued}
use Rattle.sci_ranges_kinds.proofs.Asked.{asks_of}
use Rattle.sci_ranges_kinds.proofs.Shifting.{same_moved}
use Rattle.sci_ranges_kinds.proofs.bitwise.shift.Goals as goal

pub moved_range-range-requires : goal.moved_range-range-requires
moved_range-range-requires c =
    let a : Asks Shift c.args.spec.now = asks_of Shift c.args.spec.now c.requires.kind c.requires.is_typed in
    let fits : FitsSigned w64 c.at-places.result = search rules in
    let places = to_z-of_z w64 c.at-places.result fits ∙ c.at-places.ensures in
    rw (places, c.out_type-ty.ensures) a.3

pub returns : goal.returns
returns c =
    let fits : FitsSigned w64 c.at-places.result = search rules in
    let places = to_z-of_z w64 c.at-places.result fits ∙ c.at-places.ensures in
    let fits_code : FitsSigned w64 c.at-code.result = search rules in
    let code = to_z-of_z w64 c.at-code.result fits_code ∙ c.at-code.ensures in
    let value = c.in_ok-i.ensures in
    rw (← value)
    (c.of.ensures
    ∙ ap (λ r. valued (Some r)) (c.moved_range-range.ensures ∙ same_moved _ (out_type c.args.spec.now) _ (param c.args.spec.now 0) _
    (param c.args.spec.now 1) c.in_ok-i.i c.out_type-ty.ensures places code))
