use Rattle.std.proofs.Common.{◌∙◌, ap, rules, FitsSigned, w64}
use Rattle.std.specs.Prelude.{not}
use Rattle.std.proofs.lemmas.Int.{to_z-of_z}
use Rattle.sci_kinds.specs.Table.{truth}
use Rattle.sci_ranges_base.specs.Intervals.{from_to}
use Rattle.sci_ranges_base.specs.Wide.{numbers}
use Rattle.sci_ranges_base.proofs.Ends.{same_ends}
use Rattle.sci_ranges_rules.specs.Words.{may_hold, opposite}
use Rattle.sci_ranges_kinds.proofs.numbers.relation_range.Goals as goal

pub returns : goal.returns
returns c =
    let d = numbers c.args.difference in
    let op = to_z-of_z w64 c.args.op c.ranges.op in
    let fits_other : FitsSigned w64 c.opposite.result = search rules in
    let other = to_z-of_z w64 c.opposite.result fits_other ∙ c.opposite.ensures ∙ ap opposite op in
    let fits_least : FitsSigned w64 c.truth-least.result = search rules in
    let fits_greatest : FitsSigned w64 c.truth-greatest.result = search rules in
    c.new.ensures
    ∙ same_ends _ (from_to (truth (not (may_hold (opposite c.args.op) d))) (truth (may_hold c.args.op d)))
    (to_z-of_z w64 c.truth-least.result fits_least ∙ c.truth-least.ensures ∙ ap (λ b. truth (not b)) (c.may_hold.ensures ∙ ap (λ z. may_hold z d) other))
    (to_z-of_z w64 c.truth-greatest.result fits_greatest ∙ c.truth-greatest.ensures ∙ ap truth (c.may_hold-2.ensures ∙ ap (λ z. may_hold z d) op))
