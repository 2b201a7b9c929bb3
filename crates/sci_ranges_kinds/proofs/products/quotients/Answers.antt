use Rattle.std.proofs.Common.{◌∙◌, ap}
use Rattle.std.specs.Prelude.{option_map, int_div}
use Rattle.sci_ranges_base.specs.Intervals.{corners}
use Rattle.sci_ranges_kinds.proofs.Corners.{same_join}
use Rattle.sci_ranges_kinds.proofs.products.quotients.Goals as goal

pub returns-clause-value : goal.returns-clause-value
returns-clause-value c =
    let f = option_map (corners int_div c.args.i) in
    c.either.ensures.value
    ∙ same_join (c.by_part-below.ensures.value ∙ ap f c.below_zero-negative.ensures.value) (c.by_part-above.ensures.value ∙ ap f c.above_zero-positive.ensures.value)
