use Rattle.std.proofs.Common.{◌≡◌, sym, ap, ◌∙◌, arith, to_z, of_z}
use Rattle.std.specs.Int.{w128}
use Rattle.std.proofs.lemmas.Int.{ints}
use Rattle.sci_base.specs.Fit.{in_range}
use Rattle.sci_ranges_base.specs.Wide.{numbers}
use Rattle.sci_ranges_base.proofs.Ends.{in_range_ends}
use Rattle.sci_ranges_base.proofs.fitting.fitted_range.Goals as goal

pub narrowed-requires : goal.narrowed-requires
narrowed-requires c =
    let least : to_z w128 (of_z w128 c.args.wide.least) ≡ c.args.wide.least = omega (arith, ints) in
    let greatest : to_z w128 (of_z w128 c.args.wide.greatest) ≡ c.args.wide.greatest = omega (arith, ints) in
    in_range_ends c.args.ty (numbers c.args.wide) (sym (c.is_in_type.ensures ∙ ap (in_range c.args.ty) least) ∙ c.if-is_in_type.true)
    (sym (c.is_in_type-then-is_in_type.ensures ∙ ap (in_range c.args.ty) greatest) ∙ c.if-is_in_type-2.true)
