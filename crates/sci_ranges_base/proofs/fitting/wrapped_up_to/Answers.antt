use Rattle.std.proofs.Common.{◌≡◌, sym, ap, ◌∙◌, arith, to_z, of_z, w64}
use Rattle.std.specs.Int.{w128}
use Rattle.std.proofs.lemmas.Int.{ints}
use Rattle.sci_base.specs.Fit.{low}
use Rattle.sci_ranges_base.specs.Intervals.{from_to}
use Rattle.sci_ranges_base.specs.Wide.{numbers}
use Rattle.sci_ranges_base.specs.Fitting.{turns}
use Rattle.sci_ranges_base.proofs.Ends.{same_ends, turned_apart}
use Rattle.sci_ranges_base.proofs.fitting.wrapped_up_to.Goals as goal

pub returns-else-turns : goal.returns-else-turns
returns-else-turns c =
    let least : to_z w128 (of_z w128 c.args.wide.least) ≡ c.args.wide.least = omega (arith, ints) in
    let greatest : to_z w128 (of_z w128 c.args.wide.greatest) ≡ c.args.wide.greatest = omega (arith, ints) in
    let a : c.turns.result ≡ turns c.args.ty c.args.wide.least = c.turns.ensures ∙ ap (turns c.args.ty) least in
    let b : c.turns-2.result ≡ turns c.args.ty c.args.wide.greatest = c.turns-2.ensures ∙ ap (turns c.args.ty) greatest in
    c.new-else-turns.ensures
    ∙ same_ends (from_to (to_z w64 (of_z w64 c.low.result)) (to_z w64 (of_z w64 c.args.most))) (from_to (low c.args.ty) c.args.most) (omega (arith, ints)) (omega (arith, ints))
    ∙ sym (turned_apart c.args.ty c.args.most (numbers c.args.wide) (λ e. c.if-turns.false (ap (of_z w128) (a ∙ e ∙ sym b))))
