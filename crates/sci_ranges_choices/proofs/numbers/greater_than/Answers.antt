use Rattle.std.proofs.Common.{◌≡◌, ℤ, pos, ◌+ℤ◌, Option, ap, ◌∙◌, arith}
use Rattle.std.proofs.lemmas.Int.{ints}
use Rattle.sci_ranges_base.specs.declared.interval.Interval.{Interval}
use Rattle.sci_ranges_refined.specs.Choices.{from_on}
use Rattle.sci_ranges_choices.proofs.numbers.greater_than.Goals as goal

moved : (r : Option Interval) (z a : ℤ) (i : Interval) → r ≡ from_on z i → z ≡ a → r ≡ from_on a i
moved r z a i h e = h ∙ ap (λ v. from_on v i) e

pub returns : goal.returns
returns c = moved c.from_on.result _ (c.args.v +ℤ pos 1) c.args.i c.from_on.ensures (omega (arith, ints))
