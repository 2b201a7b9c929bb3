use Rattle.std.proofs.Common.{◌≡◌, ℤ, pos, ◌-ℤ◌, Option, ap, ◌∙◌, arith}
use Rattle.std.proofs.lemmas.Int.{ints}
use Rattle.sci_ranges_base.specs.declared.interval.Interval.{Interval}
use Rattle.sci_ranges_refined.specs.Choices.{up_to}
use Rattle.sci_ranges_choices.proofs.numbers.less_than.Goals as goal

moved : (r : Option Interval) (z a : ℤ) (i : Interval) → r ≡ up_to z i → z ≡ a → r ≡ up_to a i
moved r z a i h e = h ∙ ap (λ v. up_to v i) e

pub returns : goal.returns
returns c = moved c.up_to.result _ (c.args.v -ℤ pos 1) c.args.i c.up_to.ensures (omega (arith, ints))
