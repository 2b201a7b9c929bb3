use Rattle.std.proofs.Common.{ap, ◌∙◌, arith}
use Rattle.std.proofs.lemmas.Int.{ints}
use Rattle.sci_ranges_base.specs.Wide.{numbers}
use Rattle.sci_ranges_base.proofs.Ends.{same_ends}
use Rattle.sci_ranges_base.proofs.wide.Wide.minus.Goals as goal

pub returns : goal.returns
returns c = ap numbers c.new.ensures ∙ same_ends _ _ (omega (arith, ints)) (omega (arith, ints))
