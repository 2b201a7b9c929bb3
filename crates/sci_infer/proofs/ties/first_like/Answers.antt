use Rattle.std.proofs.Common.{arith, get_or}
use Rattle.std.proofs.lemmas.Option.{slice_get-get_or}
use Rattle.sci_infer.proofs.Numbers.{first_itself}
use Rattle.sci_infer.specs.Answer.{no_part}
use Rattle.sci_infer.proofs.ties.first_like.Goals as goal

pub returns : goal.returns
returns c =
    first_itself c.args.parts.now c.args.at (get_or c.args.parts.now c.args.at no_part) (slice_get-get_or c.args.parts.now c.args.at no_part c.requires.within)
    (λ k p r h a b l. c.loop-k.invariant k p r (omega (arith, h, c.loop-k-test.false)) a b l)
