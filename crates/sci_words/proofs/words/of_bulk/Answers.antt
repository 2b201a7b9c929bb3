use Rattle.sci_words.proofs.Spoken.{size_zero}
use Rattle.sci_words.proofs.words.of_bulk.Goals as goal

pub returns-then-size-eq0 : goal.returns-then-size-eq0
returns-then-size-eq0 c = size_zero c.args.seed.now c.args.size.now c.in_ok-size.size c.in_ok-size.ensures.some c.if-size-eq0.true
