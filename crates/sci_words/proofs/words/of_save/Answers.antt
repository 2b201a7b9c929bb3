use Rattle.sci_words.proofs.Spoken.{reaction_zero}
use Rattle.sci_words.proofs.words.of_save.Goals as goal

pub returns-then-reaction-eq0 : goal.returns-then-reaction-eq0
returns-then-reaction-eq0 c = reaction_zero c.args.file.now c.args.inputs_file.now c.args.until.now c.args.limit.now c.args.reaction.now _ c.in_ok-reaction.ensures.some c.if-reaction-eq0.true
