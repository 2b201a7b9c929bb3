use Rattle.std.proofs.Common.{refl}
use Rattle.sci_cgen_blocks.proofs.Written.{pushed}
use Rattle.sci_due_texts.proofs.pieces.push.Goals as goal

pub returns : goal.returns
returns c = pushed _ _ _ _ c.in_ok-push.ensures.items refl
