use Rattle.sci_blocks.proofs.Keeping as lemmas
use Rattle.sci_blocks.proofs.laws.blocks_law.Goals as goal

pub returns : goal.returns
returns c = lemmas.blocks_kept
