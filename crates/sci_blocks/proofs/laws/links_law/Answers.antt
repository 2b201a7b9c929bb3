use Rattle.sci_blocks.proofs.Keeping as lemmas
use Rattle.sci_blocks.proofs.laws.links_law.Goals as goal

pub returns : goal.returns
returns c = λ d h. lemmas.links_kept d tt h
