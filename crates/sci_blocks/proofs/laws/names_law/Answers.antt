use Rattle.sci_blocks.proofs.Lawful as lemmas
use Rattle.sci_blocks.proofs.laws.names_law.Goals as goal

pub returns : goal.returns
returns c = lemmas.names_law
