use Rattle.sci_blocks.proofs.Lawful as lemmas
use Rattle.sci_blocks.proofs.laws.read_law.Goals as goal

pub returns : goal.returns
returns c = lemmas.read_law
