use Rattle.sci_cgen_blocks.proofs.Effects.{branch_term_law}
use Rattle.sci_cgen_blocks.proofs.branch_term_law.Goals as goal

pub returns : goal.returns
returns c = branch_term_law
