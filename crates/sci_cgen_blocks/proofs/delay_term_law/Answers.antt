use Rattle.sci_cgen_blocks.proofs.Effects.{delay_term_law}
use Rattle.sci_cgen_blocks.proofs.delay_term_law.Goals as goal

pub returns : goal.returns
returns c = delay_term_law
