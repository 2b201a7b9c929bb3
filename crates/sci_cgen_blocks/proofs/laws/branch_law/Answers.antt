use Rattle.sci_cgen_blocks.proofs.Effects.{branch_term_law}
use Rattle.sci_cgen_blocks.proofs.NextTexts.{branch_is}
use Rattle.sci_cgen_blocks.proofs.laws.branch_law.Goals as goal

pub returns : goal.returns
returns c s p x m u w is_typed sync fills holds = branch_is s p x m u w holds branch_term_law is_typed sync fills
