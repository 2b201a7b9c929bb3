use Rattle.sci_cgen_blocks.proofs.Effects.{delay_term_law}
use Rattle.sci_cgen_blocks.proofs.NextTexts.{delay_is}
use Rattle.sci_cgen_blocks.proofs.laws.delay_law.Goals as goal

pub returns : goal.returns
returns c s p x m q u w is_typed has fills holds = delay_is s p x m u w holds delay_term_law is_typed has fills q
