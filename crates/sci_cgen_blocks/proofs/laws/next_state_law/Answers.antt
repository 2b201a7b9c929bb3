use Rattle.sci_cgen_blocks.proofs.NextStates.{next_law, next_reads_law, next_along_law, next_along_reads_law}
use Rattle.sci_cgen_blocks.proofs.NextTexts.{next_is}
use Rattle.sci_cgen_blocks.proofs.laws.next_state_law.Goals as goal

pub returns : goal.returns
returns c env s p x m u n w is_typed st count fills holds room bounds =
    next_is env s p x m u w holds next_law next_reads_law is_typed st count fills next_along_law next_along_reads_law bounds room n
