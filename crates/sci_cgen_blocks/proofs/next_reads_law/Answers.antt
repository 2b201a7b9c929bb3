use Rattle.sci_cgen_blocks.proofs.NextStates.{next_reads_law}
use Rattle.sci_cgen_blocks.proofs.next_reads_law.Goals as goal

pub returns : goal.returns
returns c = next_reads_law
