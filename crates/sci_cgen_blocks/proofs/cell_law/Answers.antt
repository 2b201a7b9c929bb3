use Rattle.sci_cgen_blocks.proofs.KindLaws.{cell_law}
use Rattle.sci_cgen_blocks.proofs.cell_law.Goals as goal

pub returns : goal.returns
returns c = cell_law
