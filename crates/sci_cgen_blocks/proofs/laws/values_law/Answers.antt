use Rattle.sci_cgen_blocks.proofs.Bodies.{body_answers}
use Rattle.sci_cgen_blocks.proofs.KindLaws.{cell_law, cell_reads_law}
use Rattle.sci_cgen_blocks.proofs.laws.values_law.Goals as goal

pub returns : goal.returns
returns c env s p x m u n w is_typed other st mk fills holds room bounds apart =
    body_answers cell_law cell_reads_law env s p x m u n w is_typed other st mk fills holds room bounds apart
