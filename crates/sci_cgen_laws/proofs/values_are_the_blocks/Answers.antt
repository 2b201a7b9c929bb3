use Rattle.sci_cgen_laws.proofs.Kept.{program_keeps_values}
use Rattle.sci_cgen_laws.proofs.values_are_the_blocks.Goals as goal

pub returns : goal.returns
returns c = program_keeps_values
