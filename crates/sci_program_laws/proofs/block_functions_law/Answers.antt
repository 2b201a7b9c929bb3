use Rattle.sci_program_laws.proofs.Blocks.{program_has_block_functions}
use Rattle.sci_program_laws.proofs.block_functions_law.Goals as goal

pub returns : goal.returns
returns c = program_has_block_functions
