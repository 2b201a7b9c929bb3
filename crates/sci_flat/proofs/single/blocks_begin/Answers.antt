use Rattle.sci_flat.proofs.Source.{no_step, one_place}
use Rattle.sci_flat.proofs.single.blocks_begin.Goals as goal

pub returns : goal.returns
returns c = record { places = one_place; outputs = no_step }
