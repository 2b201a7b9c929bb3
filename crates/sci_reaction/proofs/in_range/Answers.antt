use Rattle.sci_reaction.proofs.Masks.{mask_in_range}
use Rattle.sci_reaction.proofs.Fills.{inputs_in_range, signals_in_range}
use Rattle.sci_reaction.proofs.in_range.Goals as goal

pub returns-clause-masks : goal.returns-clause-masks
returns-clause-masks c n s y b mask net active is = mask_in_range n s y b mask net active is

pub returns-clause-inputs : goal.returns-clause-inputs
returns-clause-inputs c n y b net all inside = inputs_in_range n net y b inside all

pub returns-clause-signals : goal.returns-clause-signals
returns-clause-signals c n m i s y net free memory columns whole = signals_in_range n m i s net free memory columns y whole
