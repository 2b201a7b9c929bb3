use Rattle.sci_bulk.proofs.Forward.{forward_is_free, forward_is_short}
use Rattle.sci_bulk.proofs.laws.forward_nets.Goals as goal

pub returns-clause-free : goal.returns-clause-free
returns-clause-free c = forward_is_free

pub returns-clause-short : goal.returns-clause-short
returns-clause-short c = forward_is_short
