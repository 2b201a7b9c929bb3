use Rattle.std.proofs.Common.{refl}
use Rattle.c_mean.specs.Laws.{GoesOn}
use Rattle.sci_due.specs.Laws.{HasTaken}
use Rattle.sci_due.proofs.Pending.{take_next}
use Rattle.sci_due.proofs.take_law.Goals as goal

pub returns : goal.returns
returns c env n p e at rest k w small falls ports first s chosen there =
    take_next (GoesOn env rest (HasTaken n p e w)) env n p e at rest k w small falls ports first s chosen there
    (λ k w' h. record { number = k; to = w'; is = refl; holds = h })
