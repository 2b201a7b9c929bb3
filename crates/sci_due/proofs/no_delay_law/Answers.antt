use Rattle.std.proofs.Common.{refl}
use Rattle.c_mean.specs.Laws.{GoesOn}
use Rattle.sci_due.specs.Laws.{HasProgrammed}
use Rattle.sci_due.proofs.Pending.{program_none}
use Rattle.sci_due.proofs.no_delay_law.Goals as goal

pub returns : goal.returns
returns c env n i z p e rest k w s is there =
    program_none (GoesOn env rest (HasProgrammed n p w)) env n i z p e rest k w s is there (λ k w' h. record { number = k; to = w'; is = refl; holds = h })
