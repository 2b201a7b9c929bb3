use Rattle.std.proofs.Common.{refl, suc, ◌+◌}
use Rattle.sci_pending.specs.Pending.{replaced}
use Rattle.c_mean.specs.Laws.{GoesOn}
use Rattle.sci_due.specs.Laws.{HasProgrammed}
use Rattle.sci_due.proofs.Pending.{program_next}
use Rattle.sci_due.proofs.program_law.Goals as goal

pub returns : goal.returns
returns c env n i date d p e rest k w l small fits ports s now_is is there =
    program_next (GoesOn env rest (HasProgrammed n (replaced p (date + d) (suc i)) w)) env n i date d p e rest k w l small fits ports s now_is is there
    (λ k w' h. record { number = k; to = w'; is = refl; holds = h })
