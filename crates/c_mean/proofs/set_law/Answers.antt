use Rattle.std.proofs.Common.{refl}
use Rattle.c_mean.specs.Places.{Puts}
use Rattle.c_mean.specs.Laws.{GoesOn}
use Rattle.c_mean.proofs.Steps.{set_runs}
use Rattle.c_mean.proofs.set_law.Goals as goal

pub returns : goal.returns
returns c env n p e rest w x i v at is h =
    set_runs (GoesOn env rest (Puts w x i v)) env n p e rest w x i v at is h (λ k w' put. record { number = k; to = w'; is = refl; holds = put })
