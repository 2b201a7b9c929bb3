-- When a HALT_f ends a run, worked out by hand.
use Rattle.std.proofs.Common.{◌≡◌, true, false, [], ◌∷◌, nat_eq, refl}
use Rattle.sci_net.specs.Parts.{Parts}
use Rattle.sci_run.specs.Activity.{halts}
use Rattle.sci_examples.proofs.Blocks.{sum, halt, net_of}

-- 1 a sum and 2 a halt
abbrev pub halting : Parts
halting = net_of (sum ∷ halt ∷ []) ([] ∷ [] ∷ []) ([] ∷ [] ∷ [])

halt_ends : halts halting (λ b. nat_eq b 2) ≡ true
halt_ends = refl

sum_goes_on : halts halting (λ b. nat_eq b 1) ≡ false
sum_goes_on = refl
