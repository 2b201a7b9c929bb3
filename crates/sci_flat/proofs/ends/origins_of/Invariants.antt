use Rattle.std.proofs.Common.{◌≡◌, map, take, get_or}
use Rattle.sci_flat.proofs.ends.origins_of.Given as goal

abbrev pub invariant-loop-target : goal.invariant-loop-target
invariant-loop-target l = l.found.items ≡ map (λ q. get_or l.origins q 0) (take l.target-index l.targets)
