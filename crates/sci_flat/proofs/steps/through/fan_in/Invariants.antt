use Rattle.std.proofs.Common.{◌≡◌, ◌++◌, map}
use Rattle.std.specs.List.{range_with_len}
use Rattle.sci_flat.proofs.steps.through.fan_in.Given as goal

abbrev pub invariant-loop-k : goal.invariant-loop-k
invariant-loop-k l = l.steps.items ≡ l.fn.steps.items ++ map (λ k. (k, l.target)) (range_with_len l.first l.k)
