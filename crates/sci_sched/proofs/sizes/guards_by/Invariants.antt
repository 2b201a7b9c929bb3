use Rattle.std.proofs.Common.{◌≡◌, take, get_or}
use Rattle.std.specs.List.{sum_by}
use Rattle.sci_sched.proofs.sizes.guards_by.Given as goal

abbrev pub invariant-loop-block : goal.invariant-loop-block
invariant-loop-block l = l.count ≡ sum_by (λ c. get_or l.counts c 0) (take l.block-index l.blocks)
