use Rattle.std.proofs.Common.{◌≡◌, ◌++◌}
use Rattle.sci_store.specs.Heads.{heads_of}
use Rattle.sci_store.proofs.LineStarts.{blocks_left}
use Rattle.sci_store.proofs.heads.heads.Given as goal

-- with the blocks that are still to come they are all
abbrev pub invariant-loop-block : goal.invariant-loop-block
invariant-loop-block l = l.heads.items ++ blocks_left l.net.specs l.block ≡ heads_of l.net
