use Rattle.std.proofs.Common.{◌≡◌, [], replicate, vec_len}
use Rattle.sci_loop.specs.Lists.{plain}
use Rattle.sci_loop.proofs.walk.lists.empty_lists.Given as goal

abbrev pub invariant-loop-turn : goal.invariant-loop-turn
invariant-loop-turn g l = record { len : vec_len l.lists ≡ l._turn; empty : plain l.lists.items ≡ replicate l._turn [] }
