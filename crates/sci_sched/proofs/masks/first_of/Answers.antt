use Rattle.std.proofs.Common.{rules, of_calls, nat_lt}
use Rattle.std.proofs.lemmas.Fn.{always_returns_same}
use Rattle.sci_sched.proofs.Runs.{parted, first_is}
use Rattle.sci_sched.proofs.masks.first_of.Goals as goal

pub returns : goal.returns
returns c =
    let qs = c.args.branches.now in
    let b = c.args.block in
    first_is qs b c.partition_point.result c.partition_point.ensures.bound
    (c.partition_point.ensures.partitioned (λ q. nat_lt q.block b) (always_returns_same _ _ _ (λ a r f k. search (rules, of_calls))) (parted qs b c.requires))
