use Rattle.std.proofs.Common.{arith, ap}
use Rattle.std.proofs.lemmas.List.{get_or_default}
use Rattle.sci_net.specs.declared.Feed.{Feed}
use Rattle.sci_sched.proofs.Runs.{first_here}
use Rattle.sci_sched.proofs.masks.first_from.Goals.{else-from-branches-via-then-from-branches+else-branches-from, else-from-branches-via-else-from-branches}
use Rattle.sci_sched.proofs.masks.first_from.Goals as goal

pub returns-else-from-branches : goal.returns-else-from-branches
returns-else-from-branches c =
    let qs = c.args.branches.now in let from = c.args.from in
    let none : Feed = record { block = 0; port = 0 } in
    first_here qs from c.args.block c.requires.rising c.requires.from (λ d h.
    elim c.else-from-branches.branch [
      | else-from-branches-via-then-from-branches+else-branches-from w ↦
          let least = w.if-branches-from.false in
          let same = ap (λ (q : Feed). q.block) (get_or_default qs from d none h) in
          omega (arith, least, same)
      | else-from-branches-via-else-from-branches w ↦ let past = w.if-from-branches.false in absurd (omega (arith, past, h))
    ])
