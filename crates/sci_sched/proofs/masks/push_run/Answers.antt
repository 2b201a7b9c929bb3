use Rattle.std.proofs.Common.{◌+◌, take, Contains, refl, subst, sym, arith}
use Rattle.sci_net.specs.declared.Feed.{Feed}
use Rattle.sci_sched.specs.Guards.{AreGuards}
use Rattle.sci_sched.proofs.Runs.{guards_next}
use Rattle.sci_sched.proofs.masks.push_run.Goals as goal

pub loop-at-preserved : goal.loop-at-preserved
loop-at-preserved c =
    let n = c.args.net.now in let qs = c.args.branches.now in let i = c.loop-at.at in
    let none : Feed = record { block = 0; port = 0 } in
    record {
      begins = let low = c.loop-at.invariant.begins in omega (arith, low);
      within = let h = c.loop-at-test.true in omega (arith, h);
      guards = λ possible has old.
          subst (AreGuards n possible (take (i + 1) qs) c.args.block) (sym c.in_ok-push.ensures.items)
          (guards_next n possible qs c.args.block i none c.loop-at.guards.items _ c.loop-at-test.true (subst (Contains possible) (sym c.if-branches-at.true) has) refl c.fed_mask.ensures
          (c.loop-at.invariant.guards possible has old));
    }
