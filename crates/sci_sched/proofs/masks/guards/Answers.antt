use Rattle.std.proofs.Common.{subst, sym}
use Rattle.sci_sched.specs.Guards.{GuardsTo}
use Rattle.sci_sched.proofs.Runs.{guards_begin, guards_on, guards_end}
use Rattle.sci_sched.proofs.masks.guards.Goals as goal

pub loop-condition-init : goal.loop-condition-init
loop-condition-init c =
    subst (GuardsTo c.args.net.now c.args.conditions.now c.args.branches.now c.args.block 0 0) (sym c.new-guards.ensures.items) (guards_begin c.args.net.now c.args.conditions.now c.args.branches.now c.args.block)

pub loop-condition-preserved : goal.loop-condition-preserved
loop-condition-preserved c =
    guards_on c.args.net.now c.args.conditions.now c.args.branches.now c.args.block c.loop-condition.condition-index c.requires.sorted c.requires.rising c.loop-condition.at c.first_from-from.result _
    c.loop-condition.guards.items c.push_run.new.guards.items c.loop-condition-test.true c.loop-condition.invariant c.first_from-from.ensures c.in_ok-at.ensures.end c.in_ok-at.ensures.guards

pub returns : goal.returns
returns c =
    guards_end c.args.net.now c.args.conditions.now c.args.branches.now c.args.block c.loop-condition.condition-index c.requires.sorted c.requires.rising c.loop-condition.at c.loop-condition.guards.items
    c.loop-condition-test.false c.loop-condition.invariant
