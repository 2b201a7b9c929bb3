use Rattle.std.proofs.Common.{◌≡◌, ◌+◌, refl, sym, subst, arith}
use Rattle.sci_reaction.specs.Memory.{AreColumns}
use Rattle.sci_store.specs.Frame.{Fixed}
use Rattle.sci_sim.proofs.Runs.{start_on_way, fires_now, goes_further, trace_is, finished_by}
use Rattle.sci_resume.proofs.Reactions.{stands_behind, fired_on_way, over_by}
use Rattle.sci_resume.proofs.react_times.Goals as goal

pub loop-done-init : goal.loop-done-init
loop-done-init g c = start_on_way c.args.ins.now c.args.until c.args.limit c.args.ready.now _ _ c.requires.start

pub step-requires-clause-columns : goal.step-requires-clause-columns
step-requires-clause-columns g c = subst (λ (x : Fixed). AreColumns x.net c.args.ins.now) (sym c.loop-done.invariant.fixed) c.requires.columns

pub step-requires-clause-before : goal.step-requires-clause-before
step-requires-clause-before g c =
    let n = fires_now c.args.ins.now c.args.until c.args.limit c.args.ready.now c.loop-done.ready _ _ _ c.loop-done.done c.loop-done.invariant in
    (n.st, n.from, n.date, n.source, n.at, n.fires)

pub returns-in-Ok-Over-clause-ended : goal.returns-in-Ok-Over-clause-ended
returns-in-Ok-Over-clause-ended g c =
    let w = c.loop-done.invariant in
    let n = fires_now c.args.ins.now c.args.until c.args.limit c.args.ready.now c.loop-done.ready _ _ _ c.loop-done.done w in
    let s = c.in-Ok-Over.ensures.reacted n.st n.from n.date n.source n.at n.fires in
    let f = finished_by c.args.ins.now c.args.until c.args.limit c.args.ready.now c.loop-done.ready _ _ _ c.loop-done.done w s.0 s.1 c.step.new.self _ c.step.ensures.net s.3.1 c.in-Ok-Over.field-0 c.in-Ok-Over.field-0-0 c.in-Ok-Over.field-0-is s.3.0 in
    let trace = trace_is c.args.ins.now c.args.until c.args.limit c.args.ready.now c.loop-done.ready _ _ _ c.loop-done.done w s.0 s.1 c.step.new.self _ c.step.ensures.net s.3.1 c.in-Ok-Over.field-0-0 f in
    let fired = fired_on_way c.args.ins.now c.args.until c.args.limit c.args.ready.now c.loop-done.ready _ _ _ c.loop-done.done c.step.new.self.fired w c.step.ensures.fired in
    over_by c.args.ready.now.fixed.net c.args.ins.now c.args.until c.args.limit c.args.count c.loop-done.done (c.loop-done.done + 1) c.step.new.self _ _ c.in-Ok-Over.field-0-0 f trace fired c.loop-done-test.true refl

pub unreachable-requires : goal.unreachable-requires
unreachable-requires g c =
    let n = fires_now c.args.ins.now c.args.until c.args.limit c.args.ready.now c.loop-done.ready _ _ _ c.loop-done.done c.loop-done.invariant in
    let s = c.in-Err.ensures.reacted n.st n.from n.date n.source n.at n.fires in
    omega (arith, s.2.cause)

pub loop-done-preserved : goal.loop-done-preserved
loop-done-preserved g c =
    let w = c.loop-done.invariant in
    let n = fires_now c.args.ins.now c.args.until c.args.limit c.args.ready.now c.loop-done.ready _ _ _ c.loop-done.done w in
    let s = c.in-Ok-More.ensures.reacted n.st n.from n.date n.source n.at n.fires in
    goes_further c.args.ins.now c.args.until c.args.limit c.args.ready.now c.loop-done.ready _ _ _ c.loop-done.done w s.0 s.1 c.step.new.self _ c.step.ensures.net s.3.1 _ _ s.2 c.in-Ok-More.field-0 c.in-Ok-More.field-0-is s.3.0 c.step.ensures.offset c.step.ensures.started c.step.ensures.fired

pub returns-clause-stands : goal.returns-clause-stands
returns-clause-stands g c =
    let all : c.loop-done.done ≡ c.args.count = omega (arith, c.loop-done-test.false, c.loop-done.auto.done-end) in
    stands_behind c.args.ins.now c.args.until c.args.limit c.args.ready.now c.loop-done.ready _ _ _ c.loop-done.done c.args.count all c.requires.some c.loop-done.invariant
