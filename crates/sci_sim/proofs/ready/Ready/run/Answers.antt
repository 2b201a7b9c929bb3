use Rattle.std.proofs.Common.{◌∙◌, sym, subst, arith}
use Rattle.std.proofs.lemmas.Result.{err_from_is_err_and}
use Rattle.sci_reaction.specs.Memory.{AreColumns}
use Rattle.sci_store.specs.Frame.{Fixed, IsFrame}
use Rattle.sci_sim.specs.At.{Running}
use Rattle.sci_sim.proofs.Runs.{start_on_way, fires_now, goes_further, trace_is, trace_written, trace_cut, no_more, not_over, finished_by}
use Rattle.sci_sim.proofs.ready.Ready.run.Goals as goal

pub loop-reaction-init : goal.loop-reaction-init
loop-reaction-init g c = start_on_way c.args.ins.now c.args.until c.args.limit c.args.self.now _ _ c.requires.start

pub unreachable-requires : goal.unreachable-requires
unreachable-requires g c = no_more c.args.ins.now c.args.until c.args.limit c.args.self.now c.loop-reaction.self _ _ _ c.loop-reaction._reaction c.loop-reaction.invariant (omega (arith, c.loop-reaction-test.false, c.loop-reaction.auto._reaction-end))

pub step-requires-clause-columns : goal.step-requires-clause-columns
step-requires-clause-columns g c = subst (λ (x : Fixed). AreColumns x.net c.args.ins.now) (sym c.loop-reaction.invariant.fixed) c.requires.columns

pub step-requires-clause-before : goal.step-requires-clause-before
step-requires-clause-before g c =
    let n = fires_now c.args.ins.now c.args.until c.args.limit c.args.self.now c.loop-reaction.self _ _ _ c.loop-reaction._reaction c.loop-reaction.invariant in
    (n.st, n.from, n.date, n.source, n.at, n.fires)

pub returns-in_err-end-clause-written : goal.returns-in_err-end-clause-written
returns-in_err-end-clause-written g c os run =
    let n = fires_now c.args.ins.now c.args.until c.args.limit c.args.self.now c.loop-reaction.self _ _ _ c.loop-reaction._reaction c.loop-reaction.invariant in
    let s = c.step.ensures.reacted n.st n.from n.date n.source n.at n.fires in
    let err = err_from_is_err_and c.from_residual.result c.from_residual.ensures.1 in
    trace_cut c.args.ins.now c.args.until c.args.limit c.args.self.now c.loop-reaction.self _ _ _ c.loop-reaction._reaction c.loop-reaction.invariant s.0 s.1 (subst (λ (x : Running). IsFrame x.fixed) c.self.view_is c.well_formed-2.ensures.frame)
    c.step.result c.from_residual.result _ err.0 _ os c.in_err-end.was err.1 run s.2

pub returns-in-Over-clause-written : goal.returns-in-Over-clause-written
returns-in-Over-clause-written g c os run =
    let n = fires_now c.args.ins.now c.args.until c.args.limit c.args.self.now c.loop-reaction.self _ _ _ c.loop-reaction._reaction c.loop-reaction.invariant in
    let s = c.in_ok-end.ensures.reacted n.st n.from n.date n.source n.at n.fires in
    let f = finished_by c.args.ins.now c.args.until c.args.limit c.args.self.now c.loop-reaction.self _ _ _ c.loop-reaction._reaction c.loop-reaction.invariant s.0 s.1 c.step.new.self _
    c.step.ensures.net s.3.1 _ c.in-Over.end c.in-Over.is s.3.0 in
    let trace = trace_is c.args.ins.now c.args.until c.args.limit c.args.self.now c.loop-reaction.self _ _ _ c.loop-reaction._reaction c.loop-reaction.invariant s.0 s.1 c.step.new.self _
    c.step.ensures.net s.3.1 c.in-Over.end f in
    trace_written c.args.ins.now c.args.until c.args.limit c.args.self.now c.loop-reaction.self _ _ _ c.loop-reaction._reaction c.loop-reaction.invariant s.0 s.1 (subst (λ (x : Running). IsFrame x.fixed) c.self.view_is c.well_formed-2.ensures.frame)
    _ _ _ os trace run s.2

pub returns-in-Over-clause-finished : goal.returns-in-Over-clause-finished
returns-in-Over-clause-finished g c =
    let w = c.loop-reaction.invariant in
    let n = fires_now c.args.ins.now c.args.until c.args.limit c.args.self.now c.loop-reaction.self _ _ _ c.loop-reaction._reaction w in
    let s = c.in_ok-end.ensures.reacted n.st n.from n.date n.source n.at n.fires in
    let f = finished_by c.args.ins.now c.args.until c.args.limit c.args.self.now c.loop-reaction.self _ _ _ c.loop-reaction._reaction w s.0 s.1 c.step.new.self _
    c.step.ensures.net s.3.1 _ c.in-Over.end c.in-Over.is s.3.0 in
    let trace = trace_is c.args.ins.now c.args.until c.args.limit c.args.self.now c.loop-reaction.self _ _ _ c.loop-reaction._reaction w s.0 s.1 c.step.new.self _
    c.step.ensures.net s.3.1 c.in-Over.end f in
    (_, trace, f)

pub loop-reaction-preserved : goal.loop-reaction-preserved
loop-reaction-preserved g c =
    let w = c.loop-reaction.invariant in
    let n = fires_now c.args.ins.now c.args.until c.args.limit c.args.self.now c.loop-reaction.self _ _ _ c.loop-reaction._reaction w in
    let s = c.in_ok-end.ensures.reacted n.st n.from n.date n.source n.at n.fires in
    goes_further c.args.ins.now c.args.until c.args.limit c.args.self.now c.loop-reaction.self _ _ _ c.loop-reaction._reaction w s.0 s.1 c.step.new.self _
    c.step.ensures.net s.3.1 _ _ s.2 _ (not_over _ c.in_default.not-Over) s.3.0 c.step.ensures.offset c.step.ensures.started c.step.ensures.fired

pub returns-in_err-end-clause-offset : goal.returns-in_err-end-clause-offset
returns-in_err-end-clause-offset g c = c.step.ensures.offset ∙ c.loop-reaction.invariant.offset

pub returns-in-Over-clause-offset : goal.returns-in-Over-clause-offset
returns-in-Over-clause-offset g c = c.step.ensures.offset ∙ c.loop-reaction.invariant.offset
