use Rattle.std.proofs.Common.{sym, subst, ◌∙◌, arith, refl}
use Rattle.std.specs.Prelude.{IsSome}
use Rattle.sci_reaction.specs.Memory.{AreColumns}
use Rattle.sci_run.specs.Run.{IsRun}
use Rattle.sci_store.specs.Frame.{Fixed, IsFrame}
use Rattle.sci_store.specs.Store.{AreIdle}
use Rattle.sci_judge.proofs.Sinking.{err_of}
use Rattle.sci_judge.proofs.Runs.{start_on_way, source_within, date_within, orders_few, not_over, trace_cut, trace_written, goes_further}
use Rattle.sci_judge.proofs.judging.Judging.run.Given.{Over}
use Rattle.sci_judge.proofs.judging.Judging.run.Goals.{In-loop-fired}
use Rattle.sci_judge.proofs.judging.Judging.run.Goals as goal

framed : (g : Over) (c : In-loop-fired g) → IsFrame c.loop-fired.self.kept.fixed
framed g c = subst IsFrame (sym c.loop-fired.invariant.same) c.well_formed-2.ensures.frame

pub loop-fired-init : goal.loop-fired-init
loop-fired-init g c = record {
  way = start_on_way c.args.self.now.kept.fixed c.args.inputs.now c.args.until c.args.limit c.args.self.now.kept.store _ c.args.self.now.events.pending (g.S.Sink.state c.args.out.now) c.requires.start.1;
  sound = c.requires.sound;
  idle = c.requires.start.0;
  same = refl;
}

pub step-requires-clause-source : goal.step-requires-clause-source
step-requires-clause-source g c =
    source_within c.loop-fired.self.kept.fixed (framed g (goal.at.step-requires-clause-source g c).In-loop-fired) c.args.inputs.now c.args.until c.args.limit c.loop-fired.self.kept.store _ _ _ _ _ _ _ c.loop-fired.invariant.way

pub step-requires-clause-date : goal.step-requires-clause-date
step-requires-clause-date g c =
    date_within c.loop-fired.self.kept.fixed (framed g (goal.at.step-requires-clause-date g c).In-loop-fired) c.args.inputs.now c.args.until c.args.limit c.loop-fired.self.kept.store _ _ _ _ _ _ _
    c.loop-fired.invariant.way c.requires.until

pub step-requires-clause-columns : goal.step-requires-clause-columns
step-requires-clause-columns g c = subst (λ (x : Fixed). AreColumns x.net c.args.inputs.now) (sym c.loop-fired.invariant.same) c.requires.columns

pub step-requires-clause-few : goal.step-requires-clause-few
step-requires-clause-few g c =
    orders_few c.loop-fired.self.kept.fixed (framed g (goal.at.step-requires-clause-few g c).In-loop-fired) c.args.inputs.now c.args.until c.args.limit c.loop-fired.self.kept.store _ _ _ _ _ _ _
    c.loop-fired.invariant.way c.requires.limit

pub step-requires-clause-shown : goal.step-requires-clause-shown
step-requires-clause-shown g c = let w = c.loop-fired.invariant.way in (w.st, w.shows)

pub returns-in_err-step-clause-written : goal.returns-in_err-step-clause-written
returns-in_err-step-clause-written g c os run =
    let w = c.loop-fired.invariant.way in
    let q = c.step.ensures.reacted w.st w.shows in
    let err = err_of c.from_residual.result c.from_residual.ensures.0 in
    let here = subst (λ (x : Fixed). IsRun x.net c.args.inputs.now c.args.until c.args.limit os) (sym c.loop-fired.invariant.same) run in
    trace_cut c.loop-fired.self.kept.fixed (framed g (goal.at.returns-in_err-step-clause-written g c).In-loop-fired) c.args.inputs.now c.args.until c.args.limit c.loop-fired.self.kept.store _ _ _ _ _ _ _ w q.0 q.1
    c.step.result c.from_residual.result _ err.0 _ os c.in_err-step.was err.1 here q.2

pub returns-in-None-clause-written : goal.returns-in-None-clause-written
returns-in-None-clause-written g c os run =
    let w = c.loop-fired.invariant.way in
    let q = c.in_ok-step.ensures.reacted w.st w.shows in
    let here = subst (λ (x : Fixed). IsRun x.net c.args.inputs.now c.args.until c.args.limit os) (sym c.loop-fired.invariant.same) run in
    trace_written c.loop-fired.self.kept.fixed (framed g (goal.at.returns-in-None-clause-written g c).In-loop-fired) c.args.inputs.now c.args.until c.args.limit c.loop-fired.self.kept.store _ _ _ _ _ _ _ w q.0 q.1
    c.step.new.self.kept.store _ c.step.new.self.events.pending c.in_ok-step.field-0 tt _ os c.in_ok-step.field-0 c.in-None.is q.3 here q.2

pub returns-in_err-step-clause-seated : goal.returns-in_err-step-clause-seated
returns-in_err-step-clause-seated g c = rw (← c.loop-fired.invariant.same) c.step.ensures.seated

pub returns-in-None-clause-seated : goal.returns-in-None-clause-seated
returns-in-None-clause-seated g c = rw (← c.loop-fired.invariant.same) c.step.ensures.seated

pub loop-fired-preserved : goal.loop-fired-preserved
loop-fired-preserved g c =
    let at = goal.at.loop-fired-preserved g c in
    let w = c.loop-fired.invariant.way in
    let q = c.in_ok-step.ensures.reacted w.st w.shows in
    let same = sym c.step.ensures.same.0 in
    let way = goes_further c.loop-fired.self.kept.fixed (framed g at.In-loop-fired) c.args.inputs.now c.args.until c.args.limit c.loop-fired.self.kept.store _ _ _ _ _ _ _ w q.0 q.1
    c.step.new.self.kept.store _ c.step.new.self.events.pending c.in_ok-step.field-0 _ c.in_ok-step.field-0 c.in-Some.event c.in-Some.is q.3 q.2 in
    record {
      way = rw c.step.ensures.same.0 way;
      sound = c.step.ensures.sound;
      idle = subst (λ (x : Fixed). AreIdle x c.step.new.self.kept.store) same (c.in_ok-step.ensures.cleared (subst IsSome (sym c.in-Some.is) refl));
      same = c.step.ensures.same.0 ∙ c.loop-fired.invariant.same;
    }

pub unreachable-requires : goal.unreachable-requires
unreachable-requires g c =
    not_over c.loop-fired.self.kept.fixed (subst IsFrame (sym c.loop-fired.invariant.same) c.well_formed-2.ensures.frame) c.args.inputs.now c.args.until c.args.limit c.loop-fired.self.kept.store _ _ _ _ _ _ _ c.loop-fired.invariant.way
    (omega (arith, c.loop-fired-test.false, c.loop-fired.auto.fired-end))
