use Rattle.std.proofs.Common.{rules, ◌+◌, drop, subst, List, ℕ}
use Rattle.sci_io.specs.Taken.{UnderWay}
use Rattle.sci_io.proofs.Advance.{cut_off, next_front}
use Rattle.sci_print.specs.Line.{steps_text}
use Rattle.sci_print.proofs.Steps.{steps-drop}
use Rattle.sci_print.proofs.report.line.put_steps.Goals as goal

pub returns-in_err-put_step : goal.returns-in_err-put_step
returns-in_err-put_step g c =
    let i = c.loop-p.p-index in
    let ps = c.args.ps.now in
    let due = subst (λ (l : List ℕ). UnderWay (g.S.Sink.state c.args.err.now) (g.S.Sink.state c.loop-p.err) (steps_text ps) l) (steps-drop ps i 0 c.loop-p-test.true) c.loop-p.invariant in
    cut_off _ (steps_text (drop (i + 1) ps)) c.put_step.result c.from_residual.result _ _ c.in_err-put_step.was (search rules) due c.put_step.ensures

pub loop-p-preserved : goal.loop-p-preserved
loop-p-preserved g c =
    let i = c.loop-p.p-index in
    let ps = c.args.ps.now in
    let due = subst (λ (l : List ℕ). UnderWay (g.S.Sink.state c.args.err.now) (g.S.Sink.state c.loop-p.err) (steps_text ps) l) (steps-drop ps i 0 c.loop-p-test.true) c.loop-p.invariant in
    next_front _ (steps_text (drop (i + 1) ps)) c.put_step.result _ c.in_ok-put_step.was due c.put_step.ensures
