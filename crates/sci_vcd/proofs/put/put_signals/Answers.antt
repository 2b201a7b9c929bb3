use Rattle.std.proofs.Common.{rules, ◌+◌, drop, subst, List, ℕ}
use Rattle.sci_io.specs.Taken.{UnderWay}
use Rattle.sci_io.proofs.Advance.{cut_off, next_front}
use Rattle.sci_vcd.specs.Waveforms.{no_signal}
use Rattle.sci_text.specs.Lines.{joined}
use Rattle.sci_vcd.specs.Spelling.{signal_lines}
use Rattle.sci_vcd.proofs.Putting.{signals_drop}
use Rattle.sci_vcd.proofs.put.put_signals.Goals as goal

pub returns-in_err-put_signal : goal.returns-in_err-put_signal
returns-in_err-put_signal g c =
    let i = c.loop-at.at in
    let gs = c.args.signals.now in
    let due = subst (λ (l : List ℕ). UnderWay (g.S.Sink.state c.args.out.now) (g.S.Sink.state c.loop-at.out) (joined (signal_lines 1 gs)) l) (signals_drop gs i (i + 1) no_signal c.loop-at-test.true) c.loop-at.invariant in
    cut_off _ (joined (signal_lines (i + 1 + 1) (drop (i + 1) gs))) c.put_signal.result c.from_residual.result _ _ c.in_err-put_signal.was (search rules) due c.put_signal.ensures

pub loop-at-preserved : goal.loop-at-preserved
loop-at-preserved g c =
    let i = c.loop-at.at in
    let gs = c.args.signals.now in
    let due = subst (λ (l : List ℕ). UnderWay (g.S.Sink.state c.args.out.now) (g.S.Sink.state c.loop-at.out) (joined (signal_lines 1 gs)) l) (signals_drop gs i (i + 1) no_signal c.loop-at-test.true) c.loop-at.invariant in
    next_front _ (joined (signal_lines (i + 1 + 1) (drop (i + 1) gs))) c.put_signal.result _ c.in_ok-put_signal.was due c.put_signal.ensures
