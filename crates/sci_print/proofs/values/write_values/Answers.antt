use Rattle.std.proofs.Common.{rules, ◌≡◌, ◌+◌, ◌-◌, drop, get_or, subst, List, ℕ, arith}
use Rattle.sci_io.specs.Taken.{Writes, UnderWay}
use Rattle.sci_io.proofs.Advance.{cut_off, next_front}
use Rattle.sci_vcd.specs.Waveforms.{no_signal, value_at}
use Rattle.sci_print.specs.Values.{signal_text, texts_from, values_text}
use Rattle.sci_print.proofs.ValueLines.{next_text}
use Rattle.sci_print.proofs.values.write_values.Goals as goal

pub returns-in_err-put_signal : goal.returns-in_err-put_signal
returns-in_err-put_signal g c =
    let i = c.loop-at.at in
    let w = c.args.dump.now in
    let t = c.args.tick in
    let place : i + 1 - 1 ≡ i = omega arith in
    let line = subst (λ (k : ℕ). Writes (g.S.Sink.state c.loop-at.out) (g.S.Sink.state c.put_signal.new.out) (signal_text (get_or w.signals k no_signal) (value_at w (i + 1) t)) c.put_signal.result) place c.put_signal.ensures in
    let due = subst (λ (l : List ℕ). UnderWay (g.S.Sink.state c.args.out.now) (g.S.Sink.state c.loop-at.out) (values_text w t) l) (next_text w t i (omega arith)) c.loop-at.invariant in
    cut_off (signal_text (get_or w.signals i no_signal) (value_at w (i + 1) t)) (texts_from w t (i + 1 + 1) (drop (i + 1) w.signals)) c.put_signal.result c.from_residual.result _ _ c.in_err-put_signal.was (search rules) due line

pub loop-at-preserved : goal.loop-at-preserved
loop-at-preserved g c =
    let i = c.loop-at.at in
    let w = c.args.dump.now in
    let t = c.args.tick in
    let place : i + 1 - 1 ≡ i = omega arith in
    let line = subst (λ (k : ℕ). Writes (g.S.Sink.state c.loop-at.out) (g.S.Sink.state c.put_signal.new.out) (signal_text (get_or w.signals k no_signal) (value_at w (i + 1) t)) c.put_signal.result) place c.put_signal.ensures in
    let due = subst (λ (l : List ℕ). UnderWay (g.S.Sink.state c.args.out.now) (g.S.Sink.state c.loop-at.out) (values_text w t) l) (next_text w t i (omega arith)) c.loop-at.invariant in
    next_front (signal_text (get_or w.signals i no_signal) (value_at w (i + 1) t)) (texts_from w t (i + 1 + 1) (drop (i + 1) w.signals)) c.put_signal.result _ c.in_ok-put_signal.was due line
