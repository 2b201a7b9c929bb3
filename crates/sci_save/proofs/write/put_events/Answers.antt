use Rattle.std.proofs.Common.{rules, ◌+◌, drop, subst, List, ℕ, get_or}
use Rattle.sci_io.specs.Taken.{UnderWay}
use Rattle.sci_io.proofs.Advance.{cut_off, next_front}
use Rattle.sci_save.specs.Text.{event_text, events_text}
use Rattle.sci_save.proofs.Writing.{events-drop}
use Rattle.sci_save.proofs.write.put_events.Goals as goal

pub returns-in_err-put_event : goal.returns-in_err-put_event
returns-in_err-put_event g c =
    let i = c.loop-date.date-index in
    let n = c.args.net.now in
    let ds = c.args.events.now in
    let d : ℕ × ℕ = (0, 0) in
    let due = subst (λ (l : List ℕ). UnderWay (g.S.Sink.state c.args.out.now) (g.S.Sink.state c.loop-date.out) (events_text n ds) l) (events-drop n ds i d c.loop-date-test.true) c.loop-date.invariant in
    cut_off (event_text n (get_or ds i d)) (events_text n (drop (i + 1) ds)) c.put_event.result c.from_residual.result _ _ c.in_err-put_event.was (search rules) due c.put_event.ensures

pub loop-date-preserved : goal.loop-date-preserved
loop-date-preserved g c =
    let i = c.loop-date.date-index in
    let n = c.args.net.now in
    let ds = c.args.events.now in
    let d : ℕ × ℕ = (0, 0) in
    let due = subst (λ (l : List ℕ). UnderWay (g.S.Sink.state c.args.out.now) (g.S.Sink.state c.loop-date.out) (events_text n ds) l) (events-drop n ds i d c.loop-date-test.true) c.loop-date.invariant in
    next_front (event_text n (get_or ds i d)) (events_text n (drop (i + 1) ds)) c.put_event.result _ c.in_ok-put_event.was due c.put_event.ensures
