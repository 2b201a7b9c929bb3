use Rattle.std.proofs.Common.{◌+◌, ◌∙◌, Bool, true, length, sym, subst, List, ◌≡◌, Ok}
use Rattle.std.proofs.lemmas.Result.{err_from_is_err_and}
use Rattle.std.proofs.lemmas.List.{length-set}
use Rattle.sci_save.specs.Reading.{Fails, event_at, events_at, unmarked}
use Rattle.sci_save.proofs.Loops.{events_over, events_go_on, events_break, events_missing}
use Rattle.sci_save.proofs.events.pending.Goals as goal

pub returns-in_err-next-in-None : goal.returns-in_err-next-in-None
unfolding Rattle.sci_save.specs.Reading.pending_at
returns-in_err-next-in-None c =
    let n = c.args.net.now in
    let near = c.args.now + 2147483647 in
    let p = err_from_is_err_and c.from_residual-in_err-next-in-None.result c.from_residual-in_err-next-in-None.ensures.1 in
    let total = events_at n near (length c.args.bytes.now) c.args.now (unmarked n) c.args.bytes.now in
    let fails = subst (λ (ms : List Bool). Fails c.in_err-next-in-None.field-0.0 (event_at n near c.loop.last ms c.loop.rest.now)) c.deref-in-None.ensures.value c.in_err-next-in-None.ensures.gives in
    rw (p.1, p.2)
    (events_break n near c.in_err-next-in-None.field-0.0 c.loop.events.items (length c.args.bytes.now) c.loop.counter c.loop.last c.loop.marks.items c.loop.rest.now total c.loop-test.true (sym c.in-None.ensures) fails c.loop.invariant.reads)

pub loop-preserved : goal.loop-preserved
loop-preserved c =
    let n = c.args.net.now in
    let near = c.args.now + 2147483647 in
    let d = c.in_ok-next-in-None.next in
    let behind = c.in_ok-next-in-None.behind.now in
    let total = events_at n near (length c.args.bytes.now) c.args.now (unmarked n) c.args.bytes.now in
    let read = subst (λ (ms : List Bool). event_at n near c.loop.last ms c.loop.rest.now ≡ Ok (d, behind)) c.deref-in-None.ensures.value c.in_ok-next-in-None.ensures.gives in
    record {
      reads = rw c.in_ok-push-in-None.ensures.items
          (events_go_on n near c.loop.events.items (length c.args.bytes.now) c.loop.counter c.loop.last c.loop.marks.items c.loop.rest.now d behind total c.loop-test.true (sym c.in-None.ensures) read c.loop.invariant.reads);
      marks = length-set c.loop.marks.items d.1 true ∙ c.loop.invariant.marks;
      last = c.in_ok-next-in-None.ensures.later;
    }

pub returns-in-Some : goal.returns-in-Some
unfolding Rattle.sci_save.specs.Reading.pending_at
returns-in-Some c =
    let n = c.args.net.now in
    let near = c.args.now + 2147483647 in
    let total = events_at n near (length c.args.bytes.now) c.args.now (unmarked n) c.args.bytes.now in
    events_over n near c.loop.events.items (length c.args.bytes.now) c.loop.counter c.loop.last c.loop.marks.items c.loop.rest.now c.in-Some.end.now total c.loop-test.true (sym c.in-Some.ensures) c.loop.invariant.reads

pub returns : goal.returns
unfolding Rattle.sci_save.specs.Reading.pending_at
returns c =
    let n = c.args.net.now in
    let near = c.args.now + 2147483647 in
    let total = events_at n near (length c.args.bytes.now) c.args.now (unmarked n) c.args.bytes.now in
    events_missing n near c.loop.events.items (length c.args.bytes.now) c.loop.counter c.loop.last c.loop.marks.items c.loop.rest.now total c.loop-test.false c.loop.invariant.reads
