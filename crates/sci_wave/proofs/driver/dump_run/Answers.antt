use Rattle.std.proofs.Common.{◌∙◌, [], sym, ap, subst, refl, arith}
use Rattle.std.specs.Prelude.{None}
use Rattle.std.proofs.lemmas.Result.{err_from_is_err_and}
use Rattle.sci_io.proofs.Advance.{nothing_due}
use Rattle.sci_net.specs.Net.{IsNet}
use Rattle.sci_reaction.specs.Memory.{AreColumns}
use Rattle.sci_run.specs.Run.{first_state}
use Rattle.sci_sim.specs.declared.end.RunEnd.TheVariants.{Stop as Stopped}
use Rattle.sci_store.specs.Frame.{Fixed}
use Rattle.sci_sim.proofs.Runs.{start_on_way, fires_now, goes_further, trace_is, no_more, not_over, finished_by}
use Rattle.sci_vcd.specs.Writing.{Writing}
use Rattle.sci_wave.specs.Noted.{IsOf}
use Rattle.sci_wave.proofs.Followed.{followed_outset}
use Rattle.sci_wave.proofs.Driven.{never_fails, begins, next, may_close, date_early, led_by, whole_by, dumped, dump_cut, follow_cut, driven_on, may_close_last, last_early, dumped_last, last_cut}
use Rattle.sci_wave.proofs.driver.dump_run.Goals as goal

pub loop-reaction-init : goal.loop-reaction-init
loop-reaction-init g c =
    let n = c.args.ready.now.fixed.net in
    let rest = c.note_all.ensures.rest in
    let of : IsOf n c.note_all.new.dump = subst (λ (o : Writing). IsOf n o) (sym rest) (record { signals = c.requires.outset.signals; starts = c.requires.outset.starts }) in
    record {
      way = start_on_way c.args.ins.now c.args.until c.args.limit c.args.ready.now _ _ c.requires.start;
      states = [];
      st = first_state n;
      told = None;
      stands = begins c.requires.start;
      followed = followed_outset n c.note_all.new.dump of (ap (λ (o : Writing). o.closed) rest ∙ c.requires.outset.closed)
          (λ b block. c.note_all.ensures.noted b block ∙ c.requires.start.at.shown.memory.held b block);
      now = refl;
      writing = c.well_formed-2.ensures;
      written = nothing_due _ tt;
    }

pub step-requires-clause-columns : goal.step-requires-clause-columns
step-requires-clause-columns g c = subst (λ (x : Fixed). AreColumns x.net c.args.ins.now) (sym c.loop-reaction.invariant.way.fixed) c.requires.columns

pub step-requires-clause-before : goal.step-requires-clause-before
step-requires-clause-before g c =
    let d = c.loop-reaction.invariant in
    let n = next c.args.ready.now.fixed.net c.args.ins.now c.args.until c.args.limit c.requires.net c.requires.free c.requires.columns c.requires.until c.args.ready.now c.loop-reaction.ready _ _ _ c.loop-reaction.dump c.loop-reaction.date _ _ c.loop-reaction._reaction refl d in
    (d.st, n.from, n.date, n.source, n.at, n.fires)

pub returns-in_err-step-clause-written : goal.returns-in_err-step-clause-written
returns-in_err-step-clause-written g c =
    let d = c.loop-reaction.invariant in
    let n = next c.args.ready.now.fixed.net c.args.ins.now c.args.until c.args.limit c.requires.net c.requires.free c.requires.columns c.requires.until c.args.ready.now c.loop-reaction.ready _ _ _ c.loop-reaction.dump c.loop-reaction.date _ _ c.loop-reaction._reaction refl c.loop-reaction.invariant in
    let s = c.step.ensures.reacted d.st n.from n.date n.source n.at n.fires in
    absurd (never_fails c.step.result _ _ c.in_err-step.was s.2)

pub returns-in_err-step-clause-net : goal.returns-in_err-step-clause-net
returns-in_err-step-clause-net g c =
    c.step.ensures.net ∙ c.loop-reaction.invariant.way.fixed

pub close_tick-requires-clause-rises : goal.close_tick-requires-clause-rises
close_tick-requires-clause-rises g c =
    may_close c.args.ready.now.fixed.net c.args.ins.now c.args.until c.args.limit c.requires.net c.requires.free c.requires.columns c.requires.until c.args.ready.now c.loop-reaction.ready _ _ _ c.loop-reaction.dump c.loop-reaction.date _ _ c.loop-reaction._reaction refl c.loop-reaction.invariant

pub close_tick-requires-clause-early : goal.close_tick-requires-clause-early
close_tick-requires-clause-early g c =
    date_early c.args.ready.now.fixed.net c.args.ins.now c.args.until c.args.limit c.requires.net c.requires.free c.requires.columns c.requires.until c.args.ready.now c.loop-reaction.ready _ _ _ c.loop-reaction.dump c.loop-reaction.date _ _ c.loop-reaction._reaction refl c.loop-reaction.invariant

pub returns-in_err-close_tick-clause-written : goal.returns-in_err-close_tick-clause-written
returns-in_err-close_tick-clause-written g c =
    let d = c.loop-reaction.invariant in
    let n = next c.args.ready.now.fixed.net c.args.ins.now c.args.until c.args.limit c.requires.net c.requires.free c.requires.columns c.requires.until c.args.ready.now c.loop-reaction.ready _ _ _ c.loop-reaction.dump c.loop-reaction.date _ _ c.loop-reaction._reaction refl c.loop-reaction.invariant in
    let s = c.in_ok-step.ensures.reacted d.st n.from n.date n.source n.at n.fires in
    let whole = whole_by c.args.ready.now.fixed.net c.args.ins.now c.args.until c.args.limit c.requires.net c.requires.free c.requires.columns c.requires.until c.args.ready.now c.loop-reaction.ready _ _ _ c.loop-reaction.dump c.loop-reaction.date _ _ c.loop-reaction._reaction refl c.loop-reaction.invariant c.step.new.self _ c.step.ensures.net s.0 s.1 c.in_ok-step.step s.3.0 c.in-Some.word c.in-Some.ensures.some in
    let err = err_from_is_err_and c.from_residual-in_err-close_tick.result c.from_residual-in_err-close_tick.ensures.1 in
    dump_cut c.args.ready.now.fixed.net c.args.ins.now c.args.until c.args.limit c.requires.net c.requires.free c.requires.columns c.requires.until c.args.ready.now c.loop-reaction.ready _ _ _ c.loop-reaction.dump c.loop-reaction.date _ _ c.loop-reaction._reaction refl c.loop-reaction.invariant whole c.close_tick.result c.from_residual-in_err-close_tick.result _ err.0 c.in_err-close_tick.was err.1 c.close_tick.ensures.written

pub returns-in_err-close_tick-clause-net : goal.returns-in_err-close_tick-clause-net
returns-in_err-close_tick-clause-net g c =
    c.step.ensures.net ∙ c.loop-reaction.invariant.way.fixed

pub returns-in-Some-clause-written : goal.returns-in-Some-clause-written
returns-in-Some-clause-written g c =
    let d = c.loop-reaction.invariant in
    let n = next c.args.ready.now.fixed.net c.args.ins.now c.args.until c.args.limit c.requires.net c.requires.free c.requires.columns c.requires.until c.args.ready.now c.loop-reaction.ready _ _ _ c.loop-reaction.dump c.loop-reaction.date _ _ c.loop-reaction._reaction refl c.loop-reaction.invariant in
    let s = c.in_ok-step.ensures.reacted d.st n.from n.date n.source n.at n.fires in
    let whole = whole_by c.args.ready.now.fixed.net c.args.ins.now c.args.until c.args.limit c.requires.net c.requires.free c.requires.columns c.requires.until c.args.ready.now c.loop-reaction.ready _ _ _ c.loop-reaction.dump c.loop-reaction.date _ _ c.loop-reaction._reaction refl c.loop-reaction.invariant c.step.new.self _ c.step.ensures.net s.0 s.1 c.in_ok-step.step s.3.0 c.in-Some.word c.in-Some.ensures.some in
    dumped c.args.ready.now.fixed.net c.args.ins.now c.args.until c.args.limit c.requires.net c.requires.free c.requires.columns c.requires.until c.args.ready.now c.loop-reaction.ready _ _ _ c.loop-reaction.dump c.loop-reaction.date _ _ c.loop-reaction._reaction refl c.loop-reaction.invariant whole c.close_tick.result _ _ c.in_ok-close_tick.was c.close_tick.ensures.written

pub returns-in-Some-clause-finished : goal.returns-in-Some-clause-finished
returns-in-Some-clause-finished g c =
    let n = fires_now c.args.ins.now c.args.until c.args.limit c.args.ready.now c.loop-reaction.ready _ _ _ c.loop-reaction._reaction c.loop-reaction.invariant.way in
    let s = c.in_ok-step.ensures.reacted n.st n.from n.date n.source n.at n.fires in
    let f = finished_by c.args.ins.now c.args.until c.args.limit c.args.ready.now c.loop-reaction.ready _ _ _ c.loop-reaction._reaction c.loop-reaction.invariant.way s.0 s.1 c.step.new.self _ c.step.ensures.net s.3.1 _ (Stopped c.in-Some.word) c.in-Some.ensures.some s.3.0 in
    let trace = trace_is c.args.ins.now c.args.until c.args.limit c.args.ready.now c.loop-reaction.ready _ _ _ c.loop-reaction._reaction c.loop-reaction.invariant.way s.0 s.1 c.step.new.self _ c.step.ensures.net s.3.1 (Stopped c.in-Some.word) f in
    (_, trace, f)

pub returns-in-Some-clause-net : goal.returns-in-Some-clause-net
returns-in-Some-clause-net g c =
    c.step.ensures.net ∙ c.loop-reaction.invariant.way.fixed

pub follow-requires-clause-may : goal.follow-requires-clause-may
follow-requires-clause-may g c =
    may_close c.args.ready.now.fixed.net c.args.ins.now c.args.until c.args.limit c.requires.net c.requires.free c.requires.columns c.requires.until c.args.ready.now c.loop-reaction.ready _ _ _ c.loop-reaction.dump c.loop-reaction.date _ _ c.loop-reaction._reaction refl c.loop-reaction.invariant

pub follow-requires-clause-early : goal.follow-requires-clause-early
follow-requires-clause-early g c =
    date_early c.args.ready.now.fixed.net c.args.ins.now c.args.until c.args.limit c.requires.net c.requires.free c.requires.columns c.requires.until c.args.ready.now c.loop-reaction.ready _ _ _ c.loop-reaction.dump c.loop-reaction.date _ _ c.loop-reaction._reaction refl c.loop-reaction.invariant

pub follow-requires-clause-net : goal.follow-requires-clause-net
follow-requires-clause-net g c =
    subst (λ (x : Fixed). IsNet x.net) (sym (c.step.ensures.net ∙ c.loop-reaction.invariant.way.fixed)) c.requires.net

pub follow-requires-clause-of : goal.follow-requires-clause-of
follow-requires-clause-of g c =
    subst (λ (x : Fixed). IsOf x.net c.loop-reaction.dump) (sym (c.step.ensures.net ∙ c.loop-reaction.invariant.way.fixed)) c.loop-reaction.invariant.followed.of

pub follow-requires-clause-stands : goal.follow-requires-clause-stands
follow-requires-clause-stands g c =
    let d = c.loop-reaction.invariant in
    let n = next c.args.ready.now.fixed.net c.args.ins.now c.args.until c.args.limit c.requires.net c.requires.free c.requires.columns c.requires.until c.args.ready.now c.loop-reaction.ready _ _ _ c.loop-reaction.dump c.loop-reaction.date _ _ c.loop-reaction._reaction refl c.loop-reaction.invariant in
    let s = c.in_ok-step.ensures.reacted d.st n.from n.date n.source n.at n.fires in
    let l = led_by c.args.ready.now.fixed.net c.args.ins.now c.args.until c.args.limit c.requires.net c.requires.free c.requires.columns c.requires.until c.args.ready.now c.loop-reaction.ready _ _ _ c.loop-reaction.dump c.loop-reaction.date _ _ c.loop-reaction._reaction refl c.loop-reaction.invariant c.step.new.self _ c.step.ensures.net s.0 s.1 c.in_ok-step.step s.3.0 c.in_default.ensures.none in
    (_, l.after, l.at)

pub returns-in_err-follow-clause-written : goal.returns-in_err-follow-clause-written
returns-in_err-follow-clause-written g c =
    let d = c.loop-reaction.invariant in
    let n = next c.args.ready.now.fixed.net c.args.ins.now c.args.until c.args.limit c.requires.net c.requires.free c.requires.columns c.requires.until c.args.ready.now c.loop-reaction.ready _ _ _ c.loop-reaction.dump c.loop-reaction.date _ _ c.loop-reaction._reaction refl c.loop-reaction.invariant in
    let s = c.in_ok-step.ensures.reacted d.st n.from n.date n.source n.at n.fires in
    let l = led_by c.args.ready.now.fixed.net c.args.ins.now c.args.until c.args.limit c.requires.net c.requires.free c.requires.columns c.requires.until c.args.ready.now c.loop-reaction.ready _ _ _ c.loop-reaction.dump c.loop-reaction.date _ _ c.loop-reaction._reaction refl c.loop-reaction.invariant c.step.new.self _ c.step.ensures.net s.0 s.1 c.in_ok-step.step s.3.0 c.in_default.ensures.none in
    let err = err_from_is_err_and c.from_residual-in_err-follow.result c.from_residual-in_err-follow.ensures.1 in
    follow_cut c.args.ready.now.fixed.net c.args.ins.now c.args.until c.args.limit c.requires.net c.requires.free c.requires.columns c.requires.until c.args.ready.now c.loop-reaction.ready _ _ _ c.loop-reaction.dump c.loop-reaction.date _ _ c.loop-reaction._reaction refl c.loop-reaction.invariant c.step.new.self _ c.in_ok-step.step l c.follow.result c.from_residual-in_err-follow.result _ err.0 c.in_err-follow.was err.1 c.follow.ensures.written

pub returns-in_err-follow-clause-net : goal.returns-in_err-follow-clause-net
returns-in_err-follow-clause-net g c =
    c.step.ensures.net ∙ c.loop-reaction.invariant.way.fixed

pub close_tick-requires-in-Over-clause-rises : goal.close_tick-requires-in-Over-clause-rises
close_tick-requires-in-Over-clause-rises g c =
    let d = c.loop-reaction.invariant in
    let n = next c.args.ready.now.fixed.net c.args.ins.now c.args.until c.args.limit c.requires.net c.requires.free c.requires.columns c.requires.until c.args.ready.now c.loop-reaction.ready _ _ _ c.loop-reaction.dump c.loop-reaction.date _ _ c.loop-reaction._reaction refl c.loop-reaction.invariant in
    let s = c.in_ok-step.ensures.reacted d.st n.from n.date n.source n.at n.fires in
    let l = led_by c.args.ready.now.fixed.net c.args.ins.now c.args.until c.args.limit c.requires.net c.requires.free c.requires.columns c.requires.until c.args.ready.now c.loop-reaction.ready _ _ _ c.loop-reaction.dump c.loop-reaction.date _ _ c.loop-reaction._reaction refl c.loop-reaction.invariant c.step.new.self _ c.step.ensures.net s.0 s.1 c.in_ok-step.step s.3.0 c.in_default.ensures.none in
    may_close_last c.args.ready.now.fixed.net c.args.ins.now c.args.until c.args.limit c.requires.net c.requires.free c.requires.columns c.requires.until c.args.ready.now c.loop-reaction.ready _ _ _ c.loop-reaction.dump c.loop-reaction.date _ _ c.loop-reaction._reaction refl c.loop-reaction.invariant c.step.new.self _ c.in_ok-step.step l c.step.ensures.net c.follow.new.dump c.in_ok-follow.ensures.moved (c.in_ok-follow.ensures.noted _ l.after l.at) c.in-Over.end c.in-Over.is c.in_ok-follow.ensures.writing c.now-date.result c.now-date.ensures

pub close_tick-requires-in-Over-clause-early : goal.close_tick-requires-in-Over-clause-early
close_tick-requires-in-Over-clause-early g c =
    let d = c.loop-reaction.invariant in
    let n = next c.args.ready.now.fixed.net c.args.ins.now c.args.until c.args.limit c.requires.net c.requires.free c.requires.columns c.requires.until c.args.ready.now c.loop-reaction.ready _ _ _ c.loop-reaction.dump c.loop-reaction.date _ _ c.loop-reaction._reaction refl c.loop-reaction.invariant in
    let s = c.in_ok-step.ensures.reacted d.st n.from n.date n.source n.at n.fires in
    let l = led_by c.args.ready.now.fixed.net c.args.ins.now c.args.until c.args.limit c.requires.net c.requires.free c.requires.columns c.requires.until c.args.ready.now c.loop-reaction.ready _ _ _ c.loop-reaction.dump c.loop-reaction.date _ _ c.loop-reaction._reaction refl c.loop-reaction.invariant c.step.new.self _ c.step.ensures.net s.0 s.1 c.in_ok-step.step s.3.0 c.in_default.ensures.none in
    last_early c.args.ready.now.fixed.net c.args.ins.now c.args.until c.args.limit c.requires.net c.requires.free c.requires.columns c.requires.until c.args.ready.now c.loop-reaction.ready _ _ _ c.loop-reaction.dump c.loop-reaction.date _ _ c.loop-reaction._reaction refl c.loop-reaction.invariant c.step.new.self _ c.in_ok-step.step l c.step.ensures.net c.follow.new.dump c.in_ok-follow.ensures.moved (c.in_ok-follow.ensures.noted _ l.after l.at) c.in-Over.end c.in-Over.is c.in_ok-follow.ensures.writing c.now-date.result c.now-date.ensures

pub returns-in_err-close_tick-2-clause-written : goal.returns-in_err-close_tick-2-clause-written
returns-in_err-close_tick-2-clause-written g c =
    let d = c.loop-reaction.invariant in
    let n = next c.args.ready.now.fixed.net c.args.ins.now c.args.until c.args.limit c.requires.net c.requires.free c.requires.columns c.requires.until c.args.ready.now c.loop-reaction.ready _ _ _ c.loop-reaction.dump c.loop-reaction.date _ _ c.loop-reaction._reaction refl c.loop-reaction.invariant in
    let s = c.in_ok-step.ensures.reacted d.st n.from n.date n.source n.at n.fires in
    let l = led_by c.args.ready.now.fixed.net c.args.ins.now c.args.until c.args.limit c.requires.net c.requires.free c.requires.columns c.requires.until c.args.ready.now c.loop-reaction.ready _ _ _ c.loop-reaction.dump c.loop-reaction.date _ _ c.loop-reaction._reaction refl c.loop-reaction.invariant c.step.new.self _ c.step.ensures.net s.0 s.1 c.in_ok-step.step s.3.0 c.in_default.ensures.none in
    let err = err_from_is_err_and c.from_residual-in_err-close_tick-2.result c.from_residual-in_err-close_tick-2.ensures.1 in
    last_cut c.args.ready.now.fixed.net c.args.ins.now c.args.until c.args.limit c.requires.net c.requires.free c.requires.columns c.requires.until c.args.ready.now c.loop-reaction.ready _ _ _ c.loop-reaction.dump c.loop-reaction.date _ _ c.loop-reaction._reaction refl c.loop-reaction.invariant c.step.new.self _ c.in_ok-step.step l c.step.ensures.net c.follow.new.dump c.in_ok-follow.ensures.moved (c.in_ok-follow.ensures.noted _ l.after l.at) c.in-Over.end c.in-Over.is c.in_ok-follow.ensures.writing c.now-date.result c.now-date.ensures c.follow.result _ c.in_ok-follow.was c.follow.ensures.written c.close_tick-in-Over.result c.from_residual-in_err-close_tick-2.result _ err.0 c.in_err-close_tick-2.was err.1 c.close_tick-in-Over.ensures.written

pub returns-in_err-close_tick-2-clause-net : goal.returns-in_err-close_tick-2-clause-net
returns-in_err-close_tick-2-clause-net g c =
    c.step.ensures.net ∙ c.loop-reaction.invariant.way.fixed

pub returns-in-Over-clause-written : goal.returns-in-Over-clause-written
returns-in-Over-clause-written g c =
    let d = c.loop-reaction.invariant in
    let n = next c.args.ready.now.fixed.net c.args.ins.now c.args.until c.args.limit c.requires.net c.requires.free c.requires.columns c.requires.until c.args.ready.now c.loop-reaction.ready _ _ _ c.loop-reaction.dump c.loop-reaction.date _ _ c.loop-reaction._reaction refl c.loop-reaction.invariant in
    let s = c.in_ok-step.ensures.reacted d.st n.from n.date n.source n.at n.fires in
    let l = led_by c.args.ready.now.fixed.net c.args.ins.now c.args.until c.args.limit c.requires.net c.requires.free c.requires.columns c.requires.until c.args.ready.now c.loop-reaction.ready _ _ _ c.loop-reaction.dump c.loop-reaction.date _ _ c.loop-reaction._reaction refl c.loop-reaction.invariant c.step.new.self _ c.step.ensures.net s.0 s.1 c.in_ok-step.step s.3.0 c.in_default.ensures.none in
    dumped_last c.args.ready.now.fixed.net c.args.ins.now c.args.until c.args.limit c.requires.net c.requires.free c.requires.columns c.requires.until c.args.ready.now c.loop-reaction.ready _ _ _ c.loop-reaction.dump c.loop-reaction.date _ _ c.loop-reaction._reaction refl c.loop-reaction.invariant c.step.new.self _ c.in_ok-step.step l c.step.ensures.net c.follow.new.dump c.in_ok-follow.ensures.moved (c.in_ok-follow.ensures.noted _ l.after l.at) c.in-Over.end c.in-Over.is c.in_ok-follow.ensures.writing c.now-date.result c.now-date.ensures c.follow.result _ c.in_ok-follow.was c.follow.ensures.written c.close_tick-in-Over.result _ _ c.in_ok-close_tick-2.was c.close_tick-in-Over.ensures.written

pub returns-in-Over-clause-finished : goal.returns-in-Over-clause-finished
returns-in-Over-clause-finished g c =
    let n = fires_now c.args.ins.now c.args.until c.args.limit c.args.ready.now c.loop-reaction.ready _ _ _ c.loop-reaction._reaction c.loop-reaction.invariant.way in
    let s = c.in_ok-step.ensures.reacted n.st n.from n.date n.source n.at n.fires in
    let f = finished_by c.args.ins.now c.args.until c.args.limit c.args.ready.now c.loop-reaction.ready _ _ _ c.loop-reaction._reaction c.loop-reaction.invariant.way s.0 s.1 c.step.new.self _ c.step.ensures.net s.3.1 _ c.in-Over.end c.in-Over.is s.3.0 in
    let trace = trace_is c.args.ins.now c.args.until c.args.limit c.args.ready.now c.loop-reaction.ready _ _ _ c.loop-reaction._reaction c.loop-reaction.invariant.way s.0 s.1 c.step.new.self _ c.step.ensures.net s.3.1 c.in-Over.end f in
    (_, trace, f)

pub returns-in-Over-clause-net : goal.returns-in-Over-clause-net
returns-in-Over-clause-net g c =
    c.step.ensures.net ∙ c.loop-reaction.invariant.way.fixed

pub loop-reaction-preserved : goal.loop-reaction-preserved
loop-reaction-preserved g c =
    let d = c.loop-reaction.invariant in
    let n = next c.args.ready.now.fixed.net c.args.ins.now c.args.until c.args.limit c.requires.net c.requires.free c.requires.columns c.requires.until c.args.ready.now c.loop-reaction.ready _ _ _ c.loop-reaction.dump c.loop-reaction.date _ _ c.loop-reaction._reaction refl c.loop-reaction.invariant in
    let s = c.in_ok-step.ensures.reacted d.st n.from n.date n.source n.at n.fires in
    let l = led_by c.args.ready.now.fixed.net c.args.ins.now c.args.until c.args.limit c.requires.net c.requires.free c.requires.columns c.requires.until c.args.ready.now c.loop-reaction.ready _ _ _ c.loop-reaction.dump c.loop-reaction.date _ _ c.loop-reaction._reaction refl c.loop-reaction.invariant c.step.new.self _ c.step.ensures.net s.0 s.1 c.in_ok-step.step s.3.0 c.in_default.ensures.none in
    let m = fires_now c.args.ins.now c.args.until c.args.limit c.args.ready.now c.loop-reaction.ready _ _ _ c.loop-reaction._reaction c.loop-reaction.invariant.way in
    let u = c.in_ok-step.ensures.reacted m.st m.from m.date m.source m.at m.fires in
    let more = not_over _ c.in_default-step.not-Over in
    let way = goes_further c.args.ins.now c.args.until c.args.limit c.args.ready.now c.loop-reaction.ready _ _ _ c.loop-reaction._reaction c.loop-reaction.invariant.way u.0 u.1 c.step.new.self _ c.step.ensures.net u.3.1 _ _ u.2 _ more u.3.0 c.step.ensures.offset c.step.ensures.started c.step.ensures.fired in
    driven_on c.args.ready.now.fixed.net c.args.ins.now c.args.until c.args.limit c.requires.net c.requires.free c.requires.columns c.requires.until c.args.ready.now c.loop-reaction.ready _ _ _ c.loop-reaction.dump c.loop-reaction.date _ _ c.loop-reaction._reaction refl c.loop-reaction.invariant c.step.new.self _ c.in_ok-step.step l c.step.ensures.net c.follow.new.dump c.in_ok-follow.ensures.moved (c.in_ok-follow.ensures.noted _ l.after l.at) c.now-date.result c.now-date.ensures way c.step.ensures.started more c.in_ok-follow.ensures.writing c.follow.result _ c.in_ok-follow.was c.follow.ensures.written

pub unreachable-requires : goal.unreachable-requires
unreachable-requires g c =
    no_more c.args.ins.now c.args.until c.args.limit c.args.ready.now c.loop-reaction.ready _ _ _ c.loop-reaction._reaction c.loop-reaction.invariant.way (omega (arith, c.loop-reaction-test.false, c.loop-reaction.auto._reaction-end))
