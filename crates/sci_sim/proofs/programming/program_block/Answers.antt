use Rattle.std.proofs.Common.{◌≡◌, ℕ, ◌+◌, ◌∙◌, ap, sym, ℤ, refl, w64, of_z, to_z, subst, arith, rules}
use Rattle.std.proofs.lemmas.Int.{to_z-of_z}
use Rattle.sci_forms.specs.Form.{has_delay}
use Rattle.sci_net.specs.Parts.{IsBlock, spec_of}
use Rattle.sci_net.specs.Sources.{ports_to}
use Rattle.sci_pending.specs.Pending.{Pending}
use Rattle.sci_reaction.specs.Equations.{AreInRange}
use Rattle.sci_places.specs.Flat.{values_at}
use Rattle.sci_run.specs.Programs.{with_delay, with_delays}
use Rattle.sci_store.specs.declared.seats.Seat.{Seat}
use Rattle.sci_store.specs.Marks.{mark_at}
use Rattle.sci_store.specs.Frame.{Fixed, AreSeated, seat_of}
use Rattle.sci_store.specs.Store.{Standing}
use Rattle.sci_store.specs.Delays.{delays_in}
use Rattle.sci_store.proofs.Reacting.{kept_room, range_alike}
use Rattle.sci_sim.specs.Programming.{Keeps}
use Rattle.sci_sim.proofs.Delays.{ports_more}
use Rattle.sci_sim.proofs.RowDelays.{source_few, source_known, own_ports, same_room}
use Rattle.sci_sim.proofs.programming.program_block.Goals as goal

pub delay-delay-requires-clause-seated : goal.delay-delay-requires-clause-seated
delay-delay-requires-clause-seated g c = subst (λ (x : Fixed). AreSeated x c.args.lib.now) (sym c.loop-port.invariant.fixed) c.requires.seated

pub delay-delay-requires-clause-block : goal.delay-delay-requires-clause-block
delay-delay-requires-clause-block g c = subst (λ (x : Fixed). IsBlock x.net c.args.block) (sym c.loop-port.invariant.fixed) c.requires.block

pub delay-delay-requires-clause-delayed : goal.delay-delay-requires-clause-delayed
delay-delay-requires-clause-delayed g c = ap (λ (x : Fixed). has_delay (spec_of x.net c.args.block).kind) c.loop-port.invariant.fixed ∙ c.requires.delayed

pub delay-delay-requires-clause-values : goal.delay-delay-requires-clause-values
delay-delay-requires-clause-values g c =
    let s = c.args.kept.now.store in
    let t = c.loop-port.kept.store in
    subst (λ (x : Fixed). AreInRange x.net (values_at x.net t.values)) (sym c.loop-port.invariant.fixed)
    (range_alike c.args.kept.now.fixed s t (kept_room s t c.loop-port.invariant.same c.loop-port.invariant.room) c.requires.values)

pub delay-delay-requires-clause-active : goal.delay-delay-requires-clause-active
delay-delay-requires-clause-active g c = ap (λ (s : Standing). (mark_at s.marks c.args.block).active) c.loop-port.invariant.same ∙ c.requires.active

pub overflow_add-seat : goal.overflow_add-seat
overflow_add-seat g c =
    let first = ap (λ (s : Seat). s.first_source) c.seat-seat.ensures in
    let few = source_few c.args.kept.now.fixed c.well_formed-2.ensures.frame c.args.block c.requires.block c.requires.delayed c.loop-port.port
    (omega (arith, c.loop-port-test.true, c.loop-port.invariant.end)) in
    omega (arith, few, first)

pub program-requires-clause-port : goal.program-requires-clause-port
program-requires-clause-port g c =
    let k = c.requires.keeps in
    let kept = c.loop-port.invariant.kept k.0 k.1 k.2 in
    let first = ap (λ (s : Seat). s.first_source) c.seat-seat.ensures in
    let known = source_known c.args.kept.now.fixed
    c.well_formed-2.ensures.frame c.args.block c.requires.block c.requires.delayed _ c.loop-port.port kept.ports
    (omega (arith, c.loop-port-test.true, c.loop-port.invariant.end)) in
    record { least = omega (arith, known.0, first); most = omega (arith, known.1, first) }

pub program-requires-clause-keeps : goal.program-requires-clause-keeps
program-requires-clause-keeps g c = let k = c.requires.keeps in (c.args.kept.now.fixed.net, k.0, _, c.loop-port.invariant.kept k.0 k.1 k.2)

pub loop-port-preserved : goal.loop-port-preserved
loop-port-preserved g c = record {
  end = c.loop-port.invariant.end;
  kept = λ offset p keeps.
      let f = c.args.kept.now.fixed in
      let s = c.args.kept.now.store in
      let b = c.args.block in
      let i = c.loop-port.port in
      let at = c.args.date + offset in
      let first = (seat_of f b).first_source in
      let before : Pending = with_delays at (delays_in f s) first (ports_to b i) p in
      let d : ℤ = to_z w64 (of_z w64 c.delay-delay.result) in
      let same : c.delay-delay.result ≡ delays_in f s (record { block = b; port = i + 1 }) =
      c.delay-delay.ensures.value ∙ ap (λ (x : Fixed). delays_in x c.loop-port.kept.store (record { block = b; port = i + 1 })) c.loop-port.invariant.fixed
      ∙ ap (λ (t : Standing). delays_in f t (record { block = b; port = i + 1 })) c.loop-port.invariant.same in
      let more = ap (λ (w : Seat). with_delay at (w.first_source + i) d before) c.seat-seat.ensures
      ∙ (ap (λ (v : ℤ). with_delay at (first + i) v before) (to_z-of_z w64 c.delay-delay.result (search rules) ∙ same)
      ∙ ports_more at (delays_in f s) first b i p) in
      subst (λ (r : Pending). Keeps f.net offset at (g.A.Agenda.meaning c.program.new.agenda) (g.A.Agenda.puts c.program.new.agenda) r) more
      (c.program.ensures f.net offset before (c.loop-port.invariant.kept offset p keeps));
  same = same_room c.args.kept.now.store c.loop-port.kept.store c.delay-delay.new.self.store c.delay-delay.new.self.store refl c.delay-delay.ensures.same c.loop-port.invariant.same;
  room = c.delay-delay.ensures.room ∙ c.loop-port.invariant.room;
  fixed = c.delay-delay.ensures.fixed ∙ c.loop-port.invariant.fixed;
}

pub returns-clause-programmed : goal.returns-clause-programmed
returns-clause-programmed g c = λ offset p keeps.
    let f = c.args.kept.now.fixed in
    let s = c.args.kept.now.store in
    let b = c.args.block in
    let at = c.args.date + offset in
    let first = (seat_of f b).first_source in
    let all : c.loop-port.port ≡ (spec_of f.net b).evtout = omega (arith, c.loop-port-test.false, c.loop-port.auto.port-end, c.loop-port.invariant.end) in
    subst (λ (r : Pending). Keeps f.net offset at (g.A.Agenda.meaning c.loop-port.agenda) (g.A.Agenda.puts c.loop-port.agenda) r)
    (ap (λ (i : ℕ). with_delays at (delays_in f s) first (ports_to b i) p) all
    ∙ own_ports f c.well_formed-2.ensures.frame b c.requires.block c.requires.delayed at (delays_in f s) first p)
    (c.loop-port.invariant.kept offset p keeps)
