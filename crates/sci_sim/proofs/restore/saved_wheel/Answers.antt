use Rattle.std.proofs.Common.{[], arith, ◌-◌, ℕ, w64, get_or, ap, ◌∙◌}
use Rattle.std.proofs.lemmas.Int.{to_z_pos}
use Rattle.sci_agenda.specs.Firing.{Meaning}
use Rattle.sci_sim.proofs.Saved.{programmed_none, near_now, programmed_more, programmed_all}
use Rattle.sci_sim.proofs.restore.saved_wheel.Goals as goal

pub loop-date-init : goal.loop-date-init
loop-date-init c =
    programmed_none c.args.net.now c.args.now c.args.pending.now c.in_ok-wheel.wheel.meaning c.in_ok-wheel.wheel.puts
    (c.in_ok-wheel.ensures.meaning ∙ ap (λ (k : ℕ). let m : Meaning = record { events = []; now = 0; ports = k - 1 } in m) c.source_count.ensures)
    c.in_ok-wheel.ensures.puts c.requires

pub loop-date-preserved : goal.loop-date-preserved
loop-date-preserved c =
    let h = c.loop-date.invariant in
    let k = c.loop-date.date-index in
    let near = near_now c.args.net.now c.args.now c.args.pending.now k (0, 0) c.loop-date-test.true c.loop-date.wheel.meaning c.loop-date.wheel.puts h in
    programmed_more c.args.net.now c.args.now c.args.pending.now k (0, 0) c.loop-date-test.true c.loop-date.wheel.meaning c.loop-date.wheel.puts h
    _ c.program.new.agenda.meaning c.program.new.agenda.puts (to_z_pos w64 ((get_or c.args.pending.now k (0, 0)).0 - c.args.now) (omega (arith, near))) (c.program.ensures c.args.net.now c.args.now h.p h.keeps)

pub returns : goal.returns
returns c =
    programmed_all c.args.net.now c.args.now c.args.pending.now c.loop-date.date-index c.loop-date.wheel.meaning c.loop-date.wheel.puts c.loop-date-test.false c.loop-date.invariant
