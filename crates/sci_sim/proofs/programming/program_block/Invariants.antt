use Rattle.std.proofs.Common.{◌≡◌, ℕ, ◌+◌, length}
use Rattle.sci_net.specs.Parts.{spec_of}
use Rattle.sci_net.specs.Sources.{ports_to}
use Rattle.sci_pending.specs.Pending.{Pending}
use Rattle.sci_run.specs.Programs.{with_delays}
use Rattle.sci_store.specs.Frame.{seat_of}
use Rattle.sci_store.specs.Delays.{delays_in}
use Rattle.sci_sim.specs.Programming.{Keeps}
use Rattle.sci_sim.proofs.programming.program_block.Given as goal

abbrev pub invariant-loop-port : goal.invariant-loop-port
invariant-loop-port g l = record {
  end : l.port-end ≡ (spec_of l.fn.kept.fixed.net l.fn.block).evtout;
  kept : (offset : ℕ) (p : Pending) → Keeps l.fn.kept.fixed.net offset (l.fn.date + offset) (g.A.Agenda.meaning l.fn.agenda) (g.A.Agenda.puts l.fn.agenda) p
      → Keeps l.fn.kept.fixed.net offset (l.fn.date + offset) (g.A.Agenda.meaning l.agenda) (g.A.Agenda.puts l.agenda)
      (with_delays (l.fn.date + offset) (delays_in l.fn.kept.fixed l.fn.kept.store) (seat_of l.fn.kept.fixed l.fn.block).first_source (ports_to l.fn.block l.port) p);
  same : l.kept.store ≡ record l.fn.kept.store { room = l.kept.store.room };
  room : length l.kept.store.room ≡ length l.fn.kept.store.room;
  fixed : l.kept.fixed ≡ l.fn.kept.fixed;
}
