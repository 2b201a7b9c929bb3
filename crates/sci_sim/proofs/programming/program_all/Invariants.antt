use Rattle.std.proofs.Common.{◌≡◌, ℕ, ◌+◌, take, length}
use Rattle.sci_pending.specs.Pending.{Pending}
use Rattle.sci_sim.specs.Programming.{Keeps}
use Rattle.sci_sim.proofs.RowDelays.{row_programmed}
use Rattle.sci_sim.proofs.programming.program_all.Given as goal

abbrev pub invariant-loop-block : goal.invariant-loop-block
invariant-loop-block g l = record {
  kept : (offset : ℕ) (p : Pending) → Keeps l.fn.kept.fixed.net offset (l.fn.date + offset) (g.A.Agenda.meaning l.fn.agenda) (g.A.Agenda.puts l.fn.agenda) p
      → Keeps l.fn.kept.fixed.net offset (l.fn.date + offset) (g.A.Agenda.meaning l.agenda) (g.A.Agenda.puts l.agenda)
      (row_programmed l.fn.kept.fixed l.fn.kept.store (l.fn.date + offset) (take l.block-index l.fn.blocks) p);
  same : l.kept.store ≡ record l.fn.kept.store { room = l.kept.store.room };
  room : length l.kept.store.room ≡ length l.fn.kept.store.room;
  fixed : l.kept.fixed ≡ l.fn.kept.fixed;
}
