use Rattle.std.proofs.Common.{◌≡◌, ◌+◌, ◌<◌, ◌^◌, ◌++◌, All, map, length}
use Rattle.sci_sim.specs.Saving.{more}
use Rattle.sci_sim.proofs.image.pending.Given as goal

abbrev pub invariant-loop-date : goal.invariant-loop-date
invariant-loop-date g l = record {
  listed : l.events.items ++ map (more l.offset) (g.A.Agenda.meaning l.agenda).events ≡ map (more l.offset) (g.A.Agenda.meaning l.fn.agenda).events;
  small : All (λ e. e.0 + l.offset < 2 ^ 64) (g.A.Agenda.meaning l.agenda).events;
}

abbrev pub decreases-loop-date : goal.decreases-loop-date
decreases-loop-date g l = length (g.A.Agenda.meaning l.agenda).events
