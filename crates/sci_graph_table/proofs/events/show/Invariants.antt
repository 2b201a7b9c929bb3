use Rattle.sci_graph_table.specs.Sized.{IsAt}
use Rattle.sci_graph_table.proofs.events.show.Given as goal

abbrev pub invariant-loop-call : goal.invariant-loop-call
invariant-loop-call g l = IsAt (g.A.Agenda.meaning l.agenda) l.now l.ports
