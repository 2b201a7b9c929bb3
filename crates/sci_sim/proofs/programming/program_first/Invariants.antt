use Rattle.std.proofs.Common.{◌≡◌, length}
use Rattle.sci_net.specs.Sources.{sources_of}
use Rattle.sci_sim.specs.Programming.{Keeps}
use Rattle.sci_sim.proofs.Programs.{first_to}
use Rattle.sci_sim.proofs.programming.program_first.Given as goal

abbrev pub invariant-loop-source : goal.invariant-loop-source
invariant-loop-source g l = record {
  end : l.source-end ≡ length (sources_of l.net);
  kept : Keeps l.net 0 0 (g.A.Agenda.meaning l.agenda) (g.A.Agenda.puts l.agenda) (first_to l.net l.source);
}
