use Rattle.std.proofs.Common.{◌≡◌, ◌≤◌, length}
use Rattle.sci_net.specs.Sources.{sources_of}
use Rattle.sci_ranges_marks.proofs.FirstEvents.{first_to}
use Rattle.sci_ranges_marks.proofs.first_event.program_first.Given as goal

abbrev pub invariant-loop-source : goal.invariant-loop-source
invariant-loop-source l = record {
  end : l.source-end ≡ length (sources_of l.net);
  kept : l.events ≡ record l.fn.events { pending = first_to l.net l.source };
  few : (first_to l.net l.source).programmed ≤ l.source;
}
