use Rattle.std.proofs.Common.{◌≡◌, ◌-◌, ◌+◌, ◌≤◌, length}
use Rattle.sci_net.specs.Sources.{sources_of}
use Rattle.sci_save.specs.Reading.{events_at, unmarked}
use Rattle.sci_save.proofs.Loops.{front_events}
use Rattle.sci_save.proofs.events.pending.Given as goal

abbrev pub invariant-loop : goal.invariant-loop
invariant-loop l = record {
  reads : front_events l.events.items (events_at l.net (l.now + 2147483647) (length l.bytes - l.counter) l.last l.marks.items l.rest) ≡ events_at l.net (l.now + 2147483647) (length l.bytes) l.now (unmarked l.net) l.bytes;
  marks : length l.marks.items ≡ length (sources_of l.net);
  last : l.last ≤ l.now + 2147483647;
}
