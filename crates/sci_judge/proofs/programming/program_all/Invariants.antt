use Rattle.std.proofs.Common.{◌≡◌, ◌≤◌, ◌+◌, take, length}
use Rattle.sci_store.specs.Delays.{delays_in}
use Rattle.sci_judge.specs.Programming.{with_sources}
use Rattle.sci_judge.proofs.programming.program_all.Given as goal

abbrev pub invariant-loop-source : goal.invariant-loop-source
invariant-loop-source g l = record {
  kept : l.events ≡ record l.fn.events { pending = with_sources l.fn.kept.fixed.net l.fn.date (delays_in l.fn.kept.fixed l.fn.kept.store) (take l.source-index l.fn.sources) l.fn.events.pending };
  few : l.events.pending.programmed ≤ l.fn.events.pending.programmed + l.source-index;
  same : l.kept.store ≡ record l.fn.kept.store { room = l.kept.store.room };
  room : length l.kept.store.room ≡ length l.fn.kept.store.room;
  fixed : l.kept.fixed ≡ l.fn.kept.fixed;
}
