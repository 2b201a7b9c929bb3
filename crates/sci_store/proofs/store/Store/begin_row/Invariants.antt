use Rattle.std.proofs.Common.{◌≡◌}
use Rattle.sci_store.proofs.Marking.{HasBegunTo}
use Rattle.sci_store.proofs.store.Store.begin_row.Given as goal

-- the whole runs so far are marked
abbrev pub invariant-loop-run : goal.invariant-loop-run
invariant-loop-run l = record {
  begun : HasBegunTo l.frame l.row l.run-index l.self.marks;
  same : l.self ≡ record l.initial.self { marks = l.self.marks };
}
