use Rattle.std.proofs.Common.{◌≡◌}
use Rattle.sci_store.specs.contracts.store.Store.{the_view}
use Rattle.sci_store.proofs.TakenBack.{IsTakenBack}
use Rattle.sci_store.proofs.store.Store.begin_again.Given as goal

-- the guarded blocks so far are not marked
abbrev pub invariant-loop-entry : goal.invariant-loop-entry
invariant-loop-entry l = record {
  back : IsTakenBack (the_view l.initial.self-inside).marks l.row.guarded l.entry-index (the_view l.self-inside).marks;
  same : (the_view l.self-inside) ≡ record (the_view l.initial.self-inside) { marks = (the_view l.self-inside).marks };
}
