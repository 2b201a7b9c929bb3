use Rattle.std.proofs.Common.{◌≡◌, take}
use Rattle.sci_store.specs.Rows.{marked}
use Rattle.sci_store.specs.contracts.store.Store.{the_view}
use Rattle.sci_store.proofs.store.Store.mark_active.Given as goal

-- the blocks of the calls so far are marked
abbrev pub invariant-loop-call : goal.invariant-loop-call
invariant-loop-call l = (the_view l.self-inside) ≡ record (the_view l.initial.self-inside) { marks = marked (the_view l.initial.self-inside).marks (take l.call-index l.calls) }
