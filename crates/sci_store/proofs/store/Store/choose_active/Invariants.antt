use Rattle.sci_store.specs.contracts.store.Store.{the_view}
use Rattle.sci_store.proofs.Choosing.{HasChosen}
use Rattle.sci_store.proofs.store.Store.choose_active.Given as goal

-- the active ones of the calls so far are chosen
abbrev pub invariant-loop-call : goal.invariant-loop-call
invariant-loop-call l = HasChosen l.calls (the_view l.initial.self-inside) (the_view l.self-inside) l.count l.call-index
