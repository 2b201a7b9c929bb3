use Rattle.std.proofs.Common.{◌≡◌, ◌≤◌, take, length}
use Rattle.sci_reaction.specs.Kept.{entries_of}
use Rattle.sci_store.specs.Rows.{marked, chosen_calls}
use Rattle.sci_store.specs.contracts.store.Store.{the_view}
use Rattle.sci_store.proofs.store.Store.choose.Given as goal

-- the calls of those so far whose entries apply stand in front, and are marked
abbrev pub invariant-loop-at : goal.invariant-loop-at
invariant-loop-at l = record {
  few : l.count ≤ l.at;
  chosen_is : take l.count (the_view l.self-inside).chosen ≡ chosen_calls (the_view l.initial.self-inside).marks (take l.at l.calls) (entries_of (take l.at l.entries));
  marks_are : (the_view l.self-inside).marks ≡ marked (the_view l.initial.self-inside).marks (take l.count (the_view l.self-inside).chosen);
  long : length (the_view l.self-inside).chosen ≡ length (the_view l.initial.self-inside).chosen;
  same : (the_view l.self-inside) ≡ record (the_view l.initial.self-inside) { marks = (the_view l.self-inside).marks; chosen = (the_view l.self-inside).chosen };
}
