use Rattle.std.proofs.Common.{◌≡◌, drop}
use Rattle.sci_store.specs.Rows.{shown_values}
use Rattle.sci_store.specs.Written.{tallied_values}
use Rattle.sci_store.proofs.store.Store.count_values.Given as goal

-- with the values that are still to come they are all counted
abbrev pub invariant-loop-show : goal.invariant-loop-show
invariant-loop-show l = record {
  counted : tallied_values l.self (shown_values l.initial.self (drop l.show-index l.row.shows)) ≡ tallied_values l.initial.self (shown_values l.initial.self l.row.shows);
  same : l.self ≡ record l.initial.self { lines = l.self.lines; sum = l.self.sum };
}
