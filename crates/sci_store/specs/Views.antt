-- What a row and a store are seen as.
use Rattle.sci_store.specs.declared.row.ReadyRow.TheInside.{Inside as RowInside}
use Rattle.sci_store.specs.declared.store.Store.TheInside.{Inside as StoreInside}
use Rattle.sci_store.specs.Rows.{ReadyRow}
use Rattle.sci_store.specs.Store.{Standing}

abbrev pub seen_row : RowInside → ReadyRow
seen_row r = record {
  runs = r.values.runs.items;
  calls = r.values.calls.items;
  guarded = r.entries.items;
  state_runs = r.states.runs.items;
  state_calls = r.states.calls.items;
  shows = r.shows.items;
  blocks = r.blocks.items;
  delays = r.delays.items;
  halts = r.halts.items;
}

abbrev pub standing : StoreInside → Standing
standing s = record {
  values = s.values.items;
  cursors = s.cursors.items;
  marks = s.marks.items;
  room = s.ins.items;
  chosen = s.chosen.items;
  lines = s.tally.lines;
  sum = s.tally.sum;
}
