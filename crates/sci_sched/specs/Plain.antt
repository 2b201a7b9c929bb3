-- The plain forms of schedules: each `Vec` as its list.
use Rattle.std.specs.Prelude.{List, map, Vec}
use Rattle.std.specs.declared.alloc.Global.{Global}
use Rattle.sci_reaction.specs.Schedule.{Entry as PlainEntry}
use Rattle.sci_reaction.specs.Kept.{entries_of}
use Rattle.sci_reaction.specs.declared.entry.Entry.{Entry}
use Rattle.sci_sched.specs.declared.schedule.Schedule.{Schedule}

abbrev pub row_of : List Entry → List PlainEntry
row_of es = entries_of es

abbrev pub lists_of : List (Vec Entry Global) → List (List PlainEntry)
lists_of rows = map (λ v. row_of v.items) rows

abbrev pub rows_of : Schedule → List (List PlainEntry)
rows_of p = lists_of p.rows.items
