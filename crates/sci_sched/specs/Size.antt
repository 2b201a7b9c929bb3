-- How long schedules are.
use Rattle.std.specs.Prelude.{ℕ, ◌+◌, List, length, sum_by}
use Rattle.sci_reaction.specs.Schedule.{Entry}

abbrev pub entry_count : List (List Entry) → ℕ
entry_count rows = sum_by (λ row. length row) rows

-- the guards of a row
abbrev pub guards_in : List Entry → ℕ
guards_in row = sum_by (λ (e : Entry). length e.guards) row

abbrev pub guard_count : List (List Entry) → ℕ
guard_count rows = sum_by guards_in rows

-- entries and guards over all sources
abbrev pub size_of : List (List Entry) → ℕ
size_of rows = entry_count rows + guard_count rows
