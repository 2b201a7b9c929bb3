-- The names of a generated program, beside those of its blocks (sci_cgen_blocks) and of its table of due dates (sci_due).
use Rattle.std.specs.Prelude.{ℕ}
use Rattle.c_ast.specs.declared.Name.{Name}
use Rattle.c_mean.specs.Places.{named}

-- arrays beside those of values, states and masks (v1 to v3): by block whether it is active, and the branch that it has taken, 0 for none
abbrev pub actives : Name
actives = named 118 4

abbrev pub branches : Name
branches = named 118 5

-- the bounds on events and on time
abbrev pub limit_name : Name
limit_name = named 110 1

abbrev pub until_name : Name
until_name = named 117 1

-- how many events have fired
abbrev pub fired_name : Name
fired_name = named 105 1

-- the date of the next event, -1 where none is pending
abbrev pub next_date : Name
next_date = named 100 2

-- 1 where a HALT_f was active
abbrev pub halt_name : Name
halt_name = named 104 1

-- the function of a block, of a source by its place in the net's list, and four more
abbrev pub block_name : ℕ → Name
block_name b = named 102 b

abbrev pub source_name : ℕ → Name
source_name i = named 115 i

abbrev pub clear_name : Name
clear_name = named 103 1

abbrev pub settle_name : Name
settle_name = named 103 2

abbrev pub choose_name : Name
choose_name = named 103 3

-- the function of one event
abbrev pub event_name : Name
event_name = named 103 4
