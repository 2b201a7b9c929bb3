-- The lines of a text, read one by one.
use Rattle.std.specs.Prelude.{◌≡◌, ℕ, List, [], Option, Some, None, Result, Ok, Err}
use Rattle.c_ast.specs.Spelling.{IndentedLine}
use Rattle.c_ast.specs.View.{whole_of}
use Rattle.sci_text.specs.Reading.{◌>>=◌}
use Rattle.c_parse.specs.LineReading.{row_at}
use Rattle.c_parse.specs.Machine.{State, heading, outside, body, over, step}
use Rattle.c_parse.specs.Blame.{Spells, Unspelled}
use Rattle.sci_text.specs.declared.stop.TextStop.{TextStop}
use Rattle.sci_text.specs.declared.stop.TextStop.TheVariants as stop
use Rattle.c_read.specs.Names.{row_places, program_places}
use Rattle.c_read.specs.declared.ProgramStop.{ProgramStop}
use Rattle.c_read.specs.declared.ProgramStop.TheVariants as stops
use Rattle.c_read.specs.declared.reader.Placed.{Placed}

-- what a line behind the header leads to
abbrev pub row_led : List ℕ → State → Option State
row_led line s = row_at line >>= λ r. step r s

-- the names of a row that begins at byte n, where one was read
abbrev pub read_places : ℕ → Option IndentedLine → List ℕ
read_places n None = []
read_places n (Some r) = row_places n r

-- the names of the line that comes next, which begins at byte n
abbrev pub next_places : State → ℕ → List ℕ → List ℕ
next_places (heading t) n line = []
next_places (outside ds fs) n line = read_places n (row_at line)
next_places (body ds fs owner o) n line = read_places n (row_at line)
next_places (over p) n line = []

-- the line at byte n wasn't read
abbrev pub blame_of : TextStop → ℕ → ProgramStop
blame_of stop.Memory n = stops.Memory
blame_of stop.Other n = stops.NotC n

-- A program with the places of its names, unless no program spells the text.
abbrev pub Reads : List ℕ → Result Placed ProgramStop → Type 0
Reads bytes (Ok x) = Spells bytes (whole_of x.program) × (x.places.items ≡ program_places (whole_of x.program))
Reads bytes (Err (stops.NotC n)) = Unspelled bytes n
Reads bytes (Err stops.Memory) = Unit {0}
