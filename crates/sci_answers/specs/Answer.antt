-- The answers of the program: the bytes on out, the bytes on err, and the status.
use Rattle.std.specs.Prelude.{ℕ, ◌≡◌, ◌⊎◌, List, [], codes}
use Rattle.sci_base.specs.Plain.{Violation}
use Rattle.sci_print.specs.Line.{refused_line}
use Rattle.sci_words.specs.Words.{usage_line}

-- a command was done, or run to its end: done, stopped, where a C program has no meaning, or where a file isn't the trace
abbrev pub IsDone : ℕ → Type 0
IsDone status = (status ≡ 0) ⊎ ((status ≡ 6) ⊎ ((status ≡ 7) ⊎ (status ≡ 8)))

pub record Answer : Type 0 where
  pub out : List ℕ
  pub err : List ℕ
  pub status : ℕ

-- a text on err alone
abbrev pub says : ℕ → List ℕ → Answer
says status text = record { out = []; err = text; status = status }

unfoldable pub read_fault_line : List ℕ
read_fault_line = codes "read fault\n"

unfoldable pub write_fault_line : List ℕ
write_fault_line = codes "write fault\n"

unfoldable pub no_memory_line : List ℕ
no_memory_line = codes "out of memory\n"

abbrev pub refused : Violation → Answer
refused v = says 1 (refused_line v)

abbrev pub usage : Answer
usage = says 2 usage_line

abbrev pub read_fault : Answer
read_fault = says 3 read_fault_line

abbrev pub no_memory : Answer
no_memory = says 5 no_memory_line

-- a text on out alone
abbrev pub prints : List ℕ → Answer
prints text = record { out = text; err = []; status = 0 }
