-- What is due for a text: the program that it spells, or the byte that is blamed.
use Rattle.std.specs.Prelude.{◌≡◌, ℕ, List, Option, Some, None, Result, Ok, Err, ◌⊎◌, get_or}
use Rattle.c_ast.specs.declared.Program.{Program}
use Rattle.c_ast.specs.Syntax.{Whole}
use Rattle.c_ast.specs.View.{whole_of}
use Rattle.c_ast.specs.Events.{program_events}
use Rattle.c_ast.specs.Rules.{blamed_event, KeepsRules}
use Rattle.c_parse.specs.Blame.{Spells, Unspelled}
use Rattle.c_read.specs.Names.{program_places}
use Rattle.c_read.specs.declared.ProgramStop.{ProgramStop}
use Rattle.c_read.specs.declared.ProgramStop.TheVariants as stops

-- the byte of this event's name
abbrev pub place_of : Whole → Option ℕ → Option ℕ
place_of p None = None
place_of p (Some i) = Some (get_or (program_places p) i 0)

-- the byte of the first name that the static rules blame
abbrev pub blamed_byte : Whole → Option ℕ
blamed_byte p = place_of p (blamed_event (program_events p))

-- The text spells a program that breaks the static rules, first at the name at byte n.
pub record Unruly (bytes : List ℕ) (n : ℕ) : Type 0 where
  pub program : Whole
  pub spells : Spells bytes program
  pub blamed : blamed_byte program ≡ Some n

-- byte n is blamed
abbrev pub IsRefused : List ℕ → ℕ → Type 0
IsRefused bytes n = Unspelled bytes n ⊎ Unruly bytes n

-- the text spells this program, which keeps the static rules
abbrev pub IsAccepted : List ℕ → Whole → Type 0
IsAccepted bytes p = Spells bytes p × KeepsRules p

-- what is answered, unless memory ran out
abbrev pub Answers : List ℕ → Result Program ProgramStop → Type 0
Answers bytes (Ok p) = IsAccepted bytes (whole_of p)
Answers bytes (Err (stops.NotC n)) = IsRefused bytes n
Answers bytes (Err stops.Memory) = Unit {0}

-- this program is answered, unless memory ran out
abbrev pub Accepts : Result Program ProgramStop → Whole → Type 0
Accepts (Ok q) p = whole_of q ≡ p
Accepts (Err (stops.NotC n)) p = ⊥
Accepts (Err stops.Memory) p = Unit {0}

-- this byte is blamed, unless memory ran out
abbrev pub Blames : Result Program ProgramStop → ℕ → Type 0
Blames (Ok q) n = ⊥
Blames (Err (stops.NotC m)) n = m ≡ n
Blames (Err stops.Memory) n = Unit {0}
