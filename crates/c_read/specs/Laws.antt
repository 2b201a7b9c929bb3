-- What holds of all texts and programs.
use Rattle.std.specs.Prelude.{◌≡◌, ℕ, List, length}
use Rattle.c_ast.specs.Syntax.{Whole}
use Rattle.c_ast.specs.Spelling.{spelling}
use Rattle.c_ast.specs.Bounds.{IsWhole}
use Rattle.c_ast.specs.Events.{program_events}
use Rattle.c_ast.specs.Rules.{KeepsRules}
use Rattle.c_read.specs.Names.{program_places, NamesStand, Rise}
use Rattle.c_read.specs.Answers.{IsAccepted, IsRefused}

-- no two programs share a spelling
abbrev pub OneProgram : Type 0
OneProgram = (p q : Whole) → IsWhole p → IsWhole q → spelling p ≡ spelling q → p ≡ q

-- the spelling of a program is read as the program
abbrev pub SpellingIsRead : Type 0
SpellingIsRead = (p : Whole) → IsWhole p → KeepsRules p → IsAccepted (spelling p) p

-- at most one program is due for a text
abbrev pub OneAccepted : Type 0
OneAccepted = (bytes : List ℕ) (p q : Whole) → IsAccepted bytes p → IsAccepted bytes q → p ≡ q

-- at most one byte of a text is blamed
abbrev pub OneBlamed : Type 0
OneBlamed = (bytes : List ℕ) (m n : ℕ) → IsRefused bytes m → IsRefused bytes n → m ≡ n

-- a text for which a program is due has no blamed byte
abbrev pub NotBoth : Type 0
NotBoth = (bytes : List ℕ) (p : Whole) (n : ℕ) → IsAccepted bytes p → IsRefused bytes n → ⊥

-- each name of a program stands where it is said to stand
abbrev pub NamesStandThere : Type 0
NamesStandThere = (p : Whole) → NamesStand (spelling p) (program_places p) (program_events p)

-- the names of a program are listed in the order of its text
abbrev pub NamesRise : Type 0
NamesRise = (p : Whole) → Rise 0 (program_places p) (length (spelling p))
