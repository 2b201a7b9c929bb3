-- The course of a command: its files, one after the other, each read and judged by its rules, and then what is due.
use Rattle.std.specs.Prelude.{ℕ, ◌≡◌, ◌≤◌, ◌<◌, ◌⊎◌, pos, length, List, [], ◌∷◌, Some, None}
use Rattle.sci_base.specs.declared.limits.TheConstants.{DIAGRAM_BYTES, INPUT_BYTES, TEXT_BYTES}
use Rattle.sci_base.specs.Plain.{Violation}
use Rattle.sci_base.specs.declared.refusal.Rule.TheVariants.{FileTooLong}
use Rattle.sci_io.specs.Files.{Files, file_named}
use Rattle.sci_answers.specs.Answer.{Answer, refused}

-- the file of this name holds these bytes, where the folder tells
abbrev pub Holds : Files → List ℕ → List ℕ → Type 0
Holds None name bytes = Unit {0}
Holds (Some all) name bytes = file_named all name ≡ Some bytes

-- a file of a command: which one it is, from 1, and its limit in bytes
pub record Slot : Type 0 where
  pub which : ℕ
  pub longest : ℕ

-- a diagram, an input file, and a C file
abbrev pub diagram_slot : Slot
diagram_slot = record { which = 1; longest = DIAGRAM_BYTES }

abbrev pub inputs_slot : Slot
inputs_slot = record { which = 2; longest = INPUT_BYTES }

abbrev pub c_slot : Slot
c_slot = record { which = 1; longest = TEXT_BYTES }

-- a third file: a trace, or what was saved of a run
abbrev pub third_slot : Slot
third_slot = record { which = 3; longest = TEXT_BYTES }

-- a dump
abbrev pub dump_slot : Slot
dump_slot = record { which = 1; longest = TEXT_BYTES }

-- the file is too long
abbrev pub too_long : Slot → Violation
too_long slot = record { rule = FileTooLong; place = []; detail = pos slot.which ∷ pos slot.longest ∷ [] }

-- the bytes keep the limit and the rules, and make this
abbrev pub Passes : {A : Type 0} → (List ℕ → A → Type 0) → Slot → List ℕ → A → Type 0
Passes accepts slot bytes made = (length bytes ≤ slot.longest) × accepts bytes made

-- the bytes fail so: their length first, and then the rules
abbrev pub Fails : (List ℕ → Violation → Type 0) → Slot → List ℕ → Violation → Type 0
Fails breaks slot bytes v = ((slot.longest < length bytes) × (v ≡ too_long slot)) ⊎ ((length bytes ≤ slot.longest) × breaks bytes v)

-- No file is left to read, and an answer is due, which is known or made in memory; or the file of this name is read, and what is made of one
-- that passes tells how the course goes on.
pub data Course : Type 1 where
  gives : (Answer → Type 0) → Course
  makes : (Answer → Type 0) → Course
  reads : (A : Type 0) → Slot → List ℕ → (List ℕ → A → Type 0) → (List ℕ → Violation → Type 0) → (A → Course) → Course

-- it takes memory: a file is read, or an answer is made
abbrev pub TakesMemory : Course → Type 0
TakesMemory (gives due) = ⊥
TakesMemory (makes due) = Unit {0}
TakesMemory (reads A slot d accepts breaks next) = Unit {0}

-- The answer that is due of a course whose files have these bytes, and the names that are read for it: a refusal where a file fails, and
-- what comes next where it passes.
abbrev pub DueOn : Files → Course → (bytes names : List (List ℕ)) → Answer → Type 0
DueOn files (gives due) bytes names a = due a × (names ≡ [])
DueOn files (makes due) bytes names a = due a × (names ≡ [])
DueOn files (reads A slot d accepts breaks next) [] names a = ⊥
DueOn files (reads A slot d accepts breaks next) (b ∷ bytes) names a =
    Holds files d b
    × (((v : Violation) × Fails breaks slot b v × (a ≡ refused v) × (names ≡ d ∷ []))
    ⊎ ((made : A) × Passes accepts slot b made × (rest : List (List ℕ)) × (names ≡ d ∷ rest) × DueOn files (next made) bytes rest a))

-- These names are a front of the files of a course, a later one only where the earlier pass their rules.
abbrev pub AsksFront : Files → Course → (bytes names : List (List ℕ)) → Type 0
AsksFront files course bytes [] = Unit {0}
AsksFront files (gives due) bytes (n ∷ names) = ⊥
AsksFront files (makes due) bytes (n ∷ names) = ⊥
AsksFront files (reads A slot d accepts breaks next) [] (n ∷ names) = (n ≡ d) × (names ≡ [])
AsksFront files (reads A slot d accepts breaks next) (b ∷ bytes) (n ∷ names) =
    (n ≡ d) × ((names ≡ []) ⊎ (Holds files d b × (made : A) × Passes accepts slot b made × AsksFront files (next made) bytes names))
