-- What is due of the words of `ranges`, a diagram's file and an input file.
use Rattle.std.specs.Prelude.{ℕ, ℤ, ◌≡◌, ◌↔◌, ◌⊎◌, true, Bool, List, [], ◌∷◌, ◌++◌, codes}
use Rattle.sci_io.specs.Files.{Files, FolderState}
use Rattle.sci_net.specs.Parts.{Parts}
use Rattle.sci_reaction.specs.Memory.{Columns}
use Rattle.sci_verdict.specs.Verdict.{Plan}
use Rattle.sci_ranges_reads.specs.Live.{IsPossible}
use Rattle.sci_ranges.specs.Closed.{IsClosed}
use Rattle.sci_ranges.specs.Table.{Table}
use Rattle.sci_ranges_text.specs.Text.{table_text}
use Rattle.sci_answers.specs.Answer.{Answer, says, prints}
use Rattle.sci_answers.specs.Course.{Course, gives, DueOn, AsksFront}
use Rattle.sci_answers.specs.Inputs.{reads_run}
use Rattle.sci_answers.specs.Reached.{ReachesOf}

unfoldable pub usage_line : List ℕ
usage_line = codes "usage: ranges D I\n"

abbrev pub usage : Answer
usage = says 2 usage_line

-- It tells a table of the net that no rule widens, for the input files whose columns keep within these, and as idle exactly the blocks that can't act where
-- the table's dead branches aren't taken.
pub record IsRangesOf (n : Parts) (i : Columns) (a : Answer) : Type 0 where
  pub table : Table
  pub closed : IsClosed n i table
  pub acts : ℕ → Bool
  pub idle : (b : ℕ) → IsPossible n table.dead b ↔ (acts b ≡ true)
  pub told : a ≡ prints (table_text n table acts)

-- what comes behind both files
abbrev pub gives_ranges : Plan → List (List ℤ) → Course
gives_ranges p columns = gives (IsRangesOf p.net columns)

-- a diagram and its input file are read, by the rules of a simulation
abbrev pub course_of : (d i : List ℕ) → Course
course_of d i = reads_run d i gives_ranges

abbrev pub files_of : (d i : List ℕ) → List (List ℕ)
files_of d i = d ∷ i ∷ []

-- two words name a diagram and an input file
abbrev pub Spells : List (List ℕ) → (d i : List ℕ) → Type 0
Spells words d i = words ≡ files_of d i

abbrev pub NoCommand : List (List ℕ) → Type 0
NoCommand words = (d i : List ℕ) → Spells words d i → ⊥

-- The answer that is due of these words where the two files have these bytes, and the names that are read for it.
abbrev pub Due : Files → List (List ℕ) → (bytes names : List (List ℕ)) → Answer → Type 0
Due files words bytes names a =
    (NoCommand words × (a ≡ usage) × (names ≡ [])) ⊎ ((d : List ℕ) × (i : List ℕ) × Spells words d i × DueOn files (course_of d i) bytes names a)

-- Before it writes, a call comes to the answer that is due, or to a read fault, or to want of memory.
abbrev pub ReachesBy : List (List ℕ) → FolderState → FolderState → List (List ℕ) → Answer → Type 0
ReachesBy words old new bytes a =
    (NoCommand words × (a ≡ usage) × (new.asked ≡ old.asked) × (new.faults ≡ old.faults))
    ⊎ ((d : List ℕ) × (i : List ℕ) × Spells words d i × ReachesOf old new (course_of d i) bytes a)

-- the names asked for are a front of the two, the input file's only where the diagram passes its rules
pub record AsksFrontOf (old new : FolderState) (bytes : List (List ℕ)) (d i : List ℕ) : Type 0 where
  pub names : List (List ℕ)
  pub rest : List (List ℕ)
  pub split : files_of d i ≡ names ++ rest
  pub asked : new.asked ≡ old.asked ++ names
  pub in_order : AsksFront old.files (course_of d i) bytes names
