-- What a call of `ranges` promises.
use Rattle.std.specs.Prelude.{ℕ, ◌≡◌, ◌<◌, ◌⊎◌, ◌++◌, List}
use Rattle.sci_io.specs.Causes.{Rose}
use Rattle.sci_io.specs.Files.{FolderState}
use Rattle.sci_io.specs.Taken.{SinkState}
use Rattle.sci_answers.specs.Answer.{Answer}
use Rattle.sci_answers.specs.Written.{Given, Written}
use Rattle.sci_range_commands.specs.Due.{Due, files_of, Spells, NoCommand, ReachesBy, AsksFrontOf}

-- no fault rose
abbrev pub Quiet : ℕ → ℕ → Type 0
Quiet before now = Rose before now → ⊥

-- The answer that is due of the files' bytes was given whole, and the names asked for are those that are read for it.
abbrev pub GivesDue : List (List ℕ) → List (List ℕ) → FolderState → FolderState → SinkState → SinkState → SinkState → SinkState → ℕ → Type 0
GivesDue words bytes folder folder' out out' err err' status =
    (a : Answer) × (names : List (List ℕ)) × Due folder.files words bytes names a × (folder'.asked ≡ folder.asked ++ names)
    × (status ≡ a.status) × Given out out' a.out × Given err err' a.err

-- the words name two files
abbrev pub NamesFiles : List (List ℕ) → Type 0
NamesFiles words = (d : List ℕ) × (i : List ℕ) × Spells words d i

-- nothing was asked for, or a front of the two files, the input file only where the diagram passes
abbrev pub AsksInOrder : List (List ℕ) → List (List ℕ) → FolderState → FolderState → Type 0
AsksInOrder words bytes folder folder' =
    (folder'.asked ≡ folder.asked) ⊎ ((d : List ℕ) × (i : List ℕ) × Spells words d i × AsksFrontOf folder folder' bytes d i)

-- both files were asked for
abbrev pub AsksAll : List (List ℕ) → FolderState → FolderState → Type 0
AsksAll words folder folder' = (d : List ℕ) × (i : List ℕ) × Spells words d i × (folder'.asked ≡ folder.asked ++ files_of d i)

-- Of a call on these words, with the folder and the two sinks before and after, and its status.
pub record MeetsRanges (words : List (List ℕ)) (folder folder' : FolderState) (out out' err err' : SinkState) (status : ℕ) : Type 0 where
  -- the bytes of the two files, in the order in which they are read: those that the folder tells of each, where it tells
  pub bytes : List (List ℕ)
  -- the answer that is due of them, or a read fault, or want of memory, is written as far as the sinks take it
  pub answer : (a : Answer) × ReachesBy words folder folder' bytes a × Written a out out' err err' status
  -- where no fault rose, it is the one that is due, memory aside
  pub complete : Quiet folder.faults folder'.faults → Quiet out.faults out'.faults → Quiet err.faults err'.faults
      → GivesDue words bytes folder folder' out out' err err' status ⊎ (status ≡ 5)
  pub done : status ≡ 0 → GivesDue words bytes folder folder' out out' err err' status × AsksAll words folder folder'
  pub refused : status ≡ 1 → GivesDue words bytes folder folder' out out' err err' status
  pub usage : status ≡ 2 → NoCommand words
  pub no_command : NoCommand words → (status ≡ 2) ⊎ (status ≡ 4)
  pub read_fault : status ≡ 3 → Rose folder.faults folder'.faults
  pub write_fault : status ≡ 4 → Rose out.faults out'.faults ⊎ Rose err.faults err'.faults
  pub a_read_failed : folder.faults < folder'.faults → (status ≡ 3) ⊎ (status ≡ 4)
  pub a_write_failed : ((out.faults < out'.faults) ⊎ (err.faults < err'.faults)) → status ≡ 4
  pub no_memory : status ≡ 5 → NamesFiles words
  pub nothing_out : ((status ≡ 1) ⊎ (status ≡ 2)) ⊎ ((status ≡ 3) ⊎ (status ≡ 5)) → out' ≡ out
  pub in_order : AsksInOrder words bytes folder folder'
