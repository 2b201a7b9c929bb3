-- What a call comes to before it writes, and the files that it asked for.
use Rattle.std.specs.Prelude.{ℕ, ◌≡◌, ◌⊎◌, ◌++◌, List, ◌∷◌}
use Rattle.sci_io.specs.Causes.{Rose}
use Rattle.sci_io.specs.Files.{FolderState}
use Rattle.sci_words.specs.Words.{Request, Spells, NoCommand, files_of}
use Rattle.sci_answers.specs.Answer.{Answer, usage, read_fault, no_memory}
use Rattle.sci_answers.specs.Course.{Course, TakesMemory, DueOn, AsksFront}
use Rattle.sci_answers.specs.Due.{course_of}

-- the answer that is due of the files' bytes
abbrev pub ReachesDue : FolderState → FolderState → Course → List (List ℕ) → Answer → Type 0
ReachesDue old new course bytes a =
    (names : List (List ℕ)) × DueOn old.files course bytes names a × (new.asked ≡ old.asked ++ names) × (new.faults ≡ old.faults)

-- a read failed, and the folder's faults rose
abbrev pub ReadFault : FolderState → FolderState → Course → List (List ℕ) → Answer → Type 0
ReadFault old new course bytes a =
    Rose old.faults new.faults × (name : List ℕ) × (names : List (List ℕ)) × AsksFront old.files course bytes (name ∷ names)
    × (new.asked ≡ old.asked ++ name ∷ names) × (a ≡ read_fault)

-- there was no memory
abbrev pub OutOfMemory : FolderState → FolderState → Course → List (List ℕ) → Answer → Type 0
OutOfMemory old new course bytes a =
    (new.faults ≡ old.faults) × (names : List (List ℕ)) × AsksFront old.files course bytes names × (new.asked ≡ old.asked ++ names) × (a ≡ no_memory)

-- the same of a whole command, for which memory may lack only where it takes some
abbrev pub ReachesOf : FolderState → FolderState → Course → List (List ℕ) → Answer → Type 0
ReachesOf old new course bytes a =
    ReachesDue old new course bytes a ⊎ (ReadFault old new course bytes a ⊎ (TakesMemory course × OutOfMemory old new course bytes a))

-- Before it writes, a call comes to the answer that is due, or to a read fault, or to want of memory.
abbrev pub ReachesBy : List (List ℕ) → FolderState → FolderState → List (List ℕ) → Answer → Type 0
ReachesBy words old new bytes a =
    (NoCommand words × (a ≡ usage) × (new.asked ≡ old.asked) × (new.faults ≡ old.faults))
    ⊎ ((c : Request) × Spells words c × ReachesOf old new (course_of c) bytes a)

-- the names asked for are a front of the files of the command, a later one only where the earlier pass their rules
abbrev pub AsksFrontOf : FolderState → FolderState → List (List ℕ) → Request → Type 0
AsksFrontOf old new bytes c =
    (names : List (List ℕ)) × (rest : List (List ℕ)) × (files_of c ≡ names ++ rest) × (new.asked ≡ old.asked ++ names)
    × AsksFront old.files (course_of c) bytes names
