-- What a call comes to before it writes, as its files are looked at.
use Rattle.std.specs.Prelude.{ℕ, ◌⊎◌, List}
use Rattle.sci_io.specs.Files.{FolderState}
use Rattle.sci_words.specs.Words.{Request}
use Rattle.sci_bank.specs.Bank.{Meaning}
use Rattle.sci_answers.specs.Answer.{Answer, IsDone}
use Rattle.sci_answers.specs.Course.{Course}
use Rattle.sci_answers.specs.Due.{course_of}
use Rattle.sci_answers.specs.Counts.{CountsRunOf, HaveCounted}
use Rattle.sci_answers.specs.Reached.{OutOfMemory, ReachesBy, ReachesDue, ReachesOf, ReadFault}

-- what a course comes to, where its files have these bytes; memory may lack
abbrev pub ComesBy : FolderState → FolderState → Course → List (List ℕ) → Answer → Type 0
ComesBy old new course bytes a = ReachesDue old new course bytes a ⊎ (ReadFault old new course bytes a ⊎ OutOfMemory old new course bytes a)

abbrev pub ComesTo : FolderState → FolderState → Course → Answer → Type 0
ComesTo old new course a = (bytes : List (List ℕ)) × ComesBy old new course bytes a

abbrev pub ReachesTo : FolderState → FolderState → Course → Answer → Type 0
ReachesTo old new course a = (bytes : List (List ℕ)) × ReachesOf old new course bytes a

abbrev pub Reaches : List (List ℕ) → FolderState → FolderState → Answer → Type 0
Reaches words old new a = (bytes : List (List ℕ)) × ReachesBy words old new bytes a

-- The same of a command; and banks that are left so behind an answer by which it is done have counted its run.
abbrev pub ReachesCounting : FolderState → FolderState → Request → Answer → (Left : List Meaning → Type 0) → Type 0
ReachesCounting old new c a Left =
    (bytes : List (List ℕ)) × ReachesOf old new (course_of c) bytes a × ((banks : List Meaning) → IsDone a.status → Left banks → CountsRunOf c bytes banks)

-- and of the words
abbrev pub ReachesCounted : List (List ℕ) → FolderState → FolderState → Answer → (Left : List Meaning → Type 0) → Type 0
ReachesCounted words old new a Left =
    (bytes : List (List ℕ)) × ReachesBy words old new bytes a × ((banks : List Meaning) → IsDone a.status → Left banks → HaveCounted words bytes banks)
