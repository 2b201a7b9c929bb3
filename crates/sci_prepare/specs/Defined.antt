-- What a call on `ccode` comes to before it writes: the text of the program that is defined.
use Rattle.std.specs.Prelude.{ℕ, ◌≡◌, List, Result}
use Rattle.sci_io.specs.Files.{FolderState}
use Rattle.sci_words.specs.Words.{Request, code, spelled}
use Rattle.sci_answers.specs.Answer.{Answer, no_memory}
use Rattle.sci_answers.specs.Coming.{ReachesTo}
use Rattle.sci_answers.specs.Prepared.{IsAnswerOf, MayLack}
use Rattle.sci_prepare.specs.Prepare.{IsLookedAnswer, LooksMayLack}
use Rattle.sci_files.specs.declared.look.LookStop.{LookStop}
use Rattle.sci_answers.specs.declared.prepared.Prepared.{Prepared}
use Rattle.sci_answers.specs.Defined.{defined_course}

-- the diagram's file was looked at: the answers that may be written, and want of memory where that may come
pub record LooksAtCode (old new : FolderState) (d : List ℕ) (result : Result Prepared LookStop) : Type 0 where
  pub reaches : (a : Answer) → IsLookedAnswer result a → ReachesTo old new (defined_course d) a
  pub lacks : LooksMayLack result → ReachesTo old new (defined_course d) no_memory

-- the same of a command; of others than `ccode` nothing is said
abbrev pub LooksDefined : FolderState → FolderState → Request → Result Prepared LookStop → Type 0
LooksDefined old new (code d) result = LooksAtCode old new d result
LooksDefined old new _ result = Unit {0}

-- and of the words
pub record PreparesCode (old new : FolderState) (d : List ℕ) (p : Prepared) : Type 0 where
  pub reaches : (a : Answer) → IsAnswerOf p a → ReachesTo old new (defined_course d) a
  pub lacks : MayLack p → ReachesTo old new (defined_course d) no_memory

pub record PreparesDefined (words : List (List ℕ)) (old new : FolderState) (p : Prepared) : Type 0 where
  pub each : (d : List ℕ) → words ≡ spelled (code d) → PreparesCode old new d p
