-- Which text `ccode` writes: that of the program that is defined.
use Rattle.std.specs.Prelude.{ℕ, ◌≡◌, List}
use Rattle.sci_io.specs.Files.{FolderState}
use Rattle.sci_io.specs.Taken.{SinkState}
use Rattle.sci_words.specs.Words.{code, spelled}
use Rattle.sci_answers.specs.Answer.{Answer}
use Rattle.sci_answers.specs.Reached.{ReachesOf}
use Rattle.sci_answers.specs.Written.{Written}
use Rattle.sci_answers.specs.Defined.{defined_course}

-- A call on `ccode` comes to an answer of this course, which is written as far as the sinks take it.
pub record WritesCode (d : List ℕ) (folder folder' : FolderState) (out out' err err' : SinkState) (status : ℕ) : Type 0 where
  pub bytes : List (List ℕ)
  pub answer : (a : Answer) × ReachesOf folder folder' (defined_course d) bytes a × Written a out out' err err' status

-- whatever the diagram's file is
pub record WritesDefined (words : List (List ℕ)) (folder folder' : FolderState) (out out' err err' : SinkState) (status : ℕ) : Type 0 where
  pub each : (d : List ℕ) → words ≡ spelled (code d) → WritesCode d folder folder' out out' err err' status
