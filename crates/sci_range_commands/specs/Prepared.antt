-- What a call comes to before it writes.
use Rattle.std.specs.Prelude.{ℕ, ◌≡◌, List, Result, Ok, Err}
use Rattle.sci_base.specs.Plain.{violation_of}
use Rattle.sci_io.specs.Files.{FolderState}
use Rattle.sci_answers.specs.Answer.{Answer, prints, refused, read_fault, no_memory}
use Rattle.sci_answers.specs.Coming.{ReachesTo}
use Rattle.sci_files.specs.Look.{stop_answer}
use Rattle.sci_files.specs.declared.look.LookStop.{LookStop}
use Rattle.sci_ranges_marks.specs.View.{marks_of}
use Rattle.sci_ranges_find.specs.View.{ranges_of}
use Rattle.sci_ranges_tell.specs.Told.{told}
use Rattle.sci_range_commands.specs.Due.{usage, course_of, ReachesBy}
use Rattle.sci_range_commands.specs.declared.prepare.Ranged.{Ranged}
use Rattle.sci_range_commands.specs.declared.prepare.Prepared.{Prepared}
use Rattle.sci_range_commands.specs.declared.prepare.Prepared.TheVariants.{Usage, Refused, ReadFault, Memory, Ranges}

-- the text of a table that was found
abbrev pub ranged_text : Ranged → List ℕ
ranged_text r = told r.net (marks_of r.found.marks) (ranges_of r.found.table)

-- what it writes
abbrev pub IsAnswerOf : Prepared → Answer → Type 0
IsAnswerOf Usage a = a ≡ usage
IsAnswerOf (Refused r) a = a ≡ refused (violation_of r)
IsAnswerOf ReadFault a = a ≡ read_fault
IsAnswerOf Memory a = a ≡ no_memory
IsAnswerOf (Ranges r) a = a ≡ prints (ranged_text r)

-- the answers of a call whose files were looked at
abbrev pub IsLookedAnswer : Result Prepared LookStop → Answer → Type 0
IsLookedAnswer (Ok p) a = IsAnswerOf p a
IsLookedAnswer (Err e) a = a ≡ stop_answer e

-- what two files that were looked at come to
abbrev pub LooksAt : FolderState → FolderState → (d i : List ℕ) → Result Prepared LookStop → Type 0
LooksAt old new d i r = (a : Answer) → IsLookedAnswer r a → ReachesTo old new (course_of d i) a

-- and what the words come to
abbrev pub Reaches : List (List ℕ) → FolderState → FolderState → Answer → Type 0
Reaches words old new a = (bytes : List (List ℕ)) × ReachesBy words old new bytes a
