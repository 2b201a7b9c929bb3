-- Which text `ccode` gives, of those that are due: that of the program that is defined.
use Rattle.std.specs.Prelude.{ℕ, ◌≡◌, List}
use Rattle.c_ast.specs.Spelling.{spelling}
use Rattle.sci_program.specs.Program.{program}
use Rattle.sci_verdict.specs.Verdict.{Plan, Accepts, Breaks}
use Rattle.sci_answers.specs.Answer.{Answer, prints}
use Rattle.sci_answers.specs.Code.{IsCodeOf}
use Rattle.sci_answers.specs.Course.{diagram_slot, Course, gives, reads}

-- it is the text of the program that is defined for a plan
abbrev pub IsDefinedCode : Plan → Answer → Type 0
IsDefinedCode p a = a ≡ prints (spelling (program p.net p.rows))

-- the course of `ccode` with this text
abbrev pub defined_course : List ℕ → Course
defined_course d = reads Plan diagram_slot d Accepts Breaks (λ p. gives (IsDefinedCode p))

-- It is one of those that are due.
abbrev pub DefinedCodeIsDue : Type 0
DefinedCodeIsDue = (bytes : List ℕ) (p : Plan) (a : Answer) → Accepts bytes p → IsDefinedCode p a → IsCodeOf p a
