-- What the C of a diagram comes to.
use Rattle.std.proofs.Common.{◌≡◌, ◌∙◌, ℕ, List, sym, ap, subst, Result, Ok}
use Rattle.sci_io.specs.Files.{FolderState}
use Rattle.sci_sched.specs.Plain.{rows_of}
use Rattle.c_ast.specs.Syntax.{Whole}
use Rattle.c_ast.specs.Spelling.{spelling}
use Rattle.sci_program.specs.Program.{program}
use Rattle.sci_verdict.specs.Verdict.{Plan, Accepts, Breaks, plan_of}
use Rattle.sci_verdict.specs.declared.checked.Checked.{Checked}
use Rattle.sci_verdict.proofs.Verdicts.{given_is_net}
use Rattle.sci_answers.specs.Answer.{Answer, prints, no_memory}
use Rattle.sci_answers.specs.Code.{IsCode, IsCodeOf}
use Rattle.sci_answers.specs.Course.{diagram_slot, gives, reads}
use Rattle.sci_answers.specs.Defined.{IsDefinedCode, defined_course}
use Rattle.sci_words.specs.Words.{code}
use Rattle.sci_answers.specs.Due.{course_of}
use Rattle.sci_files.specs.Judged.{AcceptsChecked}
use Rattle.sci_files.specs.Look.{IsLooked}
use Rattle.sci_answers.specs.Coming.{ComesTo, ReachesTo}
use Rattle.sci_files.specs.declared.look.LookStop.{LookStop}
use Rattle.sci_files.proofs.Courses.{due_now, lacks_now, of_files}
use Rattle.sci_files.proofs.Looking.{first_passes}
use Rattle.sci_answers.proofs.Coded.{program_is_code}

pub is_code : (bytes : List ℕ) (c : Checked) (p : Whole) → AcceptsChecked bytes c → p ≡ program c.net (rows_of c.schedule) → IsCode c.net (rows_of c.schedule) p
is_code bytes c p accepted is =
    subst (λ (w : Whole). IsCode c.net (rows_of c.schedule) w) (sym is)
    (program_is_code c.net (rows_of c.schedule) (given_is_net bytes c.net accepted.given) accepted.planned.free accepted.planned.schedule)

-- ---- behind a diagram that passes

module _ (file : List ℕ) (old mid : FolderState) (c : Checked) (r : Result Checked LookStop) (is : r ≡ Ok c)
    (looked : IsLooked AcceptsChecked Breaks diagram_slot old mid file r) (kept : mid.files ≡ old.files) where
  behind_plan : (due : Plan → Answer → Type 0) (a : Answer) → ((bytes : List ℕ) → AcceptsChecked bytes c → ComesTo mid mid (gives (due (plan_of c))) a)
      → ReachesTo old mid (reads Plan diagram_slot file Accepts Breaks (λ p. gives (due p))) a
  behind_plan due a then =
      of_files old mid Plan diagram_slot file Accepts Breaks (λ p. gives (due p)) a
      (first_passes Plan diagram_slot file Accepts Breaks (λ p. gives (due p)) Checked AcceptsChecked old mid mid r c a is looked kept
      (λ bytes accepted. (plan_of c, accepted, then bytes accepted)))

  pub gives_code : (p : Whole) (a : Answer) → p ≡ program c.net (rows_of c.schedule) → a ≡ prints (spelling p) → ReachesTo old mid (course_of (code file)) a
  gives_code p a of told =
      behind_plan IsCodeOf a
      (λ bytes accepted. due_now mid (IsCodeOf (plan_of c)) a (record { code = p; is_code = is_code bytes c p accepted of; told = told }))

  pub lacks_code : ReachesTo old mid (course_of (code file)) no_memory
  lacks_code = behind_plan IsCodeOf no_memory (λ bytes accepted. lacks_now mid (gives (IsCodeOf (plan_of c))))

  -- the same of the text that is defined
  pub gives_defined : (p : Whole) (a : Answer) → p ≡ program c.net (rows_of c.schedule) → a ≡ prints (spelling p) → ReachesTo old mid (defined_course file) a
  gives_defined p a of told =
      behind_plan IsDefinedCode a (λ bytes accepted. due_now mid (IsDefinedCode (plan_of c)) a (told ∙ ap (λ (w : Whole). prints (spelling w)) of))

  pub lacks_defined : ReachesTo old mid (defined_course file) no_memory
  lacks_defined = behind_plan IsDefinedCode no_memory (λ bytes accepted. lacks_now mid (gives (IsDefinedCode (plan_of c))))
