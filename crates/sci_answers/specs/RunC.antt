-- `crun`: a run of a C file, by the meaning of the subset.
use Rattle.std.specs.Prelude.{ℕ, List, [], ◌++◌, codes, decimal, ◌≡◌, pos, ◌∷◌}
use Rattle.sci_trace.specs.Lines.{text}
use Rattle.c_run.specs.declared.start.CEnd.{CEnd}
use Rattle.c_run.specs.declared.start.CEnd.TheVariants.{End, Stop, Undefined}
use Rattle.c_mean.specs.Meaning.{Ran, meaning}
use Rattle.c_run.specs.Answering.{end_of}
use Rattle.sci_answers.specs.Answer.{Answer}
use Rattle.sci_base.specs.Plain.{Violation}
use Rattle.sci_base.specs.declared.refusal.Rule.TheVariants.{NotC}
use Rattle.c_ast.specs.Syntax.{Whole}
use Rattle.c_read.specs.Answers.{IsAccepted, IsRefused}
use Rattle.sci_answers.specs.Course.{Course, gives, c_slot, reads}
use Rattle.sci_answers.specs.Inputs.{behind_inputs}

-- where a C program has no meaning
unfoldable pub undefined_line : ℕ → List ℕ
undefined_line statement = codes "undefined at " ++ (decimal statement ++ codes "\n")

abbrev pub c_status : CEnd → ℕ
c_status End = 0
c_status Stop = 6
c_status (Undefined statement) = 7

abbrev pub c_err : CEnd → List ℕ
c_err End = []
c_err Stop = []
c_err (Undefined statement) = undefined_line statement

-- what a C program observes on out, and how it ends
abbrev pub c_ran : Ran → Answer
c_ran r = record { out = text r.seen; err = c_err (end_of r.how); status = c_status (end_of r.how) }

-- this byte of the file is blamed
abbrev pub not_c : ℕ → Violation
not_c byte = record { rule = NotC; place = []; detail = pos byte ∷ [] }

-- the bytes spell this program of the subset
abbrev pub AcceptsC : List ℕ → Whole → Type 0
AcceptsC bytes program = IsAccepted bytes program

-- they spell none
pub record BreaksC (bytes : List ℕ) (v : Violation) : Type 0 where
  pub byte : ℕ
  pub blamed : IsRefused bytes byte
  pub told : v ≡ not_c byte

-- behind a C file, whose program needs no column
abbrev pub behind_program : List ℕ → (until limit : ℕ) → Whole → Course
behind_program i until limit program = behind_inputs i [] (λ columns. gives (λ a. a ≡ c_ran (meaning program columns (pos until) (pos limit))))

-- a C file and an input file are read
abbrev pub run_c_course : (c i : List ℕ) (until limit : ℕ) → Course
run_c_course c i until limit = reads Whole c_slot c AcceptsC BreaksC (behind_program i until limit)
