-- `judge`: the verdict on a file that is to be a trace.
use Rattle.std.specs.Prelude.{ℕ, ◌≡◌, List, [], ◌++◌, codes, decimal, ℤ}
use Rattle.sci_base.specs.Plain.{Violation}
use Rattle.sci_base.specs.declared.observation.Obs.{Obs}
use Rattle.sci_net.specs.Parts.{Parts}
use Rattle.sci_reaction.specs.Memory.{Columns}
use Rattle.sci_run.specs.Run.{IsRun}
use Rattle.sci_trace.specs.Lines.{text}
use Rattle.sci_agree.specs.declared.verdict.Verdict.{Verdict}
use Rattle.sci_agree.specs.declared.verdict.Verdict.TheVariants.{Yes, No}
use Rattle.sci_agree.specs.Verdict.{IsVerdict}
use Rattle.sci_answers.specs.Answer.{Answer}
use Rattle.sci_verdict.specs.Verdict.{Plan}
use Rattle.sci_answers.specs.Course.{third_slot, Course, gives, reads}
use Rattle.sci_answers.specs.Inputs.{reads_run}

-- Yes with how many lines there are, or No with the first that differs
unfoldable pub verdict_line : Verdict → List ℕ
verdict_line (Yes lines) = codes "yes " ++ (decimal lines ++ codes "\n")
verdict_line (No line) = codes "no " ++ (decimal line ++ codes "\n")

abbrev pub verdict_status : Verdict → ℕ
verdict_status (Yes lines) = 0
verdict_status (No line) = 8

abbrev pub judged : Verdict → Answer
judged v = record { out = verdict_line v; err = []; status = verdict_status v }

-- it tells the verdict on a file against the trace of the net on these columns
abbrev pub IsJudgementOf : Parts → Columns → (until limit : ℕ) → (file : List ℕ) → Answer → Type 0
IsJudgementOf n i until limit file a = (os : List Obs) × IsRun n i until limit os × (v : Verdict) × IsVerdict (text os) file v × (a ≡ judged v)

-- ---- the file, which breaks no rule

abbrev pub IsText : List ℕ → List ℕ → Type 0
IsText bytes made = made ≡ bytes

abbrev pub BreaksNothing : List ℕ → Violation → Type 0
BreaksNothing bytes v = ⊥

-- the file that is judged
abbrev pub reads_trace : (v : List ℕ) → (until limit : ℕ) → Plan → List (List ℤ) → Course
reads_trace v until limit p columns = reads (List ℕ) third_slot v IsText BreaksNothing (λ file. gives (IsJudgementOf p.net columns until limit file))

-- and before it a diagram and its input file
abbrev pub judge_course : (d i v : List ℕ) (until limit : ℕ) → Course
judge_course d i v until limit = reads_run d i (reads_trace v until limit)
