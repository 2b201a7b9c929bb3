-- `simulate`: the trace of a run.
use Rattle.std.specs.Prelude.{ℕ, ◌≡◌, List, [], Bool, true, false, ℤ}
use Rattle.sci_base.specs.declared.observation.Obs.{Obs}
use Rattle.sci_trace.specs.Lines.{text, stops}
use Rattle.sci_net.specs.Parts.{Parts}
use Rattle.sci_reaction.specs.Memory.{Columns}
use Rattle.sci_run.specs.Run.{IsRun}
use Rattle.sci_answers.specs.Answer.{Answer}
use Rattle.sci_verdict.specs.Verdict.{Plan}
use Rattle.sci_answers.specs.Course.{Course, gives}
use Rattle.sci_answers.specs.Inputs.{reads_run}

-- the status of a run, which may stop
abbrev pub run_status : Bool → ℕ
run_status false = 0
run_status true = 6

-- the text of a trace on out, and whether it ends with a stop
abbrev pub ran : List Obs → Answer
ran observed = record { out = text observed; err = []; status = run_status (stops observed) }

-- it tells a trace of the net on these columns of the input file, up to the last date, of at most so many events
abbrev pub IsTraceOf : Parts → Columns → (until limit : ℕ) → Answer → Type 0
IsTraceOf n columns until limit a = (os : List Obs) × IsRun n columns until limit os × (a ≡ ran os)

-- what comes behind both files
abbrev pub gives_trace : (until limit : ℕ) → Plan → List (List ℤ) → Course
gives_trace until limit p columns = gives (λ a. IsTraceOf p.net columns until limit a)

-- a diagram and its input file are read
abbrev pub simulate_course : (d i : List ℕ) (until limit : ℕ) → Course
simulate_course d i until limit = reads_run d i (gives_trace until limit)
