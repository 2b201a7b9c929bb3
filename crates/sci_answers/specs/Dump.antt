-- `vcd`: the dump of a run.
use Rattle.std.specs.Prelude.{ℕ, ◌≡◌, List, [], ℤ}
use Rattle.sci_base.specs.declared.observation.Obs.{Obs}
use Rattle.sci_net.specs.Parts.{Parts}
use Rattle.sci_reaction.specs.Memory.{Columns}
use Rattle.sci_run.specs.Run.{IsRun}
use Rattle.sci_trace.specs.Lines.{stops}
use Rattle.sci_wave.specs.RunDump.{IsRunDump}
use Rattle.sci_answers.specs.Answer.{Answer}
use Rattle.sci_answers.specs.Simulate.{run_status}
use Rattle.sci_vcd.specs.Waveforms.{Waveforms}
use Rattle.sci_vcd.specs.Spelling.{spelling}
use Rattle.sci_verdict.specs.Verdict.{Plan}
use Rattle.sci_answers.specs.Course.{Course, gives}
use Rattle.sci_answers.specs.Inputs.{reads_run}

-- its text on out, and whether the run ends with a stop
abbrev pub dumped : Waveforms → List Obs → Answer
dumped w observed = record { out = spelling w; err = []; status = run_status (stops observed) }

-- it tells the dump of the net's run on these columns of the input file, up to the last date, of at most so many events
abbrev pub IsDumpAnswer : Parts → Columns → (until limit : ℕ) → Answer → Type 0
IsDumpAnswer n columns until limit a =
    (w : Waveforms) × IsRunDump n columns until limit w × (os : List Obs) × IsRun n columns until limit os × (a ≡ dumped w os)

-- what comes behind both files
abbrev pub gives_dump : (until limit : ℕ) → Plan → List (List ℤ) → Course
gives_dump until limit p columns = gives (λ a. IsDumpAnswer p.net columns until limit a)

-- a diagram and its input file are read
abbrev pub dump_course : (d i : List ℕ) (until limit : ℕ) → Course
dump_course d i until limit = reads_run d i (gives_dump until limit)
