-- What the steps of writing leave on a sink.
use Rattle.std.specs.Prelude.{ℕ, ◌≡◌, ◌≢◌, ◌⊎◌, List, [], Result, Ok, Err, Option, Some, None, Bool, true, false}
use Rattle.sci_base.specs.declared.observation.Obs.{Obs}
use Rattle.sci_io.specs.Taken.{SinkState}
use Rattle.sci_io.specs.declared.sink.Failed.{Failed}
use Rattle.sci_run.specs.Run.{IsRest, IsRun}
use Rattle.sci_save.specs.Saved.{saved_of}
use Rattle.sci_save.specs.Resumed.{state_of}
use Rattle.sci_sim.specs.declared.end.RunEnd.{RunEnd}
use Rattle.sci_sim.specs.declared.end.RunEnd.TheVariants.{End as Ended, Stop as Stopped}
use Rattle.sci_trace.specs.Lines.{text, stops}
use Rattle.sci_vcd.specs.Waveforms.{Waveforms}
use Rattle.sci_vcd.specs.Spelling.{spelling}
use Rattle.sci_wave.specs.RunDump.{IsRunDump}
use Rattle.sci_answers.specs.Answer.{Answer, write_fault_line, no_memory_line, no_memory}
use Rattle.sci_answers.specs.RunC.{undefined_line}
use Rattle.sci_answers.specs.Simulate.{run_status}
use Rattle.sci_answers.specs.Written.{Took, Cut, Given, CutShort, Written}
use Rattle.sci_answers.specs.Prepared.{IsAnswerOf, MayLack}
use Rattle.sci_answers.specs.declared.prepared.Prepared.{Prepared}
use Rattle.sci_answers.specs.declared.prepared.ResumedRun.{ResumedRun}
use Rattle.sci_answers.specs.declared.prepared.Simulation.{Simulation}
use Rattle.c_mean.specs.Meaning.{Ran as Observed}
use Rattle.c_run.specs.Answering.{end_of}
use Rattle.c_run.specs.declared.start.CEnd.{CEnd}
use Rattle.c_run.specs.declared.start.CEnd.TheVariants as ends
use Rattle.c_run.specs.declared.start.RunStop.{RunStop}
use Rattle.c_run.specs.declared.start.RunStop.TheVariants as causes

-- a text was written and flushed, or the sink failed
abbrev pub Gives : {T E : Type 0} → SinkState → SinkState → List ℕ → Result T E → Type 0
Gives old new text (Ok _) = Took old new text
Gives old new text (Err _) = Cut old new text

-- some text was said on err with this status, or err failed
abbrev pub Said : ℕ → List ℕ → SinkState → SinkState → ℕ → Type 0
Said status text err err' answer = (text ≢ []) × (((answer ≡ status) × Took err err' text) ⊎ ((answer ≡ 4) × Cut err err' text))

abbrev pub is_stopped : RunEnd → Bool
is_stopped (Ended word) = false
is_stopped (Stopped word) = true

-- a run was printed on out by this text, and stopped or not, or out failed
abbrev pub RanAs : List ℕ → (stopped : Bool) → SinkState → SinkState → Result RunEnd Failed → Type 0
RanAs t stopped out out' (Ok end) = (is_stopped end ≡ stopped) × Took out out' t
RanAs t stopped out out' (Err _) = Cut out out' t

-- the same of a simulation, with some trace of its net
abbrev pub PrintsTrace : Simulation → SinkState → SinkState → Result RunEnd Failed → Type 0
PrintsTrace s out out' r = (os : List Obs) × IsRun s.ready.fixed.net s.inputs s.until s.limit os × RanAs (text os) (stops os) out out' r

-- or with the dump of its run
abbrev pub PrintsDump : Simulation → SinkState → SinkState → Result RunEnd Failed → Type 0
PrintsDump s out out' r =
    (w : Waveforms) × IsRunDump s.ready.fixed.net s.inputs s.until s.limit w × (os : List Obs)
    × IsRun s.ready.fixed.net s.inputs s.until s.limit os × RanAs (spelling w) (stops os) out out' r

-- a run that goes on was printed, with some rest of its trace
abbrev pub PrintsRest : ResumedRun → SinkState → SinkState → Result RunEnd Failed → Type 0
PrintsRest s out out' r =
    (os : List Obs) × IsRest s.run.ready.fixed.net s.run.inputs s.run.until s.run.limit (state_of (saved_of s.image)) os × RanAs (text os) (stops os) out out' r

-- after a run: its status; after a failure of out a write fault put on err
abbrev pub Finished : Result RunEnd Failed → SinkState → SinkState → ℕ → Type 0
Finished (Ok end) err err' answer = (answer ≡ run_status (is_stopped end)) × (err' ≡ err)
Finished (Err _) err err' answer = Said 4 write_fault_line err err' answer

-- a C program was run on out, which was flushed; where memory lacked, out is as it was
abbrev pub RunsOut : Observed → SinkState → SinkState → Result CEnd RunStop → Type 0
RunsOut r out out' (Ok end) = (end ≡ end_of r.how) × Took out out' (text r.seen)
RunsOut r out out' (Err causes.Failed) = Cut out out' (text r.seen)
RunsOut r out out' (Err causes.Memory) = out' ≡ out

-- a C program was run; where it observes nothing, or memory lacked, out is as it was
abbrev pub RanC : Observed → SinkState → SinkState → Result CEnd RunStop → Type 0
RanC r out out' (Ok end) = (end ≡ end_of r.how) × Given out out' (text r.seen)
RanC r out out' (Err causes.Failed) = CutShort out out' (text r.seen)
RanC r out out' (Err causes.Memory) = out' ≡ out

-- how a C program ends that observes nothing, or that it observes something; or want of memory
abbrev pub IsSilence : {E : Type 0} → Observed → Result (Option CEnd) E → Type 0
IsSilence r (Ok (Some end)) = (text r.seen ≡ []) × (end ≡ end_of r.how)
IsSilence r (Ok None) = text r.seen ≢ []
IsSilence r (Err _) = Unit {0}

-- after such a run: its status; where it has no meaning, or out failed, or memory lacked, a line put on err
abbrev pub FinishedC : Result CEnd RunStop → SinkState → SinkState → ℕ → Type 0
FinishedC (Ok ends.End) err err' answer = (answer ≡ 0) × (err' ≡ err)
FinishedC (Ok ends.Stop) err err' answer = (answer ≡ 6) × (err' ≡ err)
FinishedC (Ok (ends.Undefined statement)) err err' answer = Said 7 (undefined_line statement) err err' answer
FinishedC (Err causes.Failed) err err' answer = Said 4 write_fault_line err err' answer
FinishedC (Err causes.Memory) err err' answer = Said 5 no_memory_line err err' answer

-- what a prepared command writes: an answer; or, where memory may lack when it begins, that it does
abbrev pub Delivers : Prepared → SinkState → SinkState → SinkState → SinkState → ℕ → Type 0
Delivers p out out' err err' status =
    ((a : Answer) × IsAnswerOf p a × Written a out out' err err' status) ⊎ (MayLack p × Written no_memory out out' err err' status)
