-- What the run of a whole program answers.
use Rattle.std.specs.Prelude.{◌≡◌, ℕ, Result, Ok, Err}
use Rattle.sci_io.specs.declared.sink.Failed.{Failed}
use Rattle.sci_io.specs.Taken.{SinkState, Writes}
use Rattle.sci_trace.specs.Lines.{text}
use Rattle.c_run.specs.declared.machine.Flow.{Flow}
use Rattle.c_run.specs.declared.machine.Flow.TheVariants as flows
use Rattle.c_run.specs.declared.start.CEnd.{CEnd}
use Rattle.c_run.specs.declared.start.CEnd.TheVariants as ends
use Rattle.c_run.specs.declared.start.RunStop.{RunStop}
use Rattle.c_run.specs.declared.start.RunStop.TheVariants as causes
use Rattle.c_mean.specs.Meaning.{How, going, undefined, over, halted, Ran, later}

-- reaching the end of sci_main ends a run like an end that is told
abbrev pub end_of : How → CEnd
end_of (going w) = ends.End
end_of (undefined n) = ends.Undefined n
end_of over = ends.End
end_of halted = ends.Stop

-- All observations were written, and the answer says how the run ended; where the sink failed, a front of their text was written;
-- without memory nothing was.
abbrev pub AnswersBy : SinkState → SinkState → Result CEnd RunStop → Ran → Type 0
AnswersBy old new (Ok e) ran = Writes {T = Unit {0}} {E = Unit {0}} old new (text ran.seen) (Ok tt) × (e ≡ end_of ran.how)
AnswersBy old new (Err causes.Failed) ran = Writes {T = Unit {0}} {E = Unit {0}} old new (text ran.seen) (Err tt)
AnswersBy old new (Err causes.Memory) ran = new ≡ old

pub record Answers (old new : SinkState) (result : Result CEnd RunStop) (ran : Ran) : Type 0 where
  pub by : AnswersBy old new result ran

-- the answer of statements that were left so, the first of which has number n
abbrev pub answer_of : ℕ → Result Flow Failed → Result CEnd RunStop
answer_of n (Ok flows.Going) = Ok ends.End
answer_of n (Ok (flows.Undefined k)) = Ok (ends.Undefined (later n k))
answer_of n (Ok (flows.UndefinedInCall m)) = Ok (ends.Undefined m)
answer_of n (Ok flows.Over) = Ok ends.End
answer_of n (Ok flows.Halted) = Ok ends.Stop
answer_of n (Err e) = Err causes.Failed
