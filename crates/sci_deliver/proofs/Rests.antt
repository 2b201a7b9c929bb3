-- What is written of a run that is saved, and of one that goes on.
use Rattle.std.proofs.Common.{◌≡◌, ◌≢◌, ◌-◌, ℕ, pos, List, [], ◌∷◌, ◌++◌, refl, sym, ◌∙◌, ap, Result}
use Rattle.sci_base.specs.declared.observation.Obs.{Obs}
use Rattle.sci_base.specs.declared.observation.Obs.TheVariants as seen
use Rattle.sci_io.specs.Taken.{SinkState}
use Rattle.sci_io.specs.declared.sink.Failed.{Failed}
use Rattle.sci_trace.specs.Lines.{line, text, stops}
use Rattle.sci_net.specs.Parts.{Parts}
use Rattle.sci_net.specs.Sources.{source_of}
use Rattle.sci_reaction.specs.Memory.{Columns}
use Rattle.sci_run.specs.Observed.{header}
use Rattle.sci_run.specs.Run.{State, IsRest}
use Rattle.sci_bank.specs.Bank.{Meaning}
use Rattle.sci_save.specs.Saved.{Saved, saved_of}
use Rattle.sci_save.specs.Text.{saved_text}
use Rattle.sci_save.specs.Resumed.{state_of}
use Rattle.sci_resume.proofs.Behind.{Begins, over, headed, rest_begins}
use Rattle.sci_sim.specs.At.{Running}
use Rattle.sci_sim.specs.Rest.{IsRestFinished}
use Rattle.sci_sim.specs.declared.end.RunEnd.{RunEnd}
use Rattle.sci_sim.specs.declared.end.RunEnd.TheVariants.{End as Ended, Stop as Stopped}
use Rattle.sci_answers.specs.Answer.{Answer}
use Rattle.sci_answers.specs.Simulate.{ran}
use Rattle.sci_deliver.specs.Deliver.{is_stopped, PrintsRest, Finished}
use Rattle.sci_answers.specs.Resume.{IsRestOf}
use Rattle.sci_answers.specs.Written.{Written}
use Rattle.sci_answers.specs.declared.prepared.ResumedRun.{ResumedRun}
use Rattle.sci_deliver.proofs.Giving.{ran_written}
use Rattle.sci_answers.proofs.Traced.{end_stops_not, stop_stops}

pub saved_some : (n : Parts) (m : Saved) → saved_text n m ≢ []
unfolding saved_text
saved_some n m = λ e. absurd (cc e)

line_some : (o : Obs) (more : List ℕ) → line o ++ more ≢ []
unfolding line
line_some seen.Start more = λ e. absurd (cc e)
line_some (seen.Event date block port) more = λ e. absurd (cc e)
line_some (seen.Val block port element value) more = λ e. absurd (cc e)
line_some (seen.End word) more = λ e. absurd (cc e)
line_some (seen.Stop word block port) more = λ e. absurd (cc e)

begins_some : (os : List Obs) → Begins os → text os ≢ []
begins_some os (over word is) = λ none. line_some (seen.End word) [] (sym (ap text is) ∙ none)
begins_some os (headed h) = λ none. line_some h.header_of (text h.later) (sym (ap text h.begins) ∙ none)

rest_some : (n : Parts) (i : Columns) (until limit : ℕ) (st : State) (os : List Obs) → IsRest n i until limit st os → text os ≢ []
rest_some n i until limit st os h = begins_some os (rest_begins n i until (limit - st.fired) st os h)

pub rest_written : (s : ResumedRun) (out out' err err' : SinkState) (answer : ℕ) (r : Result RunEnd Failed) → PrintsRest s out out' r → Finished r err err' answer
    → (a : Answer) × IsRestOf s.run.ready.fixed.net s.run.inputs s.run.until s.run.limit (saved_of s.image) a × Written a out out' err err' answer
rest_written s out out' err err' answer r p h =
    let some = rest_some s.run.ready.fixed.net s.run.inputs s.run.until s.run.limit (state_of (saved_of s.image)) p.0 p.1 in
    (ran p.0, (p.0, p.1, refl), ran_written (text p.0) (stops p.0) out out' err err' answer r some p.2 h)

pub rest_stops : (i : Columns) (until limit : ℕ) (from : State) (r : Running) (banks : List Meaning) (os : List Obs) (end : RunEnd) → IsRestFinished i until limit from r banks os end → stops os ≡ is_stopped end
rest_stops i until limit from r banks os (Ended word) h = ap stops h.observed ∙ end_stops_not h.seen word
rest_stops i until limit from r banks os (Stopped word) h =
    let both : os ≡ h.before ++ (header h.e.date (source_of r.fixed.net h.e.source) ∷ seen.Stop word (pos h.stopped.block) (pos 0) ∷ []) = h.observed ∙ ap (λ (l : List Obs). h.before ++ l) h.stopped.observed in
    ap stops both ∙ stop_stops h.before (header h.e.date (source_of r.fixed.net h.e.source)) word (pos h.stopped.block) (pos 0)
