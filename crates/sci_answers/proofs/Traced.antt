-- The traces of a net: each begins with the header of start, and tells by its last observation how the run is over.
use Rattle.std.proofs.Common.{◌≡◌, ◌≢◌, ℕ, ℤ, pos, List, [], ◌∷◌, ◌++◌, Bool, true, false, refl, sym, ◌∙◌, ap}
use Rattle.sci_base.specs.declared.observation.Obs.{Obs}
use Rattle.sci_base.specs.declared.observation.Obs.TheVariants.{Start, End, Stop}
use Rattle.sci_base.specs.declared.observation.EndWord.{EndWord}
use Rattle.sci_base.specs.declared.observation.StopWord.{StopWord}
use Rattle.sci_trace.specs.Lines.{line, text, last_after, is_stop, stops}
use Rattle.sci_net.specs.declared.Source.TheVariants.{Start as AtStart}
use Rattle.sci_net.specs.Parts.{Parts}
use Rattle.sci_reaction.specs.Memory.{Columns}
use Rattle.sci_net.specs.Sources.{source_of}
use Rattle.sci_run.specs.Observed.{blocks_seen, stop_seen}
use Rattle.sci_run.specs.Run.{State, first_state, ReactionOutcome, Leads, StopsWith, IsOutcome, Then, IsRest, IsRun}
use Rattle.sci_run.specs.Finish.{Ending, ByEnd, ByStop, Finish, ended, stopped, stopped_at_start}
use Rattle.sci_program.specs.Laws.{answer_by}
use Rattle.sci_answers.specs.Answer.{Answer}
use Rattle.sci_answers.specs.RunC.{c_ran}
use Rattle.sci_answers.specs.Simulate.{ran, run_status}

-- ---- what is observed first

begins : (n : Parts) (i : Columns) (until limit : ℕ) (os : List Obs) (o : ReactionOutcome) → IsOutcome n i 0 AtStart (first_state n) o → Then o (IsRest n i until limit) os
    → (rest : List Obs) × (os ≡ Start ∷ rest)
begins n i until limit os (Leads seen after) h then =
    (blocks_seen 1 n.specs h.values h.active ++ then.0, then.1 ∙ ap (λ (l : List Obs). l ++ then.0) h.observed)
begins n i until limit os (StopsWith seen) h then = (Stop h.word (pos h.block) (pos 0) ∷ [], then ∙ h.observed)

started_some : (os : List Obs) → text (Start ∷ os) ≢ []
unfolding line
started_some os = λ e. absurd (cc e)

pub trace_some : (n : Parts) (i : Columns) (until limit : ℕ) (os : List Obs) → IsRun n i until limit os → text os ≢ []
trace_some n i until limit os h =
    let first = begins n i until limit os h.outcome h.is h.goes_on in
    λ none. started_some first.0 (sym (ap text first.1) ∙ none)

-- ---- and last

last_one : (o last : Obs) (os : List Obs) → last_after o (os ++ last ∷ []) ≡ last
last_one o last [] = refl
last_one o last (p ∷ os) = last_one p last os

last_of_two : (o before last : Obs) (os : List Obs) → last_after o (os ++ before ∷ last ∷ []) ≡ last
last_of_two o before last [] = refl
last_of_two o before last (p ∷ os) = last_of_two p before last os

pub end_stops_not : (seen : List Obs) (word : EndWord) → stops (seen ++ End word ∷ []) ≡ false
end_stops_not [] word = refl
end_stops_not (o ∷ os) word = ap is_stop (last_one o (End word) os)

pub stop_stops : (seen : List Obs) (header : Obs) (word : StopWord) (block port : ℤ) → stops (seen ++ header ∷ Stop word block port ∷ []) ≡ true
stop_stops [] header word block port = refl
stop_stops (o ∷ os) header word block port = ap is_stop (last_of_two o header (Stop word block port) os)

unfoldable pub by_stop : Ending → Bool
by_stop (ByEnd word) = false
by_stop (ByStop block word) = true

pub finish_stops : (n : Parts) (i : Columns) (until limit : ℕ) {st : State} {how : Ending} {os : List Obs} → Finish n i until limit st how os → stops os ≡ by_stop how
unfolding by_stop
finish_stops n i until limit (ended st word seen reachable next) = end_stops_not seen word
finish_stops n i until limit (stopped st e block word seen reachable next result) = stop_stops seen _ word _ _
finish_stops n i until limit (stopped_at_start block word result) = refl

-- ---- the run of its C

abbrev made_answer : List Obs → ℕ → Answer
made_answer os status = record { out = text os; err = []; status = status }

-- a program that observes the trace and ends as the run does gives the same answer
pub ran_alike : (n : Parts) (i : Columns) (until limit : ℕ) {st : State} {how : Ending} {os : List Obs} → Finish n i until limit st how os → c_ran (record { seen = os; how = answer_by how }) ≡ ran os
ran_alike n i until limit (ended st word seen reachable next) = ap (λ (b : Bool). made_answer (seen ++ End word ∷ []) (run_status b)) (sym (end_stops_not seen word))
ran_alike n i until limit (stopped st e block word seen reachable next result) = ap (λ (b : Bool). made_answer (seen ++ stop_seen e.date (source_of n e.source) block word) (run_status b)) (sym (stop_stops seen _ word _ _))
ran_alike n i until limit (stopped_at_start block word result) = refl
