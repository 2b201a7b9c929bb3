-- What is due of `ranges` holds of what is due of `simulate`, and of `crun` on the C of the diagram.
use Rattle.std.proofs.Common.{◌≡◌, ◌≤◌, ℕ, Bool, true, false, List, [], ◌∷◌, None, length, inl, inr, refl, subst}
use Rattle.sci_base.specs.declared.observation.Obs.{Obs}
use Rattle.sci_io.specs.Files.{Files}
use Rattle.sci_needs.specs.Needs.{needs_of}
use Rattle.sci_needs.proofs.Sensors.{needs_exact}
use Rattle.sci_needs.proofs.Columns.{columns_in_range}
use Rattle.sci_reaction.specs.Memory.{Columns, AreColumns}
use Rattle.sci_run.specs.Run.{IsRun}
use Rattle.sci_run.proofs.Traces.{some_trace}
use Rattle.sci_verdict.specs.Verdict.{Plan, Accepts}
use Rattle.sci_verdict.proofs.Verdicts.{one_verdict, given_is_net}
use Rattle.sci_words.specs.Words.{simulate, code}
use Rattle.sci_answers.specs.Answer.{Answer, IsDone}
use Rattle.sci_answers.specs.Course.{DueOn}
use Rattle.sci_answers.specs.Due.{course_of as command_course}
use Rattle.sci_answers.specs.Inputs.{AcceptsColumns, behind_inputs}
use Rattle.sci_answers.specs.Simulate.{ran, run_status}
use Rattle.sci_trace.specs.Lines.{stops}
use Rattle.sci_command_laws.specs.Ran.{AreAnswers, IsGenerated}
use Rattle.sci_command_laws.proofs.RunsAlike.{due_course, no_refusal, is_simulated, code_runs_only_so}
use Rattle.sci_ranges.specs.Closed.{IsClosed}
use Rattle.sci_ranges.specs.Table.{Table}
use Rattle.sci_range_commands.specs.Due.{Due as DueOfRanges, IsRangesOf, gives_ranges, course_of, files_of}
use Rattle.sci_range_command_laws.specs.Told.{AreTold}
use Rattle.sci_range_command_laws.specs.Answers.{IsRanged, KeepsWithin, IsWithin, SimulatedIsWithin, CodeIsWithin}
use Rattle.sci_range_command_laws.proofs.Going.{runs_are_told}
use Rattle.sci_range_command_laws.proofs.Safe.{safe_has_no_faults, told_safe}

-- ---- what is due of `ranges`

-- of a plan the input file's columns, and a table that is told of them
pub record IsRangedAt (p : Plan) (inputs : List ℕ) (ranged : Answer) : Type 0 where
  pub columns : Columns
  pub read : AcceptsColumns (needs_of p.net) inputs columns
  pub some : IsRangesOf p.net columns ranged

record IsRangedOf (diagram inputs : List ℕ) (ranged : Answer) : Type 0 where
  pub plan : Plan
  pub accepted : Accepts diagram plan
  pub ranged_at : IsRangedAt plan inputs ranged

ranged_on : (files : Files) (i inputs : List ℕ) (names : List (List ℕ)) (a : Answer) (p : Plan) → a.status ≡ 0 → DueOn files (behind_inputs i (needs_of p.net) (gives_ranges p)) (inputs ∷ []) names a
    → IsRangedAt p inputs a
ranged_on files i inputs names a p done (holds, inl h) = absurd (no_refusal a h.0 (inl done) h.2)
ranged_on files i inputs names a p done (holds, inr h) = record { columns = h.0; read = h.1.1; some = h.4.0 }

ranged_by : (files : Files) (d i diagram inputs : List ℕ) (names : List (List ℕ)) (a : Answer) → a.status ≡ 0 → DueOn files (course_of d i) (diagram ∷ inputs ∷ []) names a → IsRangedOf diagram inputs a
ranged_by files d i diagram inputs names a done (holds, inl h) = absurd (no_refusal a h.0 (inl done) h.2)
ranged_by files d i diagram inputs names a done (holds, inr h) = record { plan = h.0; accepted = h.1.1; ranged_at = ranged_on files i inputs h.2 a h.0 done h.4 }

ranged_due : (files : Files) (d i diagram inputs : List ℕ) (names : List (List ℕ)) (a : Answer) → a.status ≡ 0 → DueOfRanges files (files_of d i) (diagram ∷ inputs ∷ []) names a
    → IsRangedOf diagram inputs a
ranged_due files d i diagram inputs names a done (inl h) = absurd (h.0 d i refl)
ranged_due files d i diagram inputs names a done (inr h) = ranged_by files h.0 h.1 diagram inputs names a done h.3

-- with the plan of the diagram
pub its_ranges : (diagram inputs : List ℕ) (ranged : Answer) (p : Plan) → IsRanged diagram inputs ranged → Accepts diagram p → IsRangedAt p inputs ranged
its_ranges diagram inputs ranged p h accepted =
    let r = ranged_due h.files h.d h.i diagram inputs h.names ranged h.done h.due in
    let same : r.plan ≡ p = one_verdict.one_made diagram r.plan p r.accepted accepted in
    subst (λ (q : Plan). IsRangedAt q inputs ranged) same r.ranged_at

-- ---- what it says of a run

-- where each closed table tells what is observed, the answer is within what is told
pub within_by : (diagram inputs : List ℕ) (ranged answer : Answer) (p : Plan) (os : List Obs) → Accepts diagram p → (r : IsRangedAt p inputs ranged) → answer ≡ ran os
    → ((t : Table) → IsClosed p.net r.columns t → AreTold p.net t os) → IsWithin diagram inputs ranged answer
within_by diagram inputs ranged answer p os accepted r is told = record {
  plan = p;
  accepted = accepted;
  columns = r.columns;
  read = r.read;
  observed = os;
  ran_so = is;
  some = r.some;
  told = λ s. told s.table s.closed;
  safe = λ s. safe_has_no_faults p.net r.some.table os (told_safe p.net r.columns ranged r.some s) (told r.some.table r.some.closed);
}

-- the columns that were read are in range
pub in_range : (inputs : List ℕ) (p : Plan) (columns : Columns) → AcceptsColumns (needs_of p.net) inputs columns → AreColumns p.net columns
in_range inputs p columns read = columns_in_range p.net inputs columns (needs_exact p.net) read

run_within : (diagram inputs others : List ℕ) (ranged answer : Answer) (p : Plan) (j : Columns) (until limit : ℕ) (os : List Obs) → IsRanged diagram inputs ranged → KeepsWithin diagram inputs others
    → Accepts diagram p → AcceptsColumns (needs_of p.net) others j → IsRun p.net j until limit os → answer ≡ ran os → IsWithin diagram inputs ranged answer
run_within diagram inputs others ranged answer p j until limit os h keeps accepted read run is =
    let r = its_ranges diagram inputs ranged p h accepted in
    within_by diagram inputs ranged answer p os accepted r is
    (λ t closed. runs_are_told p.net r.columns j t until limit os (given_is_net diagram p.net accepted.given) accepted.planned.free (in_range inputs p r.columns r.read) closed
    (keeps p r.columns j accepted r.read read) run)

-- ---- `simulate`

pub simulated_is_within : SimulatedIsWithin
simulated_is_within files d j until limit diagram inputs others ranged simulated h keeps s =
    let course = due_course files (simulate d j until limit) (diagram ∷ others ∷ []) s.names simulated (s.until_within, s.limit_within) s.due in
    let run = is_simulated files d j until limit diagram others s.names simulated s.done course in
    run_within diagram inputs others ranged simulated run.plan run.columns until limit run.trace.0 h keeps run.accepted run.read run.trace.1 run.trace.2

-- ---- `crun` on the C

-- the diagram's bytes are no more than its file may have
short_diagram : (files : Files) (d diagram : List ℕ) (names : List (List ℕ)) (a : Answer) → a.status ≡ 0 → DueOn files (command_course (code d)) (diagram ∷ []) names a → length diagram ≤ 16777216
short_diagram files d diagram names a done (holds, inl h) = absurd (no_refusal a h.0 (inl done) h.2)
short_diagram files d diagram names a done (holds, inr h) = h.1.0

run_is_done : (os : List Obs) → IsDone (ran os).status
run_is_done os = by (stops os)
  where
    by : (stopped : Bool) → IsDone (run_status stopped)
    by false = inl refl
    by true = inr (inl refl)

-- what is due of `simulate` where this is due of `ccode`
its_answers : (d i : List ℕ) (until limit : ℕ) (diagram inputs : List ℕ) (coded : Answer) (h : IsGenerated d until limit diagram inputs coded) (os : List Obs) → IsRun h.plan.net h.columns until limit os
    → AreAnswers d i until limit diagram inputs (ran os) coded
its_answers d i until limit diagram inputs coded h os run =
    let brief = short_diagram h.code_files d diagram h.code_names coded h.written (due_course h.code_files (code d) (diagram ∷ []) h.code_names coded tt h.code_due) in
    record {
      until_within = h.until_within;
      limit_within = h.limit_within;
      files = None;
      names = d ∷ i ∷ [];
      due = inr (
        simulate d i until limit,
        (refl, (h.until_within, h.limit_within)),
        (tt, inr (h.plan, (brief, h.accepted), i ∷ [], refl, (tt, inr (h.columns, (h.inputs_short, h.read), [], refl, ((os, run, refl), refl))))),
      );
      done = run_is_done os;
      code_files = h.code_files;
      code_names = h.code_names;
      code_due = h.code_due;
      written = h.written;
      short = h.short;
    }

pub code_is_within : CodeIsWithin
code_is_within d c j until limit diagram inputs others ranged coded answer files names h keeps g due =
    let net = g.plan.net in
    let trace = some_trace net g.columns (given_is_net diagram net g.accepted.given) g.accepted.planned.free until limit in
    let same = code_runs_only_so d j c j until limit diagram others (ran trace.0) coded answer files names (its_answers d j until limit diagram others coded g trace.0 trace.1) due in
    run_within diagram inputs others ranged answer g.plan g.columns until limit trace.0 h keeps g.accepted g.read trace.1 same
