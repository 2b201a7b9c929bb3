-- A run that was saved goes on as the whole run does.
use Rattle.std.proofs.Common.{◌≡◌, ◌≤◌, ◌^◌, ℕ, ℤ, List, [], ◌∷◌, ◌++◌, inl, inr, refl, sym, ◌∙◌, ap, subst, arith, Bool, length}
use Rattle.sci_base.specs.Plain.{Violation}
use Rattle.sci_base.specs.declared.observation.Obs.{Obs}
use Rattle.sci_io.specs.Files.{Files}
use Rattle.sci_trace.specs.Lines.{text, last_after, is_stop, stops}
use Rattle.sci_needs.specs.Needs.{needs_of}
use Rattle.sci_needs.proofs.Sensors.{needs_exact}
use Rattle.sci_needs.proofs.Columns.{columns_in_range}
use Rattle.sci_net.specs.Parts.{Parts}
use Rattle.sci_net.specs.Net.{IsNet}
use Rattle.sci_reaction.specs.Memory.{Columns, AreColumns}
use Rattle.sci_run.specs.Laws.{AreLoopFree}
use Rattle.sci_run.specs.Run.{IsRun}
use Rattle.sci_run.proofs.Traces.{some_rest}
use Rattle.sci_run.proofs.Unique.{one_trace}
use Rattle.sci_save.specs.Blame.{Spells}
use Rattle.sci_save.specs.Bounds.{AreShort}
use Rattle.sci_save.specs.Saved.{Saved}
use Rattle.sci_save.specs.Text.{saved_text}
use Rattle.sci_save.specs.Resumed.{state_of}
use Rattle.sci_save.proofs.Blaming.{one_spelled}
use Rattle.sci_save.proofs.Short.{saved_is_short}
use Rattle.sci_resume.specs.Behind.{IsSavedBehind}
use Rattle.sci_resume.specs.Laws.{AreParted}
use Rattle.sci_resume.proofs.Behind.{saved_is_valid, run_goes_on}
use Rattle.sci_store.proofs.Writing.{text-append}
use Rattle.sci_verdict.specs.Verdict.{Plan, Accepts, Breaks}
use Rattle.sci_verdict.proofs.Verdicts.{one_verdict, given_is_net}
use Rattle.sci_answers.specs.Inputs.{AcceptsColumns, BreaksColumns, behind_inputs}
use Rattle.sci_answers.specs.Answer.{Answer, IsDone}
use Rattle.sci_answers.specs.Simulate.{ran, run_status, IsTraceOf}
use Rattle.sci_answers.specs.Course.{Holds, diagram_slot, inputs_slot, Fails, DueOn}
use Rattle.sci_words.specs.Words.{simulate, save, resume, spelled}
use Rattle.sci_answers.specs.Due.{course_of, Due}
use Rattle.sci_answers.specs.Save.{IsSaveOf, saves, ended, gives_save}
use Rattle.sci_answers.specs.Resume.{BreaksSaved, IsRestOf, reads_saved}
use Rattle.sci_command_laws.specs.Resumed.{IsSavedRun, IsRestBehind, ResumesAlike, ResumeIsDue}
use Rattle.sci_answers.proofs.Ends.{status-is, out-is}
use Rattle.sci_command_laws.proofs.OneAnswer.{no_both, one_columns}
use Rattle.sci_command_laws.proofs.RunsAlike.{due_course, no_refusal, IsSimulated, is_simulated}
use Rattle.sci_command_laws.proofs.ShortColumns.{columns_short}

-- ---- what is due of `save`

-- the files' bytes pass, and this is saved
pub record IsStored (until limit k : ℕ) (diagram inputs : List ℕ) (a : Answer) : Type 0 where
  pub plan : Plan
  pub diagram_short : length diagram ≤ 16777216
  pub accepted : Accepts diagram plan
  pub columns : List (List ℤ)
  pub inputs_short : length inputs ≤ 16777216
  pub read : AcceptsColumns (needs_of plan.net) inputs columns
  pub stored : Saved
  pub behind : IsSavedBehind plan.net columns until limit k stored
  pub told : a.out ≡ saved_text plan.net stored

stored_by : (until limit k : ℕ) (diagram inputs : List ℕ) (a : Answer) (p : Plan) (columns : List (List ℤ)) → length diagram ≤ 16777216 → Accepts diagram p → length inputs ≤ 16777216
    → AcceptsColumns (needs_of p.net) inputs columns → a.status ≡ 0 → IsSaveOf p.net columns until limit k a → IsStored until limit k diagram inputs a
stored_by until limit k diagram inputs a p columns dshort accepted ishort read done (saves m h told) = record {
  plan = p;
  diagram_short = dshort;
  accepted = accepted;
  columns = columns;
  inputs_short = ishort;
  read = read;
  stored = m;
  behind = h;
  told = out-is told;
}
stored_by until limit k diagram inputs a p columns dshort accepted ishort read done (ended count h told) = absurd (no_refusal a _ (inl done) told)

stored_on : (files : Files) (i : List ℕ) (until limit k : ℕ) (diagram inputs : List ℕ) (names : List (List ℕ)) (a : Answer) (p : Plan) → length diagram ≤ 16777216 → Accepts diagram p → a.status ≡ 0
    → DueOn files (behind_inputs i (needs_of p.net) (gives_save until limit k p)) (inputs ∷ []) names a → IsStored until limit k diagram inputs a
stored_on files i until limit k diagram inputs names a p short accepted done (holds, inl h) = absurd (no_refusal a h.0 (inl done) h.2)
stored_on files i until limit k diagram inputs names a p short accepted done (holds, inr h) = stored_by until limit k diagram inputs a p h.0 short accepted h.1.0 h.1.1 done h.4.0

pub is_stored : (files : Files) (d i : List ℕ) (until limit k : ℕ) (diagram inputs : List ℕ) (names : List (List ℕ)) (a : Answer) → a.status ≡ 0
    → DueOn files (course_of (save d i until limit k)) (diagram ∷ inputs ∷ []) names a → IsStored until limit k diagram inputs a
is_stored files d i until limit k diagram inputs names a done (holds, inl h) = absurd (no_refusal a h.0 (inl done) h.2)
is_stored files d i until limit k diagram inputs names a done (holds, inr h) = stored_on files i until limit k diagram inputs h.2 a h.0 h.1.0 h.1.1 done h.4

stored_in : (d i : List ℕ) (until limit k : ℕ) (diagram inputs : List ℕ) (simulated saved : Answer) → IsSavedRun d i until limit k diagram inputs simulated saved → IsStored until limit k diagram inputs saved
stored_in d i until limit k diagram inputs simulated saved h =
    is_stored h.save_files d i until limit k diagram inputs h.save_names saved h.written
    (due_course h.save_files (save d i until limit k) _ h.save_names saved (h.until_within, h.limit_within, h.least, h.most) h.save_due)

-- ---- it may be read again

module _ (until limit k : ℕ) (diagram inputs : List ℕ) (saved : Answer) (t : IsStored until limit k diagram inputs saved) (late : until ≤ 2 ^ 62) (most : limit ≤ 1000000) where
  its_net : IsNet t.plan.net
  its_net = given_is_net diagram t.plan.net t.accepted.given

  its_columns : AreColumns t.plan.net t.columns
  its_columns = columns_in_range t.plan.net inputs t.columns (needs_exact t.plan.net) t.read

  are_short : AreShort t.columns
  are_short = columns_short (needs_of t.plan.net) inputs t.columns t.inputs_short t.read

  is_spelled : Spells t.plan.net t.columns saved.out t.stored
  is_spelled = record { valid = saved_is_valid t.plan.net t.columns until limit k t.stored its_net t.accepted.planned.free its_columns late most t.behind; text = t.told }

  is_short : length saved.out ≤ 67108864
  is_short = subst (λ (l : List ℕ). length l ≤ 67108864) (sym t.told) (saved_is_short t.plan.net t.columns t.stored its_net are_short is_spelled.valid)

  -- ---- and what is due then is the rest of the run

  saved_on : (files : Files) (s : List ℕ) (names : List (List ℕ)) (resumed : Answer) → DueOn files (reads_saved s until limit t.plan t.columns) (saved.out ∷ []) names resumed
      → IsRestOf t.plan.net t.columns until limit t.stored resumed
  saved_on files s names resumed (holds, inl (v, inl h, told, all)) = absurd (omega (arith, is_short, h.0))
  saved_on files s names resumed (holds, inl (v, inr h, told, all)) = absurd (h.1.blamed.none t.stored is_spelled)
  saved_on files s names resumed (holds, inr h) =
      let same : h.0 ≡ t.stored = one_spelled t.plan.net t.columns its_net are_short saved.out h.0 t.stored h.1.1 is_spelled in
      subst (λ (m : Saved). IsRestOf t.plan.net t.columns until limit m resumed) same h.4.0

  inputs_on : (files : Files) (j s : List ℕ) (names : List (List ℕ)) (resumed : Answer)
      → DueOn files (behind_inputs j (needs_of t.plan.net) (reads_saved s until limit t.plan)) (inputs ∷ saved.out ∷ []) names resumed → IsRestOf t.plan.net t.columns until limit t.stored resumed
  inputs_on files j s names resumed (holds, inl h) =
      absurd (no_both (BreaksColumns (needs_of t.plan.net)) (AcceptsColumns (needs_of t.plan.net)) inputs_slot (one_columns (needs_of t.plan.net)) inputs inputs t.columns h.0 refl h.1 t.inputs_short t.read)
  inputs_on files j s names resumed (holds, inr h) =
      let same : h.0 ≡ t.columns = (one_columns (needs_of t.plan.net)).one_made inputs h.0 t.columns h.1.1 t.read in
      saved_on files s h.2 resumed (subst (λ (cs : List (List ℤ)). DueOn files (reads_saved s until limit t.plan cs) (saved.out ∷ []) h.2 resumed) same h.4)

  resumed_on : (files : Files) (c j s : List ℕ) (names : List (List ℕ)) (resumed : Answer)
      → DueOn files (course_of (resume c j s until limit)) (diagram ∷ inputs ∷ saved.out ∷ []) names resumed → IsRestOf t.plan.net t.columns until limit t.stored resumed
  resumed_on files c j s names resumed (holds, inl h) = absurd (no_both Breaks Accepts diagram_slot one_verdict diagram diagram t.plan h.0 refl h.1 t.diagram_short t.accepted)
  resumed_on files c j s names resumed (holds, inr h) =
      let same : h.0 ≡ t.plan = one_verdict.one_made diagram h.0 t.plan h.1.1 t.accepted in
      inputs_on files j s h.2 resumed (subst (λ (p : Plan). DueOn files (behind_inputs j (needs_of p.net) (reads_saved s until limit p)) (inputs ∷ saved.out ∷ []) h.2 resumed) same h.4)

  -- some answer is due
  resume_due : (files : Files) (c j s : List ℕ) → Holds files c diagram → Holds files j inputs → Holds files s saved.out
      → (resumed : Answer) × DueOn files (course_of (resume c j s until limit)) (diagram ∷ inputs ∷ saved.out ∷ []) (c ∷ j ∷ s ∷ []) resumed
  resume_due files c j s one two three =
      let rest = some_rest t.plan.net t.columns its_net t.accepted.planned.free until limit (state_of t.stored) in (
        ran rest.0,
        (
          one,
          inr (
            t.plan,
            (t.diagram_short, t.accepted),
            j ∷ s ∷ [],
            refl,
            (
              two,
              inr (
                t.columns,
                (t.inputs_short, t.read),
                s ∷ [],
                refl,
                (three, inr (t.stored, (is_short, is_spelled), [], refl, ((rest.0, rest.1, refl), refl))),
              ),
            ),
          ),
        ),
      )

-- ---- the whole run

last_behind : (o h : Obs) (xs later : List Obs) → last_after o (xs ++ h ∷ later) ≡ last_after h later
last_behind o h [] later = refl
last_behind o h (x ∷ xs) later = last_behind x h xs later

stops_behind : (front : List Obs) (h : Obs) (later : List Obs) → stops (front ++ h ∷ later) ≡ stops (h ∷ later)
stops_behind [] h later = refl
stops_behind (o ∷ front) h later = ap is_stop (last_behind o h front later)

stops_parted : (k : ℕ) (front rest : List Obs) → AreParted k front rest → stops rest ≡ stops (front ++ rest)
stops_parted k front rest p =
    subst (λ (os : List Obs). stops os ≡ stops (front ++ os)) (sym p.next) (sym (stops_behind front p.header p.later))

rest_behind : (n : Parts) (i : Columns) (until limit k : ℕ) (m : Saved) (whole part : Answer) → IsNet n → AreLoopFree n → IsSavedBehind n i until limit k m → IsTraceOf n i until limit whole
    → IsRestOf n i until limit m part → IsRestBehind k whole part
rest_behind n i until limit k m whole part net free behind trace rest =
    let goes = run_goes_on n i until limit k m rest.0 net free behind rest.1 in
    let same : trace.0 ≡ goes.0 ++ rest.0 = one_trace n i net free until limit trace.0 (goes.0 ++ rest.0) trace.1 goes.1 in
    let whole_is : whole ≡ ran (goes.0 ++ rest.0) = trace.2 ∙ ap ran same in
    let stopped : stops rest.0 ≡ stops (goes.0 ++ rest.0) = stops_parted k goes.0 rest.0 goes.2 in
    record {
      front = goes.0;
      rest = rest.0;
      parted = goes.2;
      whole_is = whole_is;
      part_is = rest.2;
      bytes = out-is whole_is ∙ (text-append goes.0 rest.0 ∙ ap (λ (l : List ℕ). text goes.0 ++ l) (sym (out-is rest.2)));
      status = status-is rest.2 ∙ (ap run_status stopped ∙ sym (status-is whole_is));
    }

pub resumes_alike : ResumesAlike
resumes_alike d i c j s until limit k diagram inputs simulated saved resumed files names h due =
    let t = stored_in d i until limit k diagram inputs simulated saved h in
    let ran_so = is_simulated h.files d i until limit diagram inputs h.names simulated h.done (due_course h.files (simulate d i until limit) _ h.names simulated (h.until_within, h.limit_within) h.due) in
    let plan : ran_so.plan ≡ t.plan = one_verdict.one_made diagram ran_so.plan t.plan ran_so.accepted t.accepted in
    let read = subst (λ (p : Plan). AcceptsColumns (needs_of p.net) inputs ran_so.columns) plan ran_so.read in
    let columns : ran_so.columns ≡ t.columns = (one_columns (needs_of t.plan.net)).one_made inputs ran_so.columns t.columns read t.read in
    let trace = subst (λ (cs : List (List ℤ)). IsTraceOf t.plan.net cs until limit simulated) columns (subst (λ (p : Plan). IsTraceOf p.net ran_so.columns until limit simulated) plan ran_so.trace) in
    let rest = resumed_on until limit k diagram inputs saved t h.until_within h.limit_within files c j s names resumed (due_course files (resume c j s until limit) _ names resumed (h.until_within, h.limit_within) due) in
    rest_behind t.plan.net t.columns until limit k t.stored simulated resumed (given_is_net diagram t.plan.net t.accepted.given) t.accepted.planned.free t.behind trace rest

pub resume_is_due : ResumeIsDue
resume_is_due d i c j s until limit k diagram inputs simulated saved files h one two three =
    let t = stored_in d i until limit k diagram inputs simulated saved h in
    let due = resume_due until limit k diagram inputs saved t h.until_within h.limit_within files c j s one two three in
    (due.0, inr (resume c j s until limit, (refl, (h.until_within, h.limit_within)), due.1))
