-- What is due of `ranges` holds of what is due of `resume` on what was saved.
use Rattle.std.proofs.Common.{◌≡◌, ◌≤◌, ℕ, List, [], ◌∷◌, length, inl, inr, sym, subst}
use Rattle.sci_io.specs.Files.{Files}
use Rattle.sci_needs.specs.Needs.{needs_of}
use Rattle.sci_reaction.specs.Memory.{Columns}
use Rattle.sci_run.specs.Run.{IsRest}
use Rattle.sci_save.specs.Blame.{Spells}
use Rattle.sci_save.specs.Saved.{Saved}
use Rattle.sci_save.specs.Resumed.{state_of}
use Rattle.sci_resume.proofs.Behind.{saved_is_valid}
use Rattle.sci_verdict.specs.Verdict.{Plan, Accepts}
use Rattle.sci_verdict.proofs.Verdicts.{one_verdict, given_is_net}
use Rattle.sci_words.specs.Words.{save, resume}
use Rattle.sci_answers.specs.Answer.{Answer, IsDone}
use Rattle.sci_answers.specs.Course.{DueOn}
use Rattle.sci_answers.specs.Due.{course_of}
use Rattle.sci_answers.specs.Inputs.{AcceptsColumns, behind_inputs}
use Rattle.sci_answers.specs.Resume.{IsRestOf, reads_saved}
use Rattle.sci_command_laws.proofs.Resumed.{IsStored, is_stored}
use Rattle.sci_command_laws.proofs.RunsAlike.{due_course, no_refusal}
use Rattle.sci_command_laws.proofs.ShortColumns.{columns_short}
use Rattle.sci_range_command_laws.specs.Answers.{IsSaved, IsResumed, ResumedIsWithin}
use Rattle.sci_range_command_laws.proofs.Going.{rests_are_told}
use Rattle.sci_range_command_laws.proofs.Longer.{one_saved_in}
use Rattle.sci_range_command_laws.proofs.Ranged.{its_ranges, within_by, in_range}

-- ---- what is due of `resume`

-- with a plan: the input file's columns, what was saved, and the rest of the run
record IsRestAt (p : Plan) (until limit : ℕ) (inputs image : List ℕ) (a : Answer) : Type 0 where
  pub columns : Columns
  pub short : length inputs ≤ 16777216
  pub read : AcceptsColumns (needs_of p.net) inputs columns
  pub saved : Saved
  pub spelled_so : Spells p.net columns image saved
  pub rest : IsRestOf p.net columns until limit saved a

record IsRestOfFiles (until limit : ℕ) (diagram inputs image : List ℕ) (a : Answer) : Type 0 where
  pub plan : Plan
  pub accepted : Accepts diagram plan
  pub rest_at : IsRestAt plan until limit inputs image a

image_on : (files : Files) (s : List ℕ) (until limit : ℕ) (inputs image : List ℕ) (names : List (List ℕ)) (a : Answer) (p : Plan) (columns : Columns) → length inputs ≤ 16777216
    → AcceptsColumns (needs_of p.net) inputs columns → IsDone a.status → DueOn files (reads_saved s until limit p columns) (image ∷ []) names a → IsRestAt p until limit inputs image a
image_on files s until limit inputs image names a p columns short read done (holds, inl h) = absurd (no_refusal a h.0 done h.2)
image_on files s until limit inputs image names a p columns short read done (holds, inr h) =
    record { columns = columns; short = short; read = read; saved = h.0; spelled_so = h.1.1; rest = h.4.0 }

inputs_on : (files : Files) (i s : List ℕ) (until limit : ℕ) (inputs image : List ℕ) (names : List (List ℕ)) (a : Answer) (p : Plan) → IsDone a.status
    → DueOn files (behind_inputs i (needs_of p.net) (reads_saved s until limit p)) (inputs ∷ image ∷ []) names a → IsRestAt p until limit inputs image a
inputs_on files i s until limit inputs image names a p done (holds, inl h) = absurd (no_refusal a h.0 done h.2)
inputs_on files i s until limit inputs image names a p done (holds, inr h) = image_on files s until limit inputs image h.2 a p h.0 h.1.0 h.1.1 done h.4

diagram_on : (files : Files) (d i s : List ℕ) (until limit : ℕ) (diagram inputs image : List ℕ) (names : List (List ℕ)) (a : Answer) → IsDone a.status
    → DueOn files (course_of (resume d i s until limit)) (diagram ∷ inputs ∷ image ∷ []) names a → IsRestOfFiles until limit diagram inputs image a
diagram_on files d i s until limit diagram inputs image names a done (holds, inl h) = absurd (no_refusal a h.0 done h.2)
diagram_on files d i s until limit diagram inputs image names a done (holds, inr h) =
    record { plan = h.0; accepted = h.1.1; rest_at = inputs_on files i s until limit inputs image h.2 a h.0 done h.4 }

its_rest : (until limit : ℕ) (diagram inputs image : List ℕ) (resumed : Answer) (p : Plan) → IsResumed until limit diagram inputs image resumed → Accepts diagram p
    → IsRestAt p until limit inputs image resumed
its_rest until limit diagram inputs image resumed p h accepted =
    let course = due_course h.files (resume h.d h.i h.s until limit) (diagram ∷ inputs ∷ image ∷ []) h.names resumed (h.until_within, h.limit_within) h.due in
    let r = diagram_on h.files h.d h.i h.s until limit diagram inputs image h.names resumed h.done course in
    let same : r.plan ≡ p = one_verdict.one_made diagram r.plan p r.accepted accepted in
    subst (λ (q : Plan). IsRestAt q until limit inputs image resumed) same r.rest_at

-- ---- what was saved is what is read

its_store : (until limit reaction : ℕ) (diagram inputs : List ℕ) (saved : Answer) → IsSaved until limit reaction diagram inputs saved → IsStored until limit reaction diagram inputs saved
its_store until limit reaction diagram inputs saved h =
    is_stored h.files h.d h.i until limit reaction diagram inputs h.names saved h.written
    (due_course h.files (save h.d h.i until limit reaction) (diagram ∷ inputs ∷ []) h.names saved (h.until_within, h.limit_within, h.least, h.most) h.due)

same_saved : (until limit reaction later more : ℕ) (diagram others further : List ℕ) (saved resumed : Answer) → IsSaved until limit reaction diagram others saved
    → (t : IsStored until limit reaction diagram others saved) (r : IsRestAt t.plan later more further saved.out resumed) → t.stored ≡ r.saved
same_saved until limit reaction later more diagram others further saved resumed h t r =
    let net = given_is_net diagram t.plan.net t.accepted.given in
    let own = in_range others t.plan t.columns t.read in
    let valid = saved_is_valid t.plan.net t.columns until limit reaction t.stored net t.accepted.planned.free own h.until_within h.limit_within t.behind in
    one_saved_in t.plan.net t.columns r.columns saved.out t.stored r.saved net (columns_short (needs_of t.plan.net) others t.columns t.inputs_short t.read)
    (columns_short (needs_of t.plan.net) further r.columns r.short r.read) (record { valid = valid; text = t.told }) r.spelled_so

pub resumed_is_within : ResumedIsWithin
resumed_is_within until limit reaction later more diagram inputs others further ranged saved resumed h keeps keep s g =
    let t = its_store until limit reaction diagram others saved s in
    let p = t.plan in
    let r = its_rest later more diagram further saved.out resumed p g t.accepted in
    let same = same_saved until limit reaction later more diagram others further saved resumed s t r in
    let ranges = its_ranges diagram inputs ranged p h t.accepted in
    let rest : IsRest p.net r.columns later more (state_of t.stored) r.rest.0 =
    subst (λ (m : Saved). IsRest p.net r.columns later more (state_of m) r.rest.0) (sym same) r.rest.1 in
    within_by diagram inputs ranged resumed p r.rest.0 t.accepted ranges r.rest.2
    (λ table closed. rests_are_told p.net ranges.columns t.columns r.columns table until limit reaction later more t.stored r.rest.0 (given_is_net diagram p.net t.accepted.given)
    t.accepted.planned.free (in_range inputs p ranges.columns ranges.read) closed (keeps p ranges.columns t.columns t.accepted ranges.read t.read)
    (keep p ranges.columns r.columns t.accepted ranges.read r.read) t.behind rest)
