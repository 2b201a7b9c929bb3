-- `ranges` and `simulate` refuse the same files alike.
use Rattle.std.proofs.Common.{◌≡◌, ℕ, ℤ, Bool, true, false, List, [], ◌∷◌, inl, inr, refl, sym, ◌∙◌, subst, arith}
use Rattle.sci_io.specs.Files.{Files}
use Rattle.sci_trace.specs.Columns.{Needed}
use Rattle.sci_trace.specs.Lines.{stops}
use Rattle.sci_needs.specs.Needs.{needs_of}
use Rattle.sci_verdict.specs.Verdict.{Plan}
use Rattle.sci_words.specs.Words.{simulate}
use Rattle.sci_answers.specs.Answer.{Answer}
use Rattle.sci_answers.specs.Course.{gives, DueOn}
use Rattle.sci_answers.specs.Inputs.{behind_inputs, reads_run}
use Rattle.sci_answers.specs.Simulate.{run_status, IsTraceOf}
use Rattle.sci_answers.proofs.Ends.{status-is}
use Rattle.sci_command_laws.proofs.RunsAlike.{due_course}
use Rattle.sci_range_commands.specs.Due.{Due as DueOfRanges, IsRangesOf, course_of, files_of}
use Rattle.sci_range_command_laws.specs.Answers.{RefusesAlike}

-- ---- whatever comes behind both files, if it is no refusal

inputs_refused : (files : Files) (i : List ℕ) (needs : List Needed) (one other : List (List ℤ) → Answer → Type 0) (bytes names : List (List ℕ)) (a : Answer)
    → ((columns : List (List ℤ)) → one columns a → ⊥) → DueOn files (behind_inputs i needs (λ columns. gives (one columns))) bytes names a
    → DueOn files (behind_inputs i needs (λ columns. gives (other columns))) bytes names a
inputs_refused files i needs one other [] names a never h = h
inputs_refused files i needs one other (b ∷ bytes) names a never (holds, inl h) = (holds, inl h)
inputs_refused files i needs one other (b ∷ bytes) names a never (holds, inr h) = absurd (never h.0 h.4.0)

files_refused : (files : Files) (d i : List ℕ) (one other : Plan → List (List ℤ) → Answer → Type 0) (bytes names : List (List ℕ)) (a : Answer)
    → ((p : Plan) (columns : List (List ℤ)) → one p columns a → ⊥) → DueOn files (reads_run d i (λ p columns. gives (one p columns))) bytes names a
    → DueOn files (reads_run d i (λ p columns. gives (other p columns))) bytes names a
files_refused files d i one other [] names a never h = h
files_refused files d i one other (b ∷ bytes) names a never (holds, inl h) = (holds, inl h)
files_refused files d i one other (b ∷ bytes) names a never (holds, inr h) =
    (holds, inr (h.0, h.1, h.2, h.3, inputs_refused files i (needs_of h.0.net) (one h.0) (other h.0) bytes h.2 a (λ columns told. never h.0 columns told) h.4))

-- ---- neither a table nor a trace is a refusal

no_table : (p : Plan) (columns : List (List ℤ)) (a : Answer) → a.status ≡ 1 → IsRangesOf p.net columns a → ⊥
no_table p columns a refused r = omega (arith, refused, status-is r.told)

no_status : (stopped : Bool) → run_status stopped ≡ 1 → ⊥
no_status true h = omega (arith, h)
no_status false h = omega (arith, h)

no_trace : (p : Plan) (columns : List (List ℤ)) (until limit : ℕ) (a : Answer) → a.status ≡ 1 → IsTraceOf p.net columns until limit a → ⊥
no_trace p columns until limit a refused t = no_status (stops t.0) (sym (status-is t.2) ∙ refused)

-- ---- the words

same_files : (files : Files) (d i c j : List ℕ) (bytes names : List (List ℕ)) (a : Answer) → files_of d i ≡ files_of c j → DueOn files (course_of c j) bytes names a → DueOn files (course_of d i) bytes names a
same_files files d i c j bytes names a words h =
    let one : c ≡ d = cc words in
    let two : j ≡ i = cc words in
    subst (λ (x : List ℕ). DueOn files (course_of d x) bytes names a) two (subst (λ (x : List ℕ). DueOn files (course_of x j) bytes names a) one h)

ranges_course : (files : Files) (d i : List ℕ) (bytes names : List (List ℕ)) (a : Answer) → DueOfRanges files (files_of d i) bytes names a → DueOn files (course_of d i) bytes names a
ranges_course files d i bytes names a (inl h) = absurd (h.0 d i refl)
ranges_course files d i bytes names a (inr h) = same_files files d i h.0 h.1 bytes names a h.2 h.3

pub refuses_alike : RefusesAlike
refuses_alike files d i until limit bytes names a late most refused = (
  λ h. inr (
    simulate d i until limit,
    (refl, (late, most)),
    files_refused files d i (λ p columns b. IsRangesOf p.net columns b) (λ p columns b. IsTraceOf p.net columns until limit b) bytes names a (λ p columns told. no_table p columns a refused told)
        (ranges_course files d i bytes names a h),
  ),
  λ h. inr (
    d,
    i,
    refl,
    files_refused files d i (λ p columns b. IsTraceOf p.net columns until limit b) (λ p columns b. IsRangesOf p.net columns b) bytes names a
        (λ p columns told. no_trace p columns until limit a refused told) (due_course files (simulate d i until limit) bytes names a (late, most) h),
  ),
)
