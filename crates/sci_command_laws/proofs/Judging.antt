-- Judge says yes of the trace, and of nothing else.
use Rattle.std.proofs.Common.{◌≡◌, ◌≤◌, ℕ, ℤ, List, [], ◌∷◌, length, inl, inr, refl, sym, ◌∙◌, ap, subst, arith}
use Rattle.sci_base.specs.Plain.{Violation}
use Rattle.sci_base.specs.declared.observation.Obs.{Obs}
use Rattle.sci_io.specs.Files.{Files}
use Rattle.sci_trace.specs.Columns.{Needed}
use Rattle.sci_trace.specs.Lines.{text}
use Rattle.sci_needs.specs.Needs.{needs_of}
use Rattle.sci_run.specs.Run.{IsRun}
use Rattle.sci_run.proofs.Unique.{one_trace}
use Rattle.sci_agree.specs.Lines.{IsAgreement}
use Rattle.sci_agree.specs.declared.verdict.Verdict.TheVariants.{Yes, No}
use Rattle.sci_agree.specs.Verdict.{IsVerdict}
use Rattle.sci_agree.proofs.Lines.{own_agreement}
use Rattle.sci_verdict.specs.Verdict.{Plan, Accepts}
use Rattle.sci_verdict.proofs.Verdicts.{one_verdict, given_is_net}
use Rattle.sci_answers.specs.Inputs.{AcceptsColumns, behind_inputs}
use Rattle.sci_answers.specs.Answer.{Answer, IsDone, refused}
use Rattle.sci_answers.specs.Simulate.{IsTraceOf, gives_trace}
use Rattle.sci_answers.specs.Judge.{IsJudgementOf, reads_trace}
use Rattle.sci_answers.specs.Course.{Holds, DueOn}
use Rattle.sci_words.specs.Words.{simulate, judge}
use Rattle.sci_answers.specs.Due.{course_of}
use Rattle.sci_command_laws.specs.RunsDue.{IsSimulatedRun}
use Rattle.sci_command_laws.specs.Judging.{JudgeSaysYes, JudgeSaysYesOfNothingElse}
use Rattle.sci_command_laws.proofs.Commands.{status-is, not_refused, simulate_alone, judge_alone, due_course}
use Rattle.sci_command_laws.proofs.Lines.{text_lines}

-- ---- the run

undone : (a : Answer) (v : Violation) → IsDone a.status → a ≡ refused v → ⊥
undone a v (inl h) e = omega (arith, h, status-is e)
undone a v (inr (inl h)) e = omega (arith, h, status-is e)
undone a v (inr (inr (inl h))) e = omega (arith, h, status-is e)
undone a v (inr (inr (inr h))) e = omega (arith, h, status-is e)

-- the files hold these bytes, which pass, and this is the trace
record IsRead (files : Files) (d i : List ℕ) (until limit : ℕ) (diagram inputs : List ℕ) (a : Answer) : Type 0 where
  plan : Plan
  diagram_there : Holds files d diagram
  diagram_short : length diagram ≤ 16777216
  accepted : Accepts diagram plan
  columns : List (List ℤ)
  inputs_there : Holds files i inputs
  inputs_short : length inputs ≤ 16777216
  read : AcceptsColumns (needs_of plan.net) inputs columns
  trace : IsTraceOf plan.net columns until limit a

read_on : (files : Files) (d i : List ℕ) (until limit : ℕ) (diagram inputs : List ℕ) (names : List (List ℕ)) (a : Answer) (p : Plan) → Holds files d diagram → length diagram ≤ 16777216 → Accepts diagram p
    → IsDone a.status → DueOn files (behind_inputs i (needs_of p.net) (gives_trace until limit p)) (inputs ∷ []) names a → IsRead files d i until limit diagram inputs a
read_on files d i until limit diagram inputs names a p there short accepted done (holds, inl h) = absurd (undone a h.0 done h.2)
read_on files d i until limit diagram inputs names a p there short accepted done (holds, inr h) = record {
  plan = p;
  diagram_there = there;
  diagram_short = short;
  accepted = accepted;
  columns = h.0;
  inputs_there = holds;
  inputs_short = h.1.0;
  read = h.1.1;
  trace = h.4.0;
}

read_by : (files : Files) (d i : List ℕ) (until limit : ℕ) (diagram inputs : List ℕ) (names : List (List ℕ)) (a : Answer) → IsDone a.status
    → DueOn files (course_of (simulate d i until limit)) (diagram ∷ inputs ∷ []) names a → IsRead files d i until limit diagram inputs a
read_by files d i until limit diagram inputs names a done (holds, inl h) = absurd (undone a h.0 done h.2)
read_by files d i until limit diagram inputs names a done (holds, inr h) = read_on files d i until limit diagram inputs h.2 a h.0 holds h.1.0 h.1.1 done h.4

is_read : (files : Files) (d i : List ℕ) (until limit : ℕ) (diagram inputs : List ℕ) (a : Answer) → IsSimulatedRun files d i until limit diagram inputs a → IsRead files d i until limit diagram inputs a
is_read files d i until limit diagram inputs a h =
    read_by files d i until limit diagram inputs h.names a h.done
    (due_course files (simulate d i until limit) _ h.names a (h.until_within, h.limit_within) (simulate_alone d i until limit h.until_within h.limit_within) h.due)

-- ---- yes

told_yes : (os : List Obs) (out : List ℕ) → out ≡ text os → IsVerdict (text os) out (Yes (length os))
told_yes os out is =
    (is, subst (λ (t : List ℕ). IsAgreement t (text os) (length os)) (sym is) (subst (IsAgreement (text os) (text os)) (text_lines os) (own_agreement (text os))))

pub judge_says_yes : JudgeSaysYes
judge_says_yes files d i v until limit diagram inputs a h there short =
    let r = is_read files d i until limit diagram inputs a h in
    let os = r.trace.0 in
    let agreed : IsVerdict (text os) a.out (Yes (length os)) = told_yes os a.out (ap (λ (b : Answer). b.out) r.trace.2) in
    record {
      observed = os;
      told = r.trace.2;
      due = inr (
        judge d i v until limit,
        (refl, (h.until_within, h.limit_within)),
        (
          r.diagram_there,
          inr (
            r.plan,
            (r.diagram_short, r.accepted),
            i ∷ v ∷ [],
            refl,
            (
              r.inputs_there,
              inr (
                r.columns,
                (r.inputs_short, r.read),
                v ∷ [],
                refl,
                (there, inr (a.out, (short, refl), [], refl, ((os, r.trace.1, Yes (length os), agreed, refl), refl))),
              ),
            ),
          ),
        ),
      );
    }

-- ---- and of nothing else

same_columns : (needs : List Needed) (inputs : List ℕ) (m n : List (List ℤ)) → AcceptsColumns needs inputs m → AcceptsColumns needs inputs n → m ≡ n
same_columns needs inputs m n h k = cc (h, k)

module _ (diagram inputs file : List ℕ) (until limit : ℕ) (p : Plan) (accepted : Accepts diagram p) (columns : List (List ℤ)) (read : AcceptsColumns (needs_of p.net) inputs columns)
    (os : List Obs) (run : IsRun p.net columns until limit os) (answer : Answer) (done : answer.status ≡ 0) where
  yes_of : (made : List ℕ) → made ≡ file → IsJudgementOf p.net columns until limit made answer → file ≡ text os
  yes_of made same (ps, runs, Yes lines, is, told) =
      sym same ∙ (is.0 ∙ ap text (one_trace p.net columns (given_is_net diagram p.net accepted.given) accepted.planned.free until limit ps os runs run))
  yes_of made same (ps, runs, No line, is, told) = absurd (omega (arith, done, status-is told))

  judged_on : (files : Files) (v : List ℕ) (names : List (List ℕ)) → DueOn files (reads_trace v until limit p columns) (file ∷ []) names answer → file ≡ text os
  judged_on files v names (holds, inl h) = absurd (not_refused answer h.0 done h.2)
  judged_on files v names (holds, inr h) = yes_of h.0 h.1.1 h.4.0

  inputs_on : (files : Files) (j v : List ℕ) (names : List (List ℕ)) → DueOn files (behind_inputs j (needs_of p.net) (reads_trace v until limit p)) (inputs ∷ file ∷ []) names answer → file ≡ text os
  inputs_on files j v names (holds, inl h) = absurd (not_refused answer h.0 done h.2)
  inputs_on files j v names (holds, inr h) =
      let same : h.0 ≡ columns = same_columns (needs_of p.net) inputs h.0 columns h.1.1 read in
      judged_on files v h.2 (subst (λ (cs : List (List ℤ)). DueOn files (reads_trace v until limit p cs) (file ∷ []) h.2 answer) same h.4)

  diagram_on : (files : Files) (c j v : List ℕ) (names : List (List ℕ)) → DueOn files (course_of (judge c j v until limit)) (diagram ∷ inputs ∷ file ∷ []) names answer → file ≡ text os
  diagram_on files c j v names (holds, inl h) = absurd (not_refused answer h.0 done h.2)
  diagram_on files c j v names (holds, inr h) =
      let same : h.0 ≡ p = one_verdict.one_made diagram h.0 p h.1.1 accepted in
      inputs_on files j v h.2 (subst (λ (q : Plan). DueOn files (behind_inputs j (needs_of q.net) (reads_trace v until limit q)) (inputs ∷ file ∷ []) h.2 answer) same h.4)

pub judge_says_yes_of_nothing_else : JudgeSaysYesOfNothingElse
judge_says_yes_of_nothing_else files judge_files d i c j v until limit diagram inputs file names simulated answer h due done =
    let r = is_read files d i until limit diagram inputs simulated h in
    let course = due_course judge_files (judge c j v until limit) _ names answer (h.until_within, h.limit_within) (judge_alone c j v until limit h.until_within h.limit_within) due in
    diagram_on diagram inputs file until limit r.plan r.accepted r.columns r.read r.trace.0 r.trace.1 answer done judge_files c j v names course
    ∙ sym (ap (λ (b : Answer). b.out) r.trace.2)
