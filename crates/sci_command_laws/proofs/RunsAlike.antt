-- The C of a diagram runs as the diagram does.
use Rattle.std.proofs.Common.{◌≡◌, ◌≤◌, ◌^◌, ◌⊎◌, ℕ, ℤ, pos, List, [], ◌∷◌, inl, inr, refl, sym, ◌∙◌, ap, subst, arith, Option, Some, None, Ok, Err, Bool, true, false, length, rules, if◌then◌else◌}
use Rattle.std.specs.Prelude.{nat_lt}
use Rattle.sci_base.specs.Plain.{Violation}
use Rattle.sci_base.specs.Outcome.{◌>>=◌}
use Rattle.sci_io.specs.Files.{Files}
use Rattle.sci_trace.specs.Columns.{Needed}
use Rattle.sci_trace.specs.Reading.{columns_in, shaped, greatest, first_outside, unless, too_few, judge_columns, judge}
use Rattle.sci_needs.specs.Needs.{needs_of}
use Rattle.sci_needs.proofs.Sensors.{needs_exact}
use Rattle.sci_needs.proofs.Columns.{columns_in_range}
use Rattle.sci_run.proofs.Finish.{run_is_over}
use Rattle.sci_run.proofs.Traces.{some_trace}
use Rattle.c_ast.specs.Syntax.{Whole}
use Rattle.c_ast.specs.Spelling.{spelling}
use Rattle.c_mean.specs.Meaning.{meaning}
use Rattle.c_read.proofs.Uniqueness.{one_spelled, not_both}
use Rattle.sci_verdict.specs.Verdict.{Plan, Accepts}
use Rattle.sci_verdict.proofs.Verdicts.{one_verdict, given_is_net}
use Rattle.sci_answers.specs.Inputs.{AcceptsColumns, BreaksColumns, behind_inputs}
use Rattle.sci_answers.specs.Answer.{Answer, IsDone, refused}
use Rattle.sci_answers.specs.RunC.{c_ran, AcceptsC, BreaksC, behind_program}
use Rattle.sci_answers.specs.Simulate.{ran, run_status, IsTraceOf, gives_trace}
use Rattle.sci_answers.specs.Code.{IsCodeOf}
use Rattle.sci_answers.specs.Course.{Holds, c_slot, inputs_slot, Fails, DueOn}
use Rattle.sci_words.specs.Words.{Request, simulate, code, run_c, spelled, InBounds}
use Rattle.sci_answers.specs.Due.{course_of, Due}
use Rattle.sci_command_laws.specs.Ran.{AreAnswers, CodeRunsAlike, CodeRunsOnlySo, IsGenerated, CodeIsDefined}
use Rattle.sci_answers.proofs.Ends.{status-is}
use Rattle.sci_words.proofs.Spoken.{same_command}
use Rattle.sci_command_laws.proofs.ShortColumns.{enough}
use Rattle.sci_answers.proofs.Traced.{ran_alike}

-- ---- words and refusals

pub due_course : (files : Files) (c : Request) (bytes names : List (List ℕ)) (a : Answer) → InBounds c → Due files (spelled c) bytes names a → DueOn files (course_of c) bytes names a
due_course files c bytes names a bounds (inl h) = absurd (h.0 c (refl, bounds))
due_course files c bytes names a bounds (inr h) =
    let same : h.0 ≡ c = same_command h.0 c h.1.1 bounds (sym h.1.0) in
    subst (λ (q : Request). DueOn files (course_of q) bytes names a) same h.2

pub no_refusal : (a : Answer) (v : Violation) → IsDone a.status → a ≡ refused v → ⊥
no_refusal a v (inl h) e = omega (arith, h, status-is e)
no_refusal a v (inr (inl h)) e = omega (arith, h, status-is e)
no_refusal a v (inr (inr (inl h))) e = omega (arith, h, status-is e)
no_refusal a v (inr (inr (inr h))) e = omega (arith, h, status-is e)

-- ---- an input file has the same columns, whatever is needed of it

nothing_less : (n : ℕ) → nat_lt n 0 ≡ false
nothing_less n = search rules

free_columns : (cs : List (List ℤ)) → judge_columns [] cs ≡ Ok cs
free_columns cs = ap (λ (b : Bool). if b then Err (too_few 0 (length cs)) else Ok cs) (nothing_less (length cs))

free_of : (needs : List Needed) (o : Option (List (List ℤ))) (columns : List (List ℤ)) → (shaped o >>= judge_columns needs) ≡ Ok columns → (shaped o >>= judge_columns []) ≡ Ok columns
free_of needs None columns h = absurd (cc h)
free_of needs (Some cs) columns h =
    let same : cs ≡ columns = enough (nat_lt (length cs) (greatest needs)) (too_few (greatest needs) (length cs)) (first_outside needs cs) cs columns h in
    free_columns cs ∙ ap Ok same

read_free : (needs : List Needed) (bytes : List ℕ) (columns : List (List ℤ)) → AcceptsColumns needs bytes columns → AcceptsColumns [] bytes columns
unfolding judge
read_free needs bytes columns h = free_of needs (columns_in bytes) columns h

-- ---- what a simulation and its C are due

pub record IsSimulated (until limit : ℕ) (diagram inputs : List ℕ) (a : Answer) : Type 0 where
  pub plan : Plan
  pub accepted : Accepts diagram plan
  pub columns : List (List ℤ)
  pub short : length inputs ≤ 16777216
  pub read : AcceptsColumns (needs_of plan.net) inputs columns
  pub trace : IsTraceOf plan.net columns until limit a

simulated_on : (files : Files) (i : List ℕ) (until limit : ℕ) (diagram inputs : List ℕ) (names : List (List ℕ)) (a : Answer) (p : Plan) → Accepts diagram p → IsDone a.status
    → DueOn files (behind_inputs i (needs_of p.net) (gives_trace until limit p)) (inputs ∷ []) names a → IsSimulated until limit diagram inputs a
simulated_on files i until limit diagram inputs names a p accepted done (holds, inl h) = absurd (no_refusal a h.0 done h.2)
simulated_on files i until limit diagram inputs names a p accepted done (holds, inr h) =
    record { plan = p; accepted = accepted; columns = h.0; short = h.1.0; read = h.1.1; trace = h.4.0 }

pub is_simulated : (files : Files) (d i : List ℕ) (until limit : ℕ) (diagram inputs : List ℕ) (names : List (List ℕ)) (a : Answer) → IsDone a.status
    → DueOn files (course_of (simulate d i until limit)) (diagram ∷ inputs ∷ []) names a → IsSimulated until limit diagram inputs a
is_simulated files d i until limit diagram inputs names a done (holds, inl h) = absurd (no_refusal a h.0 done h.2)
is_simulated files d i until limit diagram inputs names a done (holds, inr h) = simulated_on files i until limit diagram inputs h.2 a h.0 h.1.1 done h.4

record IsCoded (diagram : List ℕ) (a : Answer) : Type 0 where
  plan : Plan
  accepted : Accepts diagram plan
  code_of : IsCodeOf plan a

is_coded : (files : Files) (d diagram : List ℕ) (names : List (List ℕ)) (a : Answer) → a.status ≡ 0 → DueOn files (course_of (code d)) (diagram ∷ []) names a → IsCoded diagram a
is_coded files d diagram names a done (holds, inl h) = absurd (no_refusal a h.0 (inl done) h.2)
is_coded files d diagram names a done (holds, inr h) = record { plan = h.0; accepted = h.1.1; code_of = h.4.0 }

-- ---- what its run is due

record RunsSo (until limit : ℕ) (inputs : List ℕ) (a coded : Answer) : Type 0 where
  program : Whole
  spelled_so : AcceptsC coded.out program
  columns : List (List ℤ)
  short : length inputs ≤ 16777216
  read : AcceptsColumns [] inputs columns
  alike : c_ran (meaning program columns (pos until) (pos limit)) ≡ a

program_runs_so : (until limit : ℕ) (diagram inputs : List ℕ) (a coded : Answer) (s : IsSimulated until limit diagram inputs a) → IsCodeOf s.plan coded → until ≤ 2 ^ 62 → limit ≤ 1000000 → RunsSo until limit inputs a coded
program_runs_so until limit diagram inputs a coded s k late most =
    let net = s.plan.net in
    let columns = columns_in_range net inputs s.columns (needs_exact net) s.read in
    let over = (run_is_over net s.columns until limit s.trace.0).0 s.trace.1 in
    let means = k.is_code.means s.columns until limit over.0 over.1 s.trace.0 columns late (omega (arith, most)) over.2 in
    let text : coded.out ≡ spelling k.code = ap (λ (b : Answer). b.out) k.told in
    record {
      program = k.code;
      spelled_so = ((k.is_code.whole, text), k.is_code.rules);
      columns = s.columns;
      short = s.short;
      read = read_free (needs_of net) inputs s.columns s.read;
      alike = ap c_ran means ∙ (ran_alike net s.columns until limit over.2 ∙ sym s.trace.2);
    }

runs_so : (d i : List ℕ) (until limit : ℕ) (diagram inputs : List ℕ) (a coded : Answer) → AreAnswers d i until limit diagram inputs a coded → RunsSo until limit inputs a coded
runs_so d i until limit diagram inputs a coded h =
    let s = is_simulated h.files d i until limit diagram inputs h.names a h.done (due_course h.files (simulate d i until limit) _ h.names a (h.until_within, h.limit_within) h.due) in
    let k = is_coded h.code_files d diagram h.code_names coded h.written (due_course h.code_files (code d) _ h.code_names coded tt h.code_due) in
    let plan : k.plan ≡ s.plan = one_verdict.one_made diagram k.plan s.plan k.accepted s.accepted in
    program_runs_so until limit diagram inputs a coded s (subst (λ (p : Plan). IsCodeOf p coded) plan k.code_of) h.until_within h.limit_within

runs_on : (c j : List ℕ) (until limit : ℕ) (inputs : List ℕ) (a coded : Answer) (files : Files) → RunsSo until limit inputs a coded → length coded.out ≤ 67108864
    → Holds files c coded.out → Holds files j inputs → DueOn files (course_of (run_c c j until limit)) (coded.out ∷ inputs ∷ []) (c ∷ j ∷ []) a
runs_on c j until limit inputs a coded files r short holds held =
    (holds, inr (r.program, (short, r.spelled_so), j ∷ [], refl, (held, inr (r.columns, (r.short, r.read), [], refl, (sym r.alike, refl)))))

-- ---- and nothing else

same_columns : (inputs : List ℕ) (m n : List (List ℤ)) → AcceptsColumns [] inputs m → AcceptsColumns [] inputs n → m ≡ n
same_columns inputs m n h k = cc (h, k)

no_break : (inputs : List ℕ) (m : List (List ℤ)) (v : Violation) → AcceptsColumns [] inputs m → BreaksColumns [] inputs v → ⊥
no_break inputs m v h k = absurd (cc (h, k))

inputs_fail : (inputs : List ℕ) (m : List (List ℤ)) (v : Violation) → length inputs ≤ 16777216 → AcceptsColumns [] inputs m → Fails (BreaksColumns []) inputs_slot inputs v → ⊥
inputs_fail inputs m v short read (inl h) = omega (arith, short, h.0)
inputs_fail inputs m v short read (inr h) = no_break inputs m v read h.1

code_fails : (bytes : List ℕ) (p : Whole) (v : Violation) → length bytes ≤ 67108864 → AcceptsC bytes p → Fails BreaksC c_slot bytes v → ⊥
code_fails bytes p v short read (inl h) = omega (arith, short, h.0)
code_fails bytes p v short read (inr h) = not_both bytes p h.1.byte read h.1.blamed

only_behind : (j : List ℕ) (until limit : ℕ) (inputs : List ℕ) (a coded b : Answer) (files : Files) (names : List (List ℕ)) (r : RunsSo until limit inputs a coded) (p : Whole) → p ≡ r.program
    → DueOn files (behind_program j until limit p) (inputs ∷ []) names b → b ≡ a
only_behind j until limit inputs a coded b files names r p same (held, inl h) = absurd (inputs_fail inputs r.columns h.0 r.short r.read h.1)
only_behind j until limit inputs a coded b files names r p same (held, inr h) =
    let columns : h.0 ≡ r.columns = same_columns inputs h.0 r.columns h.1.1 r.read in
    h.4.0 ∙ (ap (λ (w : Whole). c_ran (meaning w h.0 (pos until) (pos limit))) same ∙ (ap (λ (cs : List (List ℤ)). c_ran (meaning r.program cs (pos until) (pos limit))) columns ∙ r.alike))

only_so : (c j : List ℕ) (until limit : ℕ) (inputs : List ℕ) (a coded b : Answer) (files : Files) (names : List (List ℕ)) (r : RunsSo until limit inputs a coded) → length coded.out ≤ 67108864
    → DueOn files (course_of (run_c c j until limit)) (coded.out ∷ inputs ∷ []) names b → b ≡ a
only_so c j until limit inputs a coded b files names r short (holds, inl h) = absurd (code_fails coded.out r.program h.0 short r.spelled_so h.1)
only_so c j until limit inputs a coded b files names r short (holds, inr h) =
    let same : h.0 ≡ r.program = one_spelled coded.out h.0 r.program h.1.1.0 r.spelled_so.0 in
    only_behind j until limit inputs a coded b files h.2 r h.0 same h.4

pub code_runs_alike : CodeRunsAlike
code_runs_alike d i c j until limit diagram inputs simulated coded files h holds held =
    let r = runs_so d i until limit diagram inputs simulated coded h in
    inr (run_c c j until limit, (refl, (h.until_within, h.limit_within)), runs_on c j until limit inputs simulated coded files r h.short holds held)

pub code_runs_only_so : CodeRunsOnlySo
code_runs_only_so d i c j until limit diagram inputs simulated coded ran files names h due =
    let r = runs_so d i until limit diagram inputs simulated coded h in
    only_so c j until limit inputs simulated coded ran files names r h.short (due_course files (run_c c j until limit) _ names ran (h.until_within, h.limit_within) due)

-- ---- it is nowhere without meaning

trace_of : (d : List ℕ) (until limit : ℕ) (diagram inputs : List ℕ) (coded : Answer) → IsGenerated d until limit diagram inputs coded
    → (a : Answer) × IsSimulated until limit diagram inputs a
trace_of d until limit diagram inputs coded h =
    let net = h.plan.net in
    let trace = some_trace net h.columns (given_is_net diagram net h.accepted.given) h.accepted.planned.free until limit in
    (ran trace.0, record { plan = h.plan; accepted = h.accepted; columns = h.columns; short = h.inputs_short; read = h.read; trace = (trace.0, trace.1, refl) })

ends_or_stops : (stopped : Bool) → (run_status stopped ≡ 0) ⊎ (run_status stopped ≡ 6)
ends_or_stops false = inl refl
ends_or_stops true = inr refl

status_of : (until limit : ℕ) (diagram inputs : List ℕ) (a b : Answer) → IsSimulated until limit diagram inputs a → b ≡ a → (b.status ≡ 0) ⊎ (b.status ≡ 6)
status_of until limit diagram inputs a b s same =
    let told : b ≡ ran s.trace.0 = same ∙ s.trace.2 in
    subst (λ (x : Answer). (x.status ≡ 0) ⊎ (x.status ≡ 6)) (sym told) (ends_or_stops _)

pub code_is_defined : CodeIsDefined
code_is_defined d c j until limit diagram inputs coded ran files names h due =
    let t = trace_of d until limit diagram inputs coded h in
    let k = is_coded h.code_files d diagram h.code_names coded h.written (due_course h.code_files (code d) _ h.code_names coded tt h.code_due) in
    let plan : k.plan ≡ t.1.plan = one_verdict.one_made diagram k.plan t.1.plan k.accepted t.1.accepted in
    let r = program_runs_so until limit diagram inputs t.0 coded t.1 (subst (λ (p : Plan). IsCodeOf p coded) plan k.code_of) h.until_within h.limit_within in
    let same = only_so c j until limit inputs t.0 coded ran files names r h.short (due_course files (run_c c j until limit) _ names ran (h.until_within, h.limit_within) due) in
    status_of until limit diagram inputs t.0 ran t.1 same
