-- The C of a diagram is nowhere without meaning.
use Rattle.std.proofs.Common.{◌≡◌, ◌≤◌, ◌^◌, ◌⊎◌, ℕ, ℤ, pos, List, [], ◌∷◌, inl, inr, refl, sym, ◌∙◌, ap, subst, arith}
use Rattle.sci_base.specs.declared.observation.Obs.{Obs}
use Rattle.sci_io.specs.Files.{Files}
use Rattle.sci_needs.specs.Needs.{needs_of}
use Rattle.sci_needs.proofs.Sensors.{needs_exact}
use Rattle.sci_needs.proofs.Columns.{columns_in_range}
use Rattle.sci_run.specs.Finish.{Ending, ByEnd, ByStop}
use Rattle.sci_run.proofs.Finish.{run_is_over}
use Rattle.sci_run.proofs.Traces.{some_trace}
use Rattle.c_ast.specs.Syntax.{Whole}
use Rattle.c_ast.specs.Spelling.{spelling}
use Rattle.c_mean.specs.Meaning.{meaning}
use Rattle.c_read.proofs.Uniqueness.{one_spelled}
use Rattle.sci_program.specs.Laws.{answer_by}
use Rattle.sci_verdict.specs.Verdict.{Plan, Accepts}
use Rattle.sci_verdict.proofs.Verdicts.{one_verdict, given_is_net}
use Rattle.sci_answers.specs.Inputs.{AcceptsColumns}
use Rattle.sci_answers.specs.Answer.{Answer}
use Rattle.sci_answers.specs.RunC.{c_ran, behind_program}
use Rattle.sci_answers.specs.Code.{IsCodeOf}
use Rattle.sci_answers.specs.Course.{DueOn}
use Rattle.sci_words.specs.Words.{code, run_c}
use Rattle.sci_answers.specs.Due.{course_of}
use Rattle.sci_command_laws.specs.Generated.{CodeIsNeverUndefined}
use Rattle.sci_command_laws.proofs.Commands.{status-is, not_refused, code_alone, run_alone, due_course}

-- a run ends or stops, or was refused
abbrev IsDefined : ℕ → Type 0
IsDefined status = (status ≡ 0) ⊎ ((status ≡ 6) ⊎ (status ≡ 1))

over_so : (how : Ending) (os : List Obs) → IsDefined (c_ran (record { seen = os; how = answer_by how })).status
over_so (ByEnd word) os = inl refl
over_so (ByStop block word) os = inr (inl refl)

-- the text that is due of a diagram
record IsCoded (diagram : List ℕ) (a : Answer) : Type 0 where
  plan : Plan
  accepted : Accepts diagram plan
  code_of : IsCodeOf plan a

is_coded : (files : Files) (d diagram : List ℕ) (names : List (List ℕ)) (a : Answer) → a.status ≡ 0 → DueOn files (course_of (code d)) (diagram ∷ []) names a → IsCoded diagram a
is_coded files d diagram names a done (holds, inl h) = absurd (not_refused a h.0 done h.2)
is_coded files d diagram names a done (holds, inr h) = record { plan = h.0; accepted = h.1.1; code_of = h.4.0 }

module _ (until limit : ℕ) (late : until ≤ 2 ^ 62) (most : limit ≤ 1000000) (diagram inputs : List ℕ) (p : Plan) (accepted : Accepts diagram p)
    (enough : (columns : List (List ℤ)) → AcceptsColumns [] inputs columns → AcceptsColumns (needs_of p.net) inputs columns) (coded : Answer) (k : IsCodeOf p coded) (b : Answer) where
  -- on columns that are read
  program_runs : (columns : List (List ℤ)) → AcceptsColumns [] inputs columns → b ≡ c_ran (meaning k.code columns (pos until) (pos limit)) → IsDefined b.status
  program_runs columns read told =
      let net = p.net in
      let in_range = columns_in_range net inputs columns (needs_exact net) (enough columns read) in
      let trace = some_trace net columns (given_is_net diagram net accepted.given) accepted.planned.free until limit in
      let over = (run_is_over net columns until limit trace.0).0 trace.1 in
      let means = k.is_code.means columns until limit over.0 over.1 trace.0 in_range late (omega (arith, most)) over.2 in
      let is : b ≡ c_ran (record { seen = trace.0; how = answer_by over.1 }) = told ∙ ap c_ran means in
      subst IsDefined (sym (status-is is)) (over_so over.1 trace.0)

  program_on : (files : Files) (j : List ℕ) (names : List (List ℕ)) (program : Whole) → program ≡ k.code → DueOn files (behind_program j until limit program) (inputs ∷ []) names b → IsDefined b.status
  program_on files j names program same (holds, inl h) = inr (inr (status-is h.2))
  program_on files j names program same (holds, inr h) =
      program_runs h.0 h.1.1 (h.4.0 ∙ ap (λ (w : Whole). c_ran (meaning w h.0 (pos until) (pos limit))) same)

  run_on : (files : Files) (c j : List ℕ) (names : List (List ℕ)) → DueOn files (course_of (run_c c j until limit)) (coded.out ∷ inputs ∷ []) names b → IsDefined b.status
  run_on files c j names (holds, inl h) = inr (inr (status-is h.2))
  run_on files c j names (holds, inr h) =
      let text : coded.out ≡ spelling k.code = ap (λ (a : Answer). a.out) k.told in
      let same : h.0 ≡ k.code = one_spelled coded.out h.0 k.code h.1.1.0 (k.is_code.whole, text) in
      program_on files j h.2 h.0 same h.4

pub code_is_never_undefined : CodeIsNeverUndefined
code_is_never_undefined d c j until limit diagram inputs coded ran files names h due =
    let k = is_coded h.code_files d diagram h.code_names coded h.written (due_course h.code_files (code d) _ h.code_names coded tt (code_alone d) h.code_due) in
    let plan : k.plan ≡ h.plan = one_verdict.one_made diagram k.plan h.plan k.accepted h.accepted in
    let course = due_course files (run_c c j until limit) _ names ran (h.until_within, h.limit_within) (run_alone c j until limit h.until_within h.limit_within) due in
    run_on until limit h.until_within h.limit_within diagram inputs h.plan h.accepted h.enough coded (subst (λ (p : Plan). IsCodeOf p coded) plan k.code_of) ran files c j names course
