-- The C of a diagram is nowhere without meaning, however long it and its input file are.
use Rattle.std.specs.Prelude.{ℕ, ℤ, ◌≡◌, ◌≤◌, ◌⊎◌, List, [], ◌∷◌}
use Rattle.sci_base.specs.declared.limits.TheConstants.{TICKS, EVENTS}
use Rattle.sci_io.specs.Files.{Files}
use Rattle.sci_needs.specs.Needs.{needs_of}
use Rattle.sci_verdict.specs.Verdict.{Plan, Accepts}
use Rattle.sci_answers.specs.Inputs.{AcceptsColumns}
use Rattle.sci_words.specs.Words.{code, run_c, spelled}
use Rattle.sci_answers.specs.Answer.{Answer}
use Rattle.sci_answers.specs.Due.{Due}

-- The diagram's bytes are accepted, and this answer of ccode is due of them. The input file's bytes are no columns, or these have what the diagram's
-- sensors need.
pub record IsGeneratedOf (d : List ℕ) (until limit : ℕ) (diagram inputs : List ℕ) (coded : Answer) : Type 0 where
  pub until_within : until ≤ TICKS
  pub limit_within : limit ≤ EVENTS
  pub plan : Plan
  pub accepted : Accepts diagram plan
  pub code_files : Files
  pub code_names : List (List ℕ)
  pub code_due : Due code_files (spelled (code d)) (diagram ∷ []) code_names coded
  pub written : coded.status ≡ 0
  pub enough : (columns : List (List ℤ)) → AcceptsColumns [] inputs columns → AcceptsColumns (needs_of plan.net) inputs columns

-- What is due of crun on these bytes has the status of a run that ends or stops, or of a refusal, and never of one without meaning.
abbrev pub CodeIsNeverUndefined : Type 0
CodeIsNeverUndefined =
    (d c j : List ℕ) (until limit : ℕ) (diagram inputs : List ℕ) (coded ran : Answer) (files : Files) (names : List (List ℕ))
    → IsGeneratedOf d until limit diagram inputs coded
    → Due files (spelled (run_c c j until limit)) (coded.out ∷ inputs ∷ []) names ran → (ran.status ≡ 0) ⊎ ((ran.status ≡ 6) ⊎ (ran.status ≡ 1))
