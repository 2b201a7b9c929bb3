-- The C of a diagram runs as the diagram does.
use Rattle.std.specs.Prelude.{ℕ, ℤ, ◌≡◌, ◌≤◌, ◌⊎◌, length, List, [], ◌∷◌}
use Rattle.sci_base.specs.declared.limits.TheConstants.{TICKS, EVENTS}
use Rattle.sci_io.specs.Files.{Files}
use Rattle.sci_needs.specs.Needs.{needs_of}
use Rattle.sci_verdict.specs.Verdict.{Plan, Accepts}
use Rattle.sci_answers.specs.Inputs.{AcceptsColumns}
use Rattle.sci_words.specs.Words.{simulate, code, run_c, spelled}
use Rattle.sci_answers.specs.Answer.{Answer, IsDone}
use Rattle.sci_answers.specs.Course.{Holds, inputs_slot, c_slot}
use Rattle.sci_answers.specs.Due.{Due}

-- Of a diagram's and an input file's bytes this answer is due of simulate, which is no refusal, and this one of ccode, whose bytes are no more than a
-- C file may have.
pub record AreAnswers (d i : List ℕ) (until limit : ℕ) (diagram inputs : List ℕ) (simulated coded : Answer) : Type 0 where
  pub until_within : until ≤ TICKS
  pub limit_within : limit ≤ EVENTS
  pub files : Files
  pub names : List (List ℕ)
  pub due : Due files (spelled (simulate d i until limit)) (diagram ∷ inputs ∷ []) names simulated
  pub done : IsDone simulated.status
  pub code_files : Files
  pub code_names : List (List ℕ)
  pub code_due : Due code_files (spelled (code d)) (diagram ∷ []) code_names coded
  pub written : coded.status ≡ 0
  pub short : length coded.out ≤ c_slot.longest

-- Then what was due of simulate is due of crun on the bytes that ccode writes, with the same input file and the same bounds ..
abbrev pub CodeRunsAlike : Type 0
CodeRunsAlike =
    (d i c j : List ℕ) (until limit : ℕ) (diagram inputs : List ℕ) (simulated coded : Answer) (files : Files)
    → AreAnswers d i until limit diagram inputs simulated coded
    → Holds files c coded.out → Holds files j inputs → Due files (spelled (run_c c j until limit)) (coded.out ∷ inputs ∷ []) (c ∷ j ∷ []) simulated

-- .. and nothing else is.
abbrev pub CodeRunsOnlySo : Type 0
CodeRunsOnlySo =
    (d i c j : List ℕ) (until limit : ℕ) (diagram inputs : List ℕ) (simulated coded ran : Answer) (files : Files) (names : List (List ℕ))
    → AreAnswers d i until limit diagram inputs simulated coded
    → Due files (spelled (run_c c j until limit)) (coded.out ∷ inputs ∷ []) names ran → ran ≡ simulated

-- The diagram's bytes are accepted, the input file's bytes have what its sensors need, and this answer of ccode is due of the diagram, whose bytes are no more than a
-- C file may have.
pub record IsGenerated (d : List ℕ) (until limit : ℕ) (diagram inputs : List ℕ) (coded : Answer) : Type 0 where
  pub until_within : until ≤ TICKS
  pub limit_within : limit ≤ EVENTS
  pub plan : Plan
  pub accepted : Accepts diagram plan
  pub columns : List (List ℤ)
  pub inputs_short : length inputs ≤ inputs_slot.longest
  pub read : AcceptsColumns (needs_of plan.net) inputs columns
  pub code_files : Files
  pub code_names : List (List ℕ)
  pub code_due : Due code_files (spelled (code d)) (diagram ∷ []) code_names coded
  pub written : coded.status ≡ 0
  pub short : length coded.out ≤ c_slot.longest

-- What is due of crun on these bytes has the status of a run that ends or stops, and never of one without meaning.
abbrev pub CodeIsDefined : Type 0
CodeIsDefined =
    (d c j : List ℕ) (until limit : ℕ) (diagram inputs : List ℕ) (coded ran : Answer) (files : Files) (names : List (List ℕ))
    → IsGenerated d until limit diagram inputs coded
    → Due files (spelled (run_c c j until limit)) (coded.out ∷ inputs ∷ []) names ran → (ran.status ≡ 0) ⊎ (ran.status ≡ 6)
