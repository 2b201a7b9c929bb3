-- A run that was saved goes on as the whole run does.
use Rattle.std.specs.Prelude.{ℕ, ◌≡◌, ◌+◌, ◌≤◌, ◌++◌, List, [], ◌∷◌}
use Rattle.sci_base.specs.declared.limits.TheConstants.{TICKS, EVENTS}
use Rattle.sci_base.specs.declared.observation.Obs.{Obs}
use Rattle.sci_io.specs.Files.{Files}
use Rattle.sci_trace.specs.Lines.{text}
use Rattle.sci_resume.specs.Laws.{AreParted}
use Rattle.sci_words.specs.Words.{simulate, save, resume, spelled}
use Rattle.sci_answers.specs.Answer.{Answer, IsDone}
use Rattle.sci_answers.specs.Simulate.{ran}
use Rattle.sci_answers.specs.Course.{Holds}
use Rattle.sci_answers.specs.Due.{Due}

-- Of a diagram's and an input file's bytes this answer is due of simulate, and this one of save: the state of the run behind its k-th reaction.
pub record IsSavedRun (d i : List ℕ) (until limit k : ℕ) (diagram inputs : List ℕ) (simulated saved : Answer) : Type 0 where
  pub until_within : until ≤ TICKS
  pub limit_within : limit ≤ EVENTS
  pub least : 1 ≤ k
  pub most : k ≤ EVENTS + 1
  pub files : Files
  pub names : List (List ℕ)
  pub due : Due files (spelled (simulate d i until limit)) (diagram ∷ inputs ∷ []) names simulated
  pub done : IsDone simulated.status
  pub save_files : Files
  pub save_names : List (List ℕ)
  pub save_due : Due save_files (spelled (save d i until limit k)) (diagram ∷ inputs ∷ []) save_names saved
  pub written : saved.status ≡ 0

-- It is the rest of a run: behind the lines of the first k reactions its lines are those of the whole run, and the status is the same.
pub record IsRestBehind (k : ℕ) (whole part : Answer) : Type 0 where
  pub front : List Obs
  pub rest : List Obs
  pub parted : AreParted k front rest
  pub whole_is : whole ≡ ran (front ++ rest)
  pub part_is : part ≡ ran rest
  pub bytes : whole.out ≡ text front ++ part.out
  pub status : part.status ≡ whole.status

-- Then what is due of resume on the bytes that save writes, with the same diagram, the same input file and the same bounds, is the rest of the run ..
abbrev pub ResumesAlike : Type 0
ResumesAlike =
    (d i c j s : List ℕ) (until limit k : ℕ) (diagram inputs : List ℕ) (simulated saved resumed : Answer) (files : Files) (names : List (List ℕ))
    → IsSavedRun d i until limit k diagram inputs simulated saved
    → Due files (spelled (resume c j s until limit)) (diagram ∷ inputs ∷ saved.out ∷ []) names resumed → IsRestBehind k simulated resumed

-- .. which is due of it.
abbrev pub ResumeIsDue : Type 0
ResumeIsDue =
    (d i c j s : List ℕ) (until limit k : ℕ) (diagram inputs : List ℕ) (simulated saved : Answer) (files : Files)
    → IsSavedRun d i until limit k diagram inputs simulated saved
    → Holds files c diagram → Holds files j inputs → Holds files s saved.out
    → (resumed : Answer) × Due files (spelled (resume c j s until limit)) (diagram ∷ inputs ∷ saved.out ∷ []) (c ∷ j ∷ s ∷ []) resumed
