-- What is due of a run, wherever simulate is due to do it.
use Rattle.std.specs.Prelude.{ℕ, ◌≡◌, ◌<◌, ◌+◌, ◌≤◌, List, [], ◌∷◌}
use Rattle.sci_base.specs.declared.limits.TheConstants.{TICKS, EVENTS}
use Rattle.sci_base.specs.declared.observation.Obs.{Obs}
use Rattle.sci_io.specs.Files.{Files}
use Rattle.sci_run.specs.Observed.{reactions}
use Rattle.sci_words.specs.Words.{simulate, save, dump, spelled}
use Rattle.sci_answers.specs.Answer.{Answer, IsDone, refused}
use Rattle.sci_answers.specs.Simulate.{ran}
use Rattle.sci_answers.specs.Save.{run_ended}
use Rattle.sci_answers.specs.Due.{Due}

-- Of a diagram's and an input file's bytes this answer is due of simulate, which is no refusal.
pub record IsSimulatedRun (files : Files) (d i : List ℕ) (until limit : ℕ) (diagram inputs : List ℕ) (simulated : Answer) : Type 0 where
  pub until_within : until ≤ TICKS
  pub limit_within : limit ≤ EVENTS
  pub names : List (List ℕ)
  pub due : Due files (spelled (simulate d i until limit)) (diagram ∷ inputs ∷ []) names simulated
  pub done : IsDone simulated.status

-- This answer is due of save behind the k-th reaction: the text of what is saved where the run has more reactions, and else how many it has.
pub record IsDueBehind (k : ℕ) (files : Files) (d i : List ℕ) (until limit : ℕ) (diagram inputs : List ℕ) (simulated saved : Answer) : Type 0 where
  pub due : Due files (spelled (save d i until limit k)) (diagram ∷ inputs ∷ []) (d ∷ i ∷ []) saved
  pub observed : List Obs
  pub told : simulated ≡ ran observed
  pub written : k < reactions observed → saved.status ≡ 0
  pub over : reactions observed ≤ k → saved ≡ refused (run_ended k (reactions observed))

-- Then something is due of save behind each reaction ..
abbrev pub SaveIsDue : Type 0
SaveIsDue =
    (files : Files) (d i : List ℕ) (until limit k : ℕ) (diagram inputs : List ℕ) (simulated : Answer)
    → IsSimulatedRun files d i until limit diagram inputs simulated → 1 ≤ k → k ≤ EVENTS + 1 → (saved : Answer) × IsDueBehind k files d i until limit diagram inputs simulated saved

-- .. and a dump of vcd, with the same status.
abbrev pub DumpIsDue : Type 0
DumpIsDue =
    (files : Files) (d i : List ℕ) (until limit : ℕ) (diagram inputs : List ℕ) (simulated : Answer)
    → IsSimulatedRun files d i until limit diagram inputs simulated → (dumped : Answer) × Due files (spelled (dump d i until limit)) (diagram ∷ inputs ∷ []) (d ∷ i ∷ []) dumped × (dumped.status ≡ simulated.status)
