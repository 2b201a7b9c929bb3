-- What is due of judge, wherever simulate is due to run.
use Rattle.std.specs.Prelude.{ℕ, ◌≡◌, ◌≤◌, length, List, [], ◌∷◌}
use Rattle.sci_base.specs.declared.observation.Obs.{Obs}
use Rattle.sci_io.specs.Files.{Files}
use Rattle.sci_agree.specs.declared.verdict.Verdict.TheVariants.{Yes}
use Rattle.sci_words.specs.Words.{judge, spelled}
use Rattle.sci_answers.specs.Answer.{Answer}
use Rattle.sci_answers.specs.Simulate.{ran}
use Rattle.sci_answers.specs.Judge.{judged}
use Rattle.sci_answers.specs.Course.{Holds, third_slot}
use Rattle.sci_answers.specs.Due.{Due}
use Rattle.sci_command_laws.specs.RunsDue.{IsSimulatedRun}

-- Of the bytes that are due of simulate judge is due to say yes, with how many observations they tell.
pub record IsToldYes (files : Files) (d i v : List ℕ) (until limit : ℕ) (diagram inputs : List ℕ) (simulated : Answer) : Type 0 where
  pub observed : List Obs
  pub told : simulated ≡ ran observed
  pub due : Due files (spelled (judge d i v until limit)) (diagram ∷ inputs ∷ simulated.out ∷ []) (d ∷ i ∷ v ∷ []) (judged (Yes (length observed)))

-- Where simulate is due to run, and a file holds the bytes that are due of it, judge says yes of this file ..
abbrev pub JudgeSaysYes : Type 0
JudgeSaysYes =
    (files : Files) (d i v : List ℕ) (until limit : ℕ) (diagram inputs : List ℕ) (simulated : Answer)
    → IsSimulatedRun files d i until limit diagram inputs simulated → Holds files v simulated.out → length simulated.out ≤ third_slot.longest → IsToldYes files d i v until limit diagram inputs simulated

-- .. and of no file with other bytes, whatever the files of judge are: where its status is 0, it was given the bytes that are due of simulate.
abbrev pub JudgeSaysYesOfNothingElse : Type 0
JudgeSaysYesOfNothingElse =
    (files judge_files : Files) (d i c j v : List ℕ) (until limit : ℕ) (diagram inputs file : List ℕ) (names : List (List ℕ)) (simulated answer : Answer)
    → IsSimulatedRun files d i until limit diagram inputs simulated
    → Due judge_files (spelled (judge c j v until limit)) (diagram ∷ inputs ∷ file ∷ []) names answer → answer.status ≡ 0 → file ≡ simulated.out
