-- What is due of `ranges` holds of what is due of the commands that run a diagram.
use Rattle.std.specs.Prelude.{ℕ, ◌≡◌, ◌+◌, ◌≤◌, ◌↔◌, ◌++◌, List, [], ◌∷◌, codes}
use Rattle.sci_base.specs.declared.limits.TheConstants.{TICKS, EVENTS}
use Rattle.sci_base.specs.declared.observation.Obs.{Obs}
use Rattle.sci_io.specs.Files.{Files}
use Rattle.sci_needs.specs.Needs.{needs_of}
use Rattle.sci_reaction.specs.Memory.{Columns}
use Rattle.sci_verdict.specs.Verdict.{Plan, Accepts}
use Rattle.sci_words.specs.Words.{simulate, save, resume, run_c, spelled}
use Rattle.sci_answers.specs.Answer.{Answer, IsDone}
use Rattle.sci_answers.specs.Due.{Due}
use Rattle.sci_answers.specs.Inputs.{AcceptsColumns}
use Rattle.sci_answers.specs.Simulate.{ran}
use Rattle.sci_command_laws.specs.Ran.{IsGenerated}
use Rattle.sci_command_laws.specs.RunsDue.{IsSimulatedRun}
use Rattle.sci_ranges.specs.Columns.{KeepWithin}
use Rattle.sci_range_commands.specs.Due.{Due as DueOfRanges, IsRangesOf, files_of}
use Rattle.sci_range_command_laws.specs.Told.{AreTold, AreNoFaults}

-- ---- what is due of `ranges`

-- Of a diagram's and an input file's bytes this answer is due of `ranges`, which is no refusal.
pub record IsRanged (diagram inputs : List ℕ) (ranged : Answer) : Type 0 where
  pub files : Files
  pub d : List ℕ
  pub i : List ℕ
  pub names : List (List ℕ)
  pub due : DueOfRanges files (files_of d i) (diagram ∷ inputs ∷ []) names ranged
  pub done : ranged.status ≡ 0

-- its last line is `safe`
pub record IsSafe (ranged : Answer) : Type 0 where
  pub front : List ℕ
  pub split : ranged.out ≡ front ++ codes "safe\n"

-- the columns of another input file's bytes keep within those of the one's
abbrev pub KeepsWithin : (diagram inputs others : List ℕ) → Type 0
KeepsWithin diagram inputs others =
    (p : Plan) (i j : Columns) → Accepts diagram p → AcceptsColumns (needs_of p.net) inputs i → AcceptsColumns (needs_of p.net) others j → KeepWithin p.net i j

-- ---- what is refused

-- a refusal is due of `ranges` where the same is due of `simulate` on these files
abbrev pub RefusesAlike : Type 0
RefusesAlike =
    (files : Files) (d i : List ℕ) (until limit : ℕ) (bytes names : List (List ℕ)) (a : Answer) → until ≤ TICKS → limit ≤ EVENTS → a.status ≡ 1
    → DueOfRanges files (files_of d i) bytes names a ↔ Due files (spelled (simulate d i until limit)) bytes names a

-- ---- what it says of a run

-- The answer tells observations of a run. Each table that is told by the answer of `ranges`, and there is one, tells them; and where the last line is
-- `safe`, none is an overflow or a division by 0.
pub record IsWithin (diagram inputs : List ℕ) (ranged answer : Answer) : Type 0 where
  pub plan : Plan
  pub accepted : Accepts diagram plan
  pub columns : Columns
  pub read : AcceptsColumns (needs_of plan.net) inputs columns
  pub observed : List Obs
  pub ran_so : answer ≡ ran observed
  pub some : IsRangesOf plan.net columns ranged
  pub told : (r : IsRangesOf plan.net columns ranged) → AreTold plan.net r.table observed
  pub safe : IsSafe ranged → AreNoFaults observed

-- of what is due of `simulate`
abbrev pub SimulatedIsWithin : Type 0
SimulatedIsWithin =
    (files : Files) (d j : List ℕ) (until limit : ℕ) (diagram inputs others : List ℕ) (ranged simulated : Answer) → IsRanged diagram inputs ranged
    → KeepsWithin diagram inputs others → IsSimulatedRun files d j until limit diagram others simulated → IsWithin diagram inputs ranged simulated

-- of what is due of `crun` on the C of the diagram
abbrev pub CodeIsWithin : Type 0
CodeIsWithin =
    (d c j : List ℕ) (until limit : ℕ) (diagram inputs others : List ℕ) (ranged coded answer : Answer) (files : Files) (names : List (List ℕ))
    → IsRanged diagram inputs ranged → KeepsWithin diagram inputs others → IsGenerated d until limit diagram others coded
    → Due files (spelled (run_c c j until limit)) (coded.out ∷ others ∷ []) names answer → IsWithin diagram inputs ranged answer

-- ---- and of a run that goes on

-- Of a diagram's and an input file's bytes this answer is due of `save`: the state of the run behind one of its reactions.
pub record IsSaved (until limit reaction : ℕ) (diagram inputs : List ℕ) (saved : Answer) : Type 0 where
  pub until_within : until ≤ TICKS
  pub limit_within : limit ≤ EVENTS
  pub least : 1 ≤ reaction
  pub most : reaction ≤ EVENTS + 1
  pub files : Files
  pub d : List ℕ
  pub i : List ℕ
  pub names : List (List ℕ)
  pub due : Due files (spelled (save d i until limit reaction)) (diagram ∷ inputs ∷ []) names saved
  pub written : saved.status ≡ 0

-- Of these, and of what was saved, this answer is due of `resume`, which is no refusal.
pub record IsResumed (until limit : ℕ) (diagram inputs image : List ℕ) (resumed : Answer) : Type 0 where
  pub until_within : until ≤ TICKS
  pub limit_within : limit ≤ EVENTS
  pub files : Files
  pub d : List ℕ
  pub i : List ℕ
  pub s : List ℕ
  pub names : List (List ℕ)
  pub due : Due files (spelled (resume d i s until limit)) (diagram ∷ inputs ∷ image ∷ []) names resumed
  pub done : IsDone resumed.status

-- on the bytes that are due of `save`, with another input file and other bounds
abbrev pub ResumedIsWithin : Type 0
ResumedIsWithin =
    (until limit reaction later more : ℕ) (diagram inputs others further : List ℕ) (ranged saved resumed : Answer) → IsRanged diagram inputs ranged
    → KeepsWithin diagram inputs others → KeepsWithin diagram inputs further → IsSaved until limit reaction diagram others saved
    → IsResumed later more diagram further saved.out resumed → IsWithin diagram inputs ranged resumed
