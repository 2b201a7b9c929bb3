-- What a command comes to whose files were looked at.
use Rattle.std.specs.Prelude.{◌≡◌, List, Result, Ok, Err}
use Rattle.sci_io.specs.Files.{FolderState}
use Rattle.sci_bank.specs.Bank.{Meaning}
use Rattle.sci_answers.specs.Answer.{Answer, no_memory}
use Rattle.sci_words.specs.Words.{Request}
use Rattle.sci_answers.specs.Due.{course_of}
use Rattle.sci_answers.specs.Coming.{ReachesTo, ReachesCounting}
use Rattle.sci_files.specs.declared.look.LookStop.{LookStop}
use Rattle.sci_answers.specs.declared.prepared.Prepared.{Prepared}
use Rattle.sci_answers.specs.Prepared.{IsAnswerOf, IsPrepared, LeavesBanks, MayLack}
use Rattle.sci_files.specs.Look.{stop_answer}

-- the answers of a command whose files were looked at
abbrev pub IsLookedAnswer : Result Prepared LookStop → Answer → Type 0
IsLookedAnswer (Ok p) a = IsAnswerOf p a
IsLookedAnswer (Err e) a = a ≡ stop_answer e

abbrev pub IsLookedAt : List Meaning → Result Prepared LookStop → Type 0
IsLookedAt banks (Ok p) = IsPrepared banks p
IsLookedAt banks (Err e) = Unit {0}

-- a command that stops there leaves no run to count
abbrev pub LooksLeave : Result Prepared LookStop → (before after : List Meaning) → Type 0
LooksLeave (Ok p) before after = LeavesBanks p before after
LooksLeave (Err e) before after = Unit {0}

abbrev pub LooksMayLack : Result Prepared LookStop → Type 0
LooksMayLack (Ok p) = MayLack p
LooksMayLack (Err e) = ⊥

-- What a command whose files were looked at comes to: its answers, and the counts of its run in the banks that it leaves; and, where memory may
-- lack when it begins, that it does.
pub record LooksAt (old new : FolderState) (banks : List Meaning) (c : Request) (result : Result Prepared LookStop) : Type 0 where
  pub reaches : (a : Answer) → IsLookedAnswer result a → ReachesCounting old new c a (LooksLeave result banks)
  pub prepared : IsLookedAt banks result
  pub lacks : LooksMayLack result → ReachesTo old new (course_of c) no_memory

-- The same whatever the banks are, of a command for which no bank is asked.
pub record LooksWithoutBanks (old new : FolderState) (c : Request) (result : Result Prepared LookStop) : Type 0 where
  pub each : (banks : List Meaning) → LooksAt old new banks c result
