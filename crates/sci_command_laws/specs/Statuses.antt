-- The statuses of what is due of each command.
use Rattle.std.specs.Prelude.{ℕ, ◌≡◌, ◌⊎◌, List, [], ◌∷◌}
use Rattle.sci_io.specs.Files.{Files}
use Rattle.sci_agree.specs.declared.verdict.Verdict.TheVariants.{No}
use Rattle.sci_words.specs.Words.{Request, simulate, judge, resume, run_c, host, bulk, dump, Spells, NoCommand}
use Rattle.sci_answers.specs.Answer.{Answer}
use Rattle.sci_answers.specs.RunC.{undefined_line}
use Rattle.sci_answers.specs.Judge.{judged}
use Rattle.sci_answers.specs.Due.{Due}

-- 0 where it was done, 1 where it was refused, 6 where a run stopped, 7 where a C program has no meaning, 8 where a file isn't the trace
abbrev pub statuses_of : Request → List ℕ
statuses_of (simulate d i until limit) = 0 ∷ 1 ∷ 6 ∷ []
statuses_of (judge d i v until limit) = 0 ∷ 1 ∷ 8 ∷ []
statuses_of (resume d i s until limit) = 0 ∷ 1 ∷ 6 ∷ []
statuses_of (run_c c i until limit) = 0 ∷ 1 ∷ 6 ∷ 7 ∷ []
statuses_of host = 0 ∷ []
statuses_of (bulk seed size) = 0 ∷ []
statuses_of (dump d i until limit) = 0 ∷ 1 ∷ 6 ∷ []
statuses_of _ = 0 ∷ 1 ∷ []

-- it is one of these numbers
abbrev pub IsOneOf : List ℕ → ℕ → Type 0
IsOneOf [] status = ⊥
IsOneOf (s ∷ ss) status = (status ≡ s) ⊎ IsOneOf ss status

-- what is due of a command has one of its statuses, and what is due of other words status 2
abbrev pub EachHasItsStatuses : Type 0
EachHasItsStatuses =
    (files : Files) (words bytes names : List (List ℕ)) (a : Answer) → Due files words bytes names a
    → (NoCommand words × (a.status ≡ 2)) ⊎ ((c : Request) × Spells words c × IsOneOf (statuses_of c) a.status)

-- ---- 8

-- the words are those of judge, and the answer is no, with the first line that differs
pub record JudgesNo (words : List (List ℕ)) (a : Answer) : Type 0 where
  pub diagram : List ℕ
  pub inputs : List ℕ
  pub trace : List ℕ
  pub until : ℕ
  pub limit : ℕ
  pub spelled_so : Spells words (judge diagram inputs trace until limit)
  pub line : ℕ
  pub told : a ≡ judged (No line)

abbrev pub EightIsOfJudge : Type 0
EightIsOfJudge = (files : Files) (words bytes names : List (List ℕ)) (a : Answer) → Due files words bytes names a → a.status ≡ 8 → JudgesNo words a

-- ---- 7

-- the words are those of crun, and the answer tells the statement that has no meaning
pub record RunsUndefined (words : List (List ℕ)) (a : Answer) : Type 0 where
  pub program : List ℕ
  pub inputs : List ℕ
  pub until : ℕ
  pub limit : ℕ
  pub spelled_so : Spells words (run_c program inputs until limit)
  pub statement : ℕ
  pub told : a.err ≡ undefined_line statement

abbrev pub SevenIsOfCrun : Type 0
SevenIsOfCrun = (files : Files) (words bytes names : List (List ℕ)) (a : Answer) → Due files words bytes names a → a.status ≡ 7 → RunsUndefined words a

-- ---- 6

-- it is simulate, resume, crun or vcd, whose status tells whether a run stopped
abbrev pub MayStop : Request → Type 0
MayStop (simulate d i until limit) = Unit {0}
MayStop (resume d i s until limit) = Unit {0}
MayStop (run_c c i until limit) = Unit {0}
MayStop (dump d i until limit) = Unit {0}
MayStop _ = ⊥

abbrev pub SixIsOfRuns : Type 0
SixIsOfRuns =
    (files : Files) (words bytes names : List (List ℕ)) (a : Answer) → Due files words bytes names a → a.status ≡ 6
    → (c : Request) × Spells words c × MayStop c
