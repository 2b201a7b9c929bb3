-- Laws of what is due.
use Rattle.std.specs.Prelude.{ℕ, ◌≡◌, ◌⊎◌, List, Some}
use Rattle.sci_base.specs.Plain.{Violation}
use Rattle.sci_io.specs.Files.{Files}
use Rattle.sci_verdict.specs.Laws.{AreLoops}
use Rattle.sci_verdict.specs.Verdict.{Plan}
use Rattle.sci_words.specs.Words.{code, spelled}
use Rattle.sci_answers.specs.Answer.{Answer, refused}
use Rattle.sci_answers.specs.Code.{IsCodeOf}
use Rattle.sci_answers.specs.Due.{Due}

-- both tell a loop of one source
pub record TellLoops (a b : Answer) : Type 0 where
  pub one : Violation
  pub other : Violation
  pub loops : AreLoops one other
  pub tells_one : a ≡ refused one
  pub tells_other : b ≡ refused other

-- the words are those of `ccode`, and both are the text of such a program for one plan
pub record TellCode (words : List (List ℕ)) (a b : Answer) : Type 0 where
  pub diagram : List ℕ
  pub asked : words ≡ spelled (code diagram)
  pub plan : Plan
  pub tells_one : IsCodeOf plan a
  pub tells_other : IsCodeOf plan b

abbrev pub AreOneAnswer : List (List ℕ) → Answer → Answer → Type 0
AreOneAnswer words a b = (a ≡ b) ⊎ (TellLoops a b ⊎ TellCode words a b)

-- Where the files are told, at most one answer is due of the words, with one list of names; but that any loop of the least source that
-- has one may be told, and of `ccode` the text of any such program.
abbrev pub OneAnswer : Type 0
OneAnswer =
    (all : List (List ℕ × List ℕ)) (words bytes other_bytes names others : List (List ℕ)) (a b : Answer) → Due (Some all) words bytes names a
    → Due (Some all) words other_bytes others b → AreOneAnswer words a b × (names ≡ others)

-- The same of any files, told or not, whose bytes are these.
abbrev pub OneAnswerOfBytes : Type 0
OneAnswerOfBytes =
    (files : Files) (words bytes names others : List (List ℕ)) (a b : Answer) → Due files words bytes names a → Due files words bytes others b
    → AreOneAnswer words a b × (names ≡ others)
