-- `save`: what is remembered of a run behind a reaction.
use Rattle.std.specs.Prelude.{ℕ, ◌≡◌, pos, [], ◌∷◌, ℤ, List}
use Rattle.sci_base.specs.Plain.{Violation}
use Rattle.sci_base.specs.declared.refusal.Rule.TheVariants.{RunEnded}
use Rattle.sci_net.specs.Parts.{Parts}
use Rattle.sci_reaction.specs.Memory.{Columns}
use Rattle.sci_save.specs.Saved.{Saved}
use Rattle.sci_save.specs.Text.{saved_text}
use Rattle.sci_resume.specs.Behind.{IsSavedBehind, HasEnded}
use Rattle.sci_answers.specs.Answer.{Answer, prints, refused}
use Rattle.sci_verdict.specs.Verdict.{Plan}
use Rattle.sci_answers.specs.Course.{Course, gives}
use Rattle.sci_answers.specs.Inputs.{reads_run}

-- the run has no reaction behind the k-th: how many it has
abbrev pub run_ended : (k count : ℕ) → Violation
run_ended k count = record { rule = RunEnded; place = []; detail = pos k ∷ pos count ∷ [] }

-- What is due of a run that is to be saved behind its k-th reaction: the text of what is saved there, where it goes on; else a refusal.
pub data IsSaveOf (n : Parts) (i : Columns) (until limit k : ℕ) (a : Answer) : Type 0 where
  saves : (m : Saved) → IsSavedBehind n i until limit k m → a ≡ prints (saved_text n m) → IsSaveOf n i until limit k a
  ended : (count : ℕ) → HasEnded n i until limit k count → a ≡ refused (run_ended k count) → IsSaveOf n i until limit k a

-- what comes behind both files
abbrev pub gives_save : (until limit k : ℕ) → Plan → List (List ℤ) → Course
gives_save until limit k p columns = gives (IsSaveOf p.net columns until limit k)

-- a diagram and its input file are read
abbrev pub save_course : (d i : List ℕ) (until limit k : ℕ) → Course
save_course d i until limit k = reads_run d i (gives_save until limit k)
