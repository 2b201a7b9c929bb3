-- `resume`: a run that goes on from what was saved.
use Rattle.std.specs.Prelude.{ℕ, ◌≡◌, pos, List, [], ◌∷◌, ℤ}
use Rattle.sci_base.specs.Plain.{Violation}
use Rattle.sci_base.specs.declared.observation.Obs.{Obs}
use Rattle.sci_base.specs.declared.refusal.Rule.TheVariants.{NotSave}
use Rattle.sci_net.specs.Parts.{Parts}
use Rattle.sci_reaction.specs.Memory.{Columns}
use Rattle.sci_run.specs.Run.{IsRest}
use Rattle.sci_save.specs.Saved.{Saved}
use Rattle.sci_save.specs.Blame.{Spells, IsBlamed}
use Rattle.sci_save.specs.Resumed.{state_of}
use Rattle.sci_answers.specs.Answer.{Answer}
use Rattle.sci_answers.specs.Simulate.{ran}
use Rattle.sci_verdict.specs.Verdict.{Plan}
use Rattle.sci_answers.specs.Course.{third_slot, Course, gives, reads}
use Rattle.sci_answers.specs.Inputs.{reads_run}

-- this line is the first that no text of what may be saved has
abbrev pub not_save : ℕ → Violation
not_save line = record { rule = NotSave; place = []; detail = pos line ∷ [] }

-- the bytes are the text of this
abbrev pub AcceptsSaved : Parts → Columns → List ℕ → Saved → Type 0
AcceptsSaved n i bytes m = Spells n i bytes m

-- they are no such text
pub record BreaksSaved (n : Parts) (i : Columns) (bytes : List ℕ) (v : Violation) : Type 0 where
  pub line : ℕ
  pub blamed : IsBlamed n i bytes line
  pub told : v ≡ not_save line

-- it tells the rest of the run from what was saved on, up to the last date, of a run of at most so many events
abbrev pub IsRestOf : Parts → Columns → (until limit : ℕ) → Saved → Answer → Type 0
IsRestOf n i until limit m a = (os : List Obs) × IsRest n i until limit (state_of m) os × (a ≡ ran os)

-- the file from which the run goes on
abbrev pub reads_saved : (s : List ℕ) → (until limit : ℕ) → Plan → List (List ℤ) → Course
reads_saved s until limit p columns =
    reads Saved third_slot s (AcceptsSaved p.net columns) (BreaksSaved p.net columns) (λ m. gives (IsRestOf p.net columns until limit m))

-- and before it a diagram and its input file
abbrev pub resume_course : (d i s : List ℕ) (until limit : ℕ) → Course
resume_course d i s until limit = reads_run d i (reads_saved s until limit)
