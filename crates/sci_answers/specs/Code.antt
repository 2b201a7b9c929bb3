-- `ccode`: the text of a C program that means the trace of a diagram's net.
use Rattle.std.specs.Prelude.{ℕ, ◌≡◌, ◌≤◌, ◌^◌, pos, List}
use Rattle.sci_base.specs.declared.limits.TheConstants.{TICKS}
use Rattle.sci_base.specs.declared.observation.Obs.{Obs}
use Rattle.sci_net.specs.Parts.{Parts}
use Rattle.sci_reaction.specs.Memory.{Columns, AreColumns}
use Rattle.sci_reaction.specs.Schedule.{Entry}
use Rattle.sci_run.specs.Run.{State}
use Rattle.sci_run.specs.Finish.{Ending, Finish}
use Rattle.c_ast.specs.Syntax.{Whole}
use Rattle.c_ast.specs.Spelling.{spelling}
use Rattle.c_ast.specs.Bounds.{IsWhole}
use Rattle.c_ast.specs.Rules.{KeepsRules}
use Rattle.c_mean.specs.Meaning.{meaning}
use Rattle.sci_program.specs.Laws.{answer_by, HasBlockFunctions}
use Rattle.sci_program.specs.Stepping.{Steps}
use Rattle.sci_cgen_laws.specs.Values.{KeepsValues}
use Rattle.sci_cgen_laws.specs.Places.{HasPlaces}
use Rattle.sci_verdict.specs.Verdict.{Plan, Accepts, Breaks}
use Rattle.sci_answers.specs.Answer.{Answer, prints}
use Rattle.sci_answers.specs.Course.{diagram_slot, Course, gives, reads}

-- On every input file in range and within all bounds the program observes exactly the trace of the net, and it ends as the run does. So it is
-- never undefined.
abbrev pub MeansRun : Parts → Whole → Type 0
MeansRun n p =
    (i : Columns) (until limit : ℕ) (st : State) (how : Ending) (os : List Obs) → AreColumns n i → until ≤ TICKS → limit ≤ 2 ^ 51
    → Finish n i until limit st how os
    → meaning p i (pos until) (pos limit) ≡ record { seen = os; how = answer_by how }

-- A program for a net and its schedule: one of the subset of C, which keeps its bounds and its static rules and means the trace of the net, run by main or
-- stepped by its host, one call an event; with a function for each block, which as many calls name as the schedule has entries of the block. Values are
-- assigned by these functions and by the assignments with which main begins, and no others are shown as values; each function does what its block does, on
-- places of its own.
pub record IsCode (n : Parts) (rows : List (List Entry)) (p : Whole) : Type 0 where
  pub whole : IsWhole p
  pub rules : KeepsRules p
  pub means : MeansRun n p
  pub steps : Steps n p
  pub functions : HasBlockFunctions n rows p
  pub values : KeepsValues n p
  pub places : HasPlaces n rows p

-- the text of one
pub record IsCodeOf (p : Plan) (a : Answer) : Type 0 where
  pub code : Whole
  pub is_code : IsCode p.net p.rows code
  pub told : a ≡ prints (spelling code)

-- a diagram is read
abbrev pub code_course : (d : List ℕ) → Course
code_course d = reads Plan diagram_slot d Accepts Breaks (λ p. gives (IsCodeOf p))
