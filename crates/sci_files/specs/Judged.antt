-- What the rules of a file make of its bytes.
use Rattle.std.specs.Prelude.{ℕ, ◌≡◌, List, Result, Ok, Err, Vec}
use Rattle.sci_base.specs.Plain.{Violation}
use Rattle.c_ast.specs.declared.Program.{Program}
use Rattle.c_ast.specs.View.{whole_of}
use Rattle.sci_verdict.specs.Verdict.{Plan, Accepts, plan_of}
use Rattle.sci_verdict.specs.declared.checked.Checked.{Checked}
use Rattle.sci_answers.specs.Report.{report_text}
use Rattle.sci_answers.specs.RunC.{AcceptsC}
use Rattle.sci_base.specs.Stops.{StopsBy}
use Rattle.sci_words.specs.declared.command.Report.{Report}
use Rattle.sci_base.specs.declared.stop.Stop.{Stop}
use Rattle.sci_answers.specs.declared.told.Told.{Told}
use Rattle.std.specs.declared.alloc.Global.{Global}
use Rattle.sci_net.specs.Parts.{Parts}
use Rattle.sci_reaction.specs.Memory.{Columns}
use Rattle.sci_save.specs.declared.image.Image.{Image}
use Rattle.sci_save.specs.Saved.{saved_of}
use Rattle.sci_answers.specs.Resume.{AcceptsSaved}
use Rattle.sci_answers.specs.Prepared.{HasRows, told_text}

-- what is made of the bytes, or the first rule that they break; want of memory may come at any time
abbrev pub IsJudged : {A : Type 0} → (List ℕ → A → Type 0) → (List ℕ → Violation → Type 0) → List ℕ → Result A Stop → Type 0
IsJudged accepts breaks bytes (Ok made) = accepts bytes made
IsJudged accepts breaks bytes (Err e) = StopsBy (breaks bytes) e

-- it has the text of this report on a plan
abbrev pub Tells : Report → Plan → Told → Type 0
Tells r p t = (report_text r p ≡ told_text t) × HasRows t

-- the bytes are a diagram, and this tells the report on its plan
abbrev pub AcceptsTold : Report → List ℕ → Told → Type 0
AcceptsTold r bytes t = (p : Plan) × Accepts bytes p × Tells r p t

-- the bytes are a diagram with this net and these schedules
abbrev pub AcceptsChecked : List ℕ → Checked → Type 0
AcceptsChecked bytes c = Accepts bytes (plan_of c)

-- the bytes spell this program
abbrev pub AcceptsProgram : List ℕ → Program → Type 0
AcceptsProgram bytes p = AcceptsC bytes (whole_of p)

-- a file that may hold any bytes
abbrev pub IsBytes : List ℕ → Vec ℕ Global → Type 0
IsBytes bytes made = made.items ≡ bytes

-- the bytes are the text of what this saves
abbrev pub AcceptsImage : Parts → Columns → List ℕ → Image → Type 0
AcceptsImage n i bytes m = AcceptsSaved n i bytes (saved_of m)
