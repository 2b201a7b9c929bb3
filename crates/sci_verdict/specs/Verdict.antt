-- The verdict on a diagram's file: its net with its schedules, or the first rule that it breaks.
use Rattle.std.specs.Prelude.{◌≡◌, ℕ, List, Result, Ok, Err}
use Rattle.sci_base.specs.Plain.{Violation}
use Rattle.sci_diagram.specs.Objects.{Objects}
use Rattle.sci_diagram.specs.Reading.{Accepts as IsDiagram, Breaks as IsNoDiagram}
use Rattle.sci_net.specs.Parts.{Parts}
use Rattle.sci_flat.specs.Flat.{IsFlatNet}
use Rattle.sci_flat.specs.Refused.{Breaks as IsNotFlat}
use Rattle.sci_infer.specs.Answer.{IsAnswer}
use Rattle.sci_reaction.specs.Schedule.{Entry}
use Rattle.sci_sched.specs.Plain.{rows_of}
use Rattle.sci_sched.specs.Answer.{IsPlan, IsPlanBreak}
use Rattle.sci_sched.specs.Size.{entry_count, guard_count}
use Rattle.sci_verdict.specs.declared.checked.Checked.{Checked}
use Rattle.sci_verdict.specs.declared.checked.Measured.{Measured}
use Rattle.sci_base.specs.declared.stop.Stop.{Stop}
use Rattle.sci_base.specs.Stops.{StopsBy}

-- the bytes are a diagram that gives this flat net
pub record GivesFlat (bytes : List ℕ) (n : Parts) : Type 0 where
  pub tree : Objects
  pub read : IsDiagram bytes tree
  pub flat : IsFlatNet tree n

-- the bytes are a diagram that gives this typed net
pub record GivesNet (bytes : List ℕ) (n : Parts) : Type 0 where
  pub declared : Parts
  pub given : GivesFlat bytes declared
  pub inferred : IsAnswer declared (Ok n)

-- the first rule that the bytes break on their way to a typed net
pub data BreaksNet (bytes : List ℕ) (v : Violation) : Type 0 where
  unread : IsNoDiagram bytes v → BreaksNet bytes v
  not_flat : (t : Objects) → IsDiagram bytes t → IsNotFlat t v → BreaksNet bytes v
  not_typed : (n : Parts) → GivesFlat bytes n → IsAnswer n (Err v) → BreaksNet bytes v

-- a typed net with its static schedules, a row for each source
pub record Plan : Type 0 where
  pub net : Parts
  pub rows : List (List Entry)

-- the bytes are a diagram that keeps all rules, and gives this net with these schedules
pub record Accepts (bytes : List ℕ) (p : Plan) : Type 0 where
  pub given : GivesNet bytes p.net
  pub planned : IsPlan p.net p.rows

-- the bytes are a diagram that keeps all rules, and gives this net with schedules of this size
pub record AcceptsSize (bytes : List ℕ) (m : Measured) : Type 0 where
  pub plan : Plan
  pub given : Accepts bytes plan
  pub net : plan.net ≡ m.net
  pub entries : entry_count plan.rows ≡ m.size.entries
  pub guards : guard_count plan.rows ≡ m.size.guards

-- the first rule that the bytes break
pub data Breaks (bytes : List ℕ) (v : Violation) : Type 0 where
  no_net : BreaksNet bytes v → Breaks bytes v
  no_plan : (n : Parts) → GivesNet bytes n → IsPlanBreak n v → Breaks bytes v

-- ---- a diagram in memory

-- its tree gives this typed net
pub record TreeGivesNet (t : Objects) (n : Parts) : Type 0 where
  pub declared : Parts
  pub flat : IsFlatNet t declared
  pub inferred : IsAnswer declared (Ok n)

-- the first rule that it breaks on its way to a typed net
pub data TreeBreaksNet (t : Objects) (v : Violation) : Type 0 where
  tree_not_flat : IsNotFlat t v → TreeBreaksNet t v
  tree_not_typed : (n : Parts) → IsFlatNet t n → IsAnswer n (Err v) → TreeBreaksNet t v

-- it keeps all rules, and gives this net with these schedules
pub record TreeAccepts (t : Objects) (p : Plan) : Type 0 where
  pub given : TreeGivesNet t p.net
  pub planned : IsPlan p.net p.rows

-- the first rule that it breaks
pub data TreeBreaks (t : Objects) (v : Violation) : Type 0 where
  tree_no_net : TreeBreaksNet t v → TreeBreaks t v
  tree_no_plan : (n : Parts) → TreeGivesNet t n → IsPlanBreak n v → TreeBreaks t v

-- ---- what an answer says; want of memory may come at any time

abbrev pub IsTyped : List ℕ → Result Parts Stop → Type 0
IsTyped bytes (Ok n) = GivesNet bytes n
IsTyped bytes (Err e) = StopsBy (BreaksNet bytes) e

abbrev pub plan_of : Checked → Plan
plan_of c = record { net = c.net; rows = rows_of c.schedule }

abbrev pub IsChecked : List ℕ → Result Checked Stop → Type 0
IsChecked bytes (Ok c) = Accepts bytes (plan_of c)
IsChecked bytes (Err e) = StopsBy (Breaks bytes) e

abbrev pub IsMeasured : List ℕ → Result Measured Stop → Type 0
IsMeasured bytes (Ok m) = AcceptsSize bytes m
IsMeasured bytes (Err e) = StopsBy (Breaks bytes) e

abbrev pub IsTreeTyped : Objects → Result Parts Stop → Type 0
IsTreeTyped t (Ok n) = TreeGivesNet t n
IsTreeTyped t (Err e) = StopsBy (TreeBreaksNet t) e

abbrev pub IsTreeChecked : Objects → Result Checked Stop → Type 0
IsTreeChecked t (Ok c) = TreeAccepts t (plan_of c)
IsTreeChecked t (Err e) = StopsBy (TreeBreaks t) e
