-- Laws of bulk diagrams.
use Rattle.std.specs.Prelude.{◌≡◌, ℕ, ℤ, pos, ◌+◌, ◌*◌, ◌<◌, ◌≤◌, false, List, [], ◌∷◌, ◌++◌, length, Contains, Ok, Err}
use Rattle.sci_base.specs.declared.limits.TheConstants.{TICKS, EVENTS}
use Rattle.sci_base.specs.Plain.{Violation}
use Rattle.sci_base.specs.declared.observation.Obs.{Obs}
use Rattle.sci_base.specs.declared.observation.Obs.TheVariants.{End}
use Rattle.sci_base.specs.declared.observation.EndWord.TheVariants.{Events}
use Rattle.sci_kinds.specs.Table.{Values, out, delay}
use Rattle.sci_diagram.specs.Objects.{Objects}
use Rattle.sci_diagram.specs.Count.{counted}
use Rattle.sci_flat.specs.Ready.{IsReady}
use Rattle.sci_flat.specs.Flat.{IsFlatNet}
use Rattle.sci_flat.specs.Refused.{Breaks as IsNotFlat}
use Rattle.sci_infer.specs.Answer.{IsAnswer}
use Rattle.sci_net.specs.declared.Source.{Source}
use Rattle.sci_net.specs.declared.Source.TheVariants.{Port}
use Rattle.sci_net.specs.declared.Feed.{Feed}
use Rattle.sci_net.specs.Parts.{Parts, IsBlock, spec_of}
use Rattle.sci_forms.specs.Form.{is_sensor}
use Rattle.sci_net.specs.Sources.{sources_of}
use Rattle.sci_reaction.specs.Links.{SuppliesThrough, Feeds}
use Rattle.sci_reaction.specs.Active.{IsSync}
use Rattle.sci_reaction.specs.Depends.{IsLoopFree}
use Rattle.sci_reaction.specs.Schedule.{Entry, IsSchedule}
use Rattle.sci_reaction.specs.Memory.{Columns}
use Rattle.sci_run.specs.Activity.{Activity, halts}
use Rattle.sci_run.specs.Programs.{firing_of}
use Rattle.sci_run.specs.Run.{IsRun}
use Rattle.sci_sched.specs.Size.{size_of}
use Rattle.sci_sched.specs.Answer.{IsPlanBreak}
use Rattle.sci_bulk.specs.Bulk.{bulk}

-- numbers are in range, and there aren't too many blocks and ports
abbrev pub BulkIsReady : Type 0
BulkIsReady = (seed size : ℕ) → 1 ≤ size → size ≤ 2000 → IsReady (bulk seed size)

-- ---- nets without branches, whose values depend on those of earlier blocks alone

pub record IsForward (n : Parts) : Type 0 where
  pub earlier : (a b : ℕ) → SuppliesThrough n a b → a < b
  pub no_branch : (b : ℕ) → IsSync n b → ⊥

-- no source of such a net has a loop
abbrev pub ForwardIsFree : Type 0
ForwardIsFree = (n : Parts) (s : Source) → IsForward n → IsLoopFree n s

-- and its schedule has at most one entry for each block and source, and no guard
abbrev pub ForwardIsShort : Type 0
ForwardIsShort = (n : Parts) (rows : List (List Entry)) → IsForward n → IsSchedule n rows → size_of rows ≤ (length n.specs + 1) * length (sources_of n)

-- ---- nets whose run goes on

-- Nothing stops a run of such a net or halts it. Each of its sources but start activates its own block, which programs it anew within so many
-- ticks, and is programmed before the run for a date within as many; and there is one.
pub record IsRestless (n : Parts) (ticks : ℕ) : Type 0 where
  pub valued : (b : ℕ) → IsBlock n b → (x : List ℤ) (mask : ℕ) (u : List ℤ) → (vs : List ℤ) × (out (spec_of n b) x mask u ≡ Values vs)
  pub no_sensor : (b : ℕ) → is_sensor (spec_of n b).kind ≡ false
  pub no_halt : (active : Activity) → halts n active ≡ false
  pub first : (q : Feed) → Contains (sources_of n) (Port q) → (d : ℕ) × (firing_of n q ≡ pos d) × (d ≤ ticks)
  pub itself : (q : Feed) → Contains (sources_of n) (Port q) → Feeds n q q.block
  pub again : (q : Feed) → Contains (sources_of n) (Port q) → (u : List ℤ) → (d : ℕ) × (delay (spec_of n q.block) q.port u ≡ pos d) × (d ≤ ticks)
  pub one : Feed
  pub is_source : Contains (sources_of n) (Port one)

-- its run ends where the last event that may fire has fired
abbrev pub RestlessEndsByEvents : Type 0
RestlessEndsByEvents =
    (n : Parts) (ticks until limit : ℕ) (i : Columns) (os : List Obs) → IsRestless n ticks → ticks + ticks * limit ≤ until → IsRun n i until limit os
    → (seen : List Obs) × (os ≡ seen ++ End Events ∷ [])

-- ---- bulk diagrams

-- A diagram that breaks no rule: it has no more blocks and links than a file's may have; none on tags, blocks, links and feeding; none on types
-- and sizes, on the way from its flat net to its typed net; none on loops and the length of schedules.
pub record IsAccepted (t : Objects) : Type 0 where
  pub few : counted t ≡ Ok t
  pub flat : (v : Violation) → IsNotFlat t v → ⊥
  pub typed : (n : Parts) (v : Violation) → IsFlatNet t n → IsAnswer n (Err v) → ⊥
  pub planned : (n m : Parts) (v : Violation) → IsFlatNet t n → IsAnswer n (Ok m) → IsPlanBreak m v → ⊥

abbrev pub BulkIsAccepted : Type 0
BulkIsAccepted = (seed size : ℕ) → 1 ≤ size → size ≤ 2000 → IsAccepted (bulk seed size)

-- the run of its typed net to the last date ends by the bound on events
abbrev pub BulkEndsByEvents : Type 0
BulkEndsByEvents =
    (seed size : ℕ) (n m : Parts) (i : Columns) (limit : ℕ) (os : List Obs) → 1 ≤ size → size ≤ 2000 → limit ≤ EVENTS
    → IsFlatNet (bulk seed size) n → IsAnswer n (Ok m) → IsRun m i TICKS limit os → (seen : List Obs) × (os ≡ seen ++ End Events ∷ [])
