-- The ways are right: each gives what the table of kinds says, and reads nothing but what the block has. And so are the texts made of them.
use Rattle.std.specs.Prelude.{◌≡◌, ◌≢◌, ℕ, suc, ◌+◌, ◌<◌, ◌≤◌, ℤ, pos, ◌≤ℤ◌, ◌<ℤ◌, List, Some, None, true, false}
use Rattle.sci_forms.specs.declared.Kind.TheVariants.{Sensor, ModuloCount}
use Rattle.sci_base.specs.Lists.{at}
use Rattle.sci_forms.specs.declared.spec.Spec.{Spec}
use Rattle.sci_forms.specs.Ports.{total, Fills}
use Rattle.sci_forms.specs.Words.{param, state_len_of}
use Rattle.sci_forms.specs.Form.{is_sync, has_delay, reads_mask}
use Rattle.sci_forms.specs.Typed.{typed}
use Rattle.sci_kinds.specs.Asks.{IsState, IsMask}
use Rattle.sci_kinds.specs.Table.{cell, out, next_of, delay, branch}
use Rattle.c_ast.specs.declared.events.Opened.{Opened}
use Rattle.c_ast.specs.Syntax.{Block}
use Rattle.c_ast.specs.Bounds.{BlockFits, IsExp}
use Rattle.c_ast.specs.Events.{block_events}
use Rattle.c_ast.specs.Rules.{Scope, first_blamed}
use Rattle.c_mean.specs.Meaning.{World, Around, run_block}
use Rattle.c_mean.specs.Places.{HasValue, Has}
use Rattle.c_mean.specs.Texts.{block_within}
use Rattle.sci_cgen_blocks.specs.Terms.{Scratch, WayGives, value, WayFits, TermFits}
use Rattle.sci_cgen_blocks.specs.Recipes.{way_of, next_term, next_alike, next_along, delay_term, branch_term, scratch_of, next_scratch, given, fed, from_value, inputs}
use Rattle.sci_cgen_blocks.specs.Texts.{Places, values, scratch_name, body_text, next_text, delay_expression, branch_expression}
use Rattle.sci_cgen_blocks.specs.Meant.{Holds, HasScratch, HasNextScratch, IsFed, IsAny, IsApart, Answers, NextIs, Senses, AreInBounds, body_may, next_may}
use Rattle.sci_cgen_blocks.specs.Keeping.{Scene, ReadsWell, BlockKeeps, StandsIn, HasBlockNames, MayWork, MayStep}

-- the way gives each element's cell, whatever scratch holds before
abbrev pub CellLaw : Type 0
CellLaw =
    (s : Spec) (x : List ℤ) (m : ℕ) (u : List ℤ) → typed s ≡ true → s.kind ≢ Sensor → IsState s x → IsMask s m → Fills s.ins u
    → WayGives (given s x m u) (total s.outs) (cell s x m u) (way_of s.kind s)

-- it reads inputs with feedthrough, the state, and the mask by its kind, alone, and makes at most eight decisions, one in the other
abbrev pub CellReadsLaw : Type 0
CellReadsLaw = (s : Spec) → typed s ≡ true → s.kind ≢ Sensor → WayFits (fed s) (total s.outs) (way_of s.kind s) 8

-- a counter stands below its base
abbrev pub IsCount : Spec → List ℤ → Type 0
IsCount s x = s.kind ≡ ModuloCount → (pos 0 ≤ℤ at x 0) × (at x 0 <ℤ param s 0)

abbrev pub NextLaw : Type 0
NextLaw =
    (s : Spec) (x : List ℤ) (m : ℕ) (u : List ℤ) → typed s ≡ true → IsState s x → IsCount s x → Fills s.ins u
    → (i : ℕ) → i < state_len_of s.kind s → (t : Scratch) → value (given s x m u) t (next_term s.kind s i) ≡ Some (next_of s.kind s x m u i)

abbrev pub NextReadsLaw : Type 0
NextReadsLaw = (s : Spec) → typed s ≡ true → (i : ℕ) → i < state_len_of s.kind s → TermFits (from_value s i) 32 (next_term s.kind s i)

-- Where values of the next state are worked out alike, the term gives the element that is worked out, and reads the inputs and the state from this element on.
abbrev pub NextAlongLaw : Type 0
NextAlongLaw =
    (s : Spec) (x : List ℤ) (m : ℕ) (u : List ℤ) → typed s ≡ true → Fills s.ins u → (i : ℕ) → i < next_alike s.kind s → (t : Scratch)
    → value (record (given s x m u) { element = i }) t (next_along s.kind s) ≡ Some (next_of s.kind s x m u i)

abbrev pub NextAlongReadsLaw : Type 0
NextAlongReadsLaw =
    (s : Spec) → typed s ≡ true → (next_alike s.kind s ≤ state_len_of s.kind s)
    × ((i : ℕ) → i < next_alike s.kind s → TermFits (record (from_value s i) { element = i }) 32 (next_along s.kind s))

abbrev pub DelayTermLaw : Type 0
DelayTermLaw =
    (s : Spec) (x : List ℤ) (m p : ℕ) (u : List ℤ) → typed s ≡ true → has_delay s.kind ≡ true → Fills s.ins u
    → (t : Scratch) → (value (given s x m u) t (delay_term s.kind s) ≡ Some (delay s p u)) × TermFits (inputs s) 32 (delay_term s.kind s)

abbrev pub BranchTermLaw : Type 0
BranchTermLaw =
    (s : Spec) (x : List ℤ) (m : ℕ) (u : List ℤ) → typed s ≡ true → is_sync s.kind ≡ true → Fills s.ins u
    → (t : Scratch) → (value (given s x m u) t (branch_term s.kind s) ≡ Some (pos (branch s u))) × TermFits (inputs s) 32 (branch_term s.kind s)

-- ---- what the texts do in a memory

-- From a memory that holds the block's state, its inputs with feedthrough, and its mask where its kind looks at it, the text of its values leaves what the
-- table of kinds says, or ends the run by the stop. Its places can be spelled, so that the sum of a counter and a place is one.
abbrev pub ValuesLaw : Type 0
ValuesLaw =
    (env : Around) (s : Spec) (p : Places) (x : List ℤ) (m : ℕ) (u : List ℤ) (n : ℕ) (w : World) → typed s ≡ true → s.kind ≢ Sensor → IsState s x
    → IsMask s m → Fills s.ins u → Holds s p (IsFed s) x m u w → HasScratch s w → AreInBounds s p → IsApart s p
    → Answers s p w (out s x m u) (run_block env n (body_text s p) w)

-- A SENSOR's takes the next value of its column. The parameter counts columns from 1, and c from 0.
abbrev pub SensorLaw : Type 0
SensorLaw =
    (env : Around) (s : Spec) (p : Places) (c n : ℕ) (w : World) → s.kind ≡ Sensor → param s 0 ≡ pos (suc c) → Has w values p.outs → Has w (scratch_name 1) 0
    → Senses p c w (run_block env n (body_text s p) w)

-- From a memory that holds all inputs too the text of the next state leaves it.
abbrev pub NextStateLaw : Type 0
NextStateLaw =
    (env : Around) (s : Spec) (p : Places) (x : List ℤ) (m : ℕ) (u : List ℤ) (n : ℕ) (w : World) → typed s ≡ true → IsState s x → IsCount s x → Fills s.ins u
    → Holds s p IsAny x m u w → HasNextScratch s w → AreInBounds s p → NextIs s p w (next_of s.kind s x m u) (run_block env n (next_text s p) w)

-- and there the delay of activation output q and the branch have the values of the table
abbrev pub DelayLaw : Type 0
DelayLaw =
    (s : Spec) (p : Places) (x : List ℤ) (m q : ℕ) (u : List ℤ) (w : World) → typed s ≡ true → has_delay s.kind ≡ true → Fills s.ins u
    → Holds s p IsAny x m u w → HasValue (delay_expression s p) w (delay s q u)

abbrev pub BranchLaw : Type 0
BranchLaw =
    (s : Spec) (p : Places) (x : List ℤ) (m : ℕ) (u : List ℤ) (w : World) → typed s ≡ true → is_sync s.kind ≡ true → Fills s.ins u
    → Holds s p IsAny x m u w → HasValue (branch_expression s p) w (pos (branch s u))

-- ---- what they are

-- they do no more than they may
pub record MayLaw : Type 0 where
  pub body : (s : Spec) (p : Places) → block_within (body_may s) (body_text s p) ≡ true
  pub next : (s : Spec) (p : Places) → block_within next_may (next_text s p) ≡ true

-- They are within the bounds of the subset: the values nested at most fourteen deep, the next state two.
pub record BoundsLaw : Type 0 where
  pub body : (s : Spec) (p : Places) → typed s ≡ true → AreInBounds s p → (d : ℕ) → BlockFits (14 + d) (body_text s p)
  pub next : (s : Spec) (p : Places) → typed s ≡ true → AreInBounds s p → (d : ℕ) → BlockFits (suc (suc d)) (next_text s p)
  pub delay : (s : Spec) (p : Places) → typed s ≡ true → has_delay s.kind ≡ true → AreInBounds s p → IsExp (delay_expression s p)
  pub branch : (s : Spec) (p : Places) → typed s ≡ true → is_sync s.kind ≡ true → AreInBounds s p → IsExp (branch_expression s p)

-- A text that keeps the static rules is not blamed; and the texts of a block keep them, wherever its names are declared as what they are and may be assigned.
pub record RulesLaw : Type 0 where
  pub text : (c : Scene) (b : Block) (opens : List Opened) (s : Scope) (i : ℕ) → BlockKeeps c opens b → StandsIn c opens s
      → first_blamed i s (block_events b) ≡ None
  pub body : (c : Scene) (s : Spec) (p : Places) (opens : List Opened) → typed s ≡ true → HasBlockNames c (reads_mask s.kind) (scratch_of s.kind s)
      → MayWork c opens (scratch_of s.kind s) → BlockKeeps c opens (body_text s p)
  pub next : (c : Scene) (s : Spec) (p : Places) (opens : List Opened) → typed s ≡ true → HasBlockNames c false (next_scratch s.kind s)
      → MayStep c opens (next_scratch s.kind s) → BlockKeeps c opens (next_text s p)
  pub delay : (c : Scene) (s : Spec) (p : Places) → typed s ≡ true → has_delay s.kind ≡ true → HasBlockNames c false 0 → ReadsWell c (delay_expression s p)
  pub branch : (c : Scene) (s : Spec) (p : Places) → typed s ≡ true → is_sync s.kind ≡ true → HasBlockNames c false 0 → ReadsWell c (branch_expression s p)
