-- When no rule widens a table.
use Rattle.std.specs.Prelude.{◌≡◌, ℕ, ◌<◌, true, None, Option, Some, List}
use Rattle.sci_base.specs.declared.observation.StopWord.TheVariants.{Overflow, Zero, Input}
use Rattle.sci_base.specs.Lists.{at}
use Rattle.sci_forms.specs.Form.{is_sensor}
use Rattle.sci_forms.specs.Ports.{total}
use Rattle.sci_kinds.specs.Table.{state_len, first_state}
use Rattle.sci_net.specs.Parts.{Parts, IsBlock, spec_of}
use Rattle.sci_reaction.specs.Active.{IsSync}
use Rattle.sci_reaction.specs.Memory.{Columns}
use Rattle.sci_ranges_base.specs.declared.interval.Interval.{Interval}
use Rattle.sci_ranges_base.specs.declared.cells.Cells.{Cells}
use Rattle.sci_ranges_base.specs.declared.masks.Masks.{Masks}
use Rattle.sci_ranges_base.specs.Intervals.{IsIn, meet, within, range_at}
use Rattle.sci_ranges_rules.specs.Rules.{next_range, state_range, taking}
use Rattle.sci_ranges_reads.specs.Live.{IsPossible}
use Rattle.sci_ranges.specs.Table.{Table}
use Rattle.sci_ranges.specs.Reads.{Reads, Enters, HaveMasks}
use Rattle.sci_ranges.specs.Told.{Tells}

-- what is told of the block, from what goes in and its masks, is in the table
pub record IsBlockClosed (n : Parts) (i : Columns) (t : Table) (b : ℕ) : Type 0 where
  pub inputs : List (Option Interval)
  pub enter : Enters n i t b inputs
  pub masks : List Masks
  pub masks_are : HaveMasks n t b masks
  pub told : ℕ → Cells
  pub tells : (e : ℕ) → e < total (spec_of n b).outs → Tells n i t b masks inputs e (told e)
  pub values : (e : ℕ) → e < total (spec_of n b).outs → within ((told e).values) (range_at (t.shows b) e) ≡ true
  pub overflow : (e : ℕ) → e < total (spec_of n b).outs → (told e).overflow ≡ true → t.stops b Overflow ≡ true
  pub zero : (e : ℕ) → e < total (spec_of n b).outs → (told e).zero ≡ true → t.stops b Zero ≡ true
  pub ends : is_sensor (spec_of n b).kind ≡ true → t.stops b Input ≡ true
  pub next : (k : ℕ) → k < state_len (spec_of n b) → within (next_range (spec_of n b) (t.states b) inputs k) (Some (state_range (t.states b) k)) ≡ true

-- of each block that may act, and of what each block begins with; and a dead branch is one that no number takes which its condition may read
pub record IsClosed (n : Parts) (i : Columns) (t : Table) : Type 0 where
  pub blocks : (b : ℕ) → IsPossible n t.dead b → IsBlockClosed n i t b
  pub first : (b k : ℕ) → IsBlock n b → k < state_len (spec_of n b) → IsIn (state_range (t.states b) k) (at (first_state (spec_of n b)) k)
  pub dead : (c p : ℕ) → IsSync n c → t.dead c p ≡ true → (o : Option Interval) × Reads n t c 1 0 o × (meet o (Some (taking (spec_of n c) p)) ≡ None)
