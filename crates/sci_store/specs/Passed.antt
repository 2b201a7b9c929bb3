-- What the values of a reaction come to, block by block, and what a reaction leaves in the memory.
use Rattle.std.specs.Prelude.{◌≡◌, ◌≢◌, ◌⊎◌, ℕ, ◌+◌, ◌-◌, ℤ, true, false, if◌then◌else◌, List, slice_set, length, Option, Some, None, Result, Ok, Err}
use Rattle.sci_base.specs.declared.observation.StopWord.{StopWord}
use Rattle.sci_forms.specs.Form.{is_sync}
use Rattle.sci_net.specs.declared.Source.{Source}
use Rattle.sci_net.specs.Parts.{IsBlock, spec_of}
use Rattle.sci_forms.specs.Form.{is_sensor}
use Rattle.sci_reaction.specs.Memory.{Memory, Columns, IsMemory, next_value}
use Rattle.sci_reaction.specs.Equations.{Signals, AreInRange, input_in, all_inputs, branch_on, answer_of}
use Rattle.sci_reaction.specs.Result.{Whole, Stopped, IsResult}
use Rattle.sci_reaction.specs.Next.{IsNextMemory}
use Rattle.sci_run.specs.Activity.{Activity, IsActivity}
use Rattle.sci_places.specs.Flat.{start_of, values_at}
use Rattle.sci_span.specs.Values.{overwritten}
use Rattle.sci_bank.specs.declared.Fate.{Fate}
use Rattle.sci_bank.specs.declared.Fate.TheVariants.{Done, Overflow, Zero}
use Rattle.sci_bank.specs.Bank.{Meaning, after_out}
use Rattle.sci_bank.specs.Library.{bank_of, with_bank}
use Rattle.sci_kinds.specs.Table.{Answer, Values, NoFit, NoQuotient, out, next}
use Rattle.sci_forms.specs.declared.Kind.{Kind}
use Rattle.sci_store.specs.Marks.{mark_at}
use Rattle.sci_store.specs.declared.marks.Mark.{Mark}
use Rattle.sci_store.specs.Frame.{Fixed, seat_of, bank_for, AreSeated}
use Rattle.sci_store.specs.Store.{Standing, cursor_at, state_of, ShowsMemory, ShowsValues, AreCounted, AreCountedWithin}

-- ---- one block

-- what an active block gives, by what is kept of it
abbrev pub given : Fixed → Columns → List Meaning → Standing → ℕ → ℕ → Result (List ℤ) StopWord
given f i banks s b mask =
    answer_of (spec_of f.net b) (state_of f banks b) (next_value i (spec_of f.net b) (cursor_at s b)) mask (input_in f.net (values_at f.net s.values) b)

abbrev pub branch_of : Fixed → Standing → ℕ → ℕ
branch_of f s b = if is_sync (spec_of f.net b).kind then branch_on (spec_of f.net b) (input_in f.net (values_at f.net s.values) b) else 0

abbrev pub mark_of : Fixed → Standing → ℕ → ℕ → Mark
mark_of f s b mask = record { active = true; branch = branch_of f s b; mask = mask }

-- with the block's values and its mark
abbrev pub valued : Fixed → Standing → ℕ → ℕ → List ℤ → Standing
valued f s b mask vs = record s { values = overwritten s.values (start_of f.net b) vs; marks = slice_set s.marks (b - 1) (mark_of f s b mask) }

-- the block's bank has counted a call
abbrev pub called : Fixed → List Meaning → ℕ → List Meaning
called f banks b = with_bank banks (seat_of f b).kind (after_out (bank_for f banks b))

-- what a call of an instance tells, where its values are written from a place on
abbrev pub IsComputed : Answer → (start : ℕ) → (old new : List ℤ) → Fate → Type 0
IsComputed (Values vs) start old new fate = (fate ≡ Done) × (new ≡ overwritten old start vs)
IsComputed NoFit start old new fate = fate ≡ Overflow
IsComputed NoQuotient start old new fate = fate ≡ Zero

-- a call of the block's instance
abbrev pub IsBlockComputed : Fixed → List Meaning → (b mask : ℕ) → (ins old new : List ℤ) → Fate → Type 0
IsBlockComputed f banks b mask ins old new fate =
    IsComputed (out (spec_of f.net b) (state_of f banks b) mask ins) (start_of f.net b) old new fate

-- where the block has no values: its bank has counted at most this call, the other blocks keep theirs, and nothing is taken from a column, marked or
-- observed
pub record IsStopped (f : Fixed) (banks after : List Meaning) (s t : Standing) (b : ℕ) : Type 0 where
  pub calls : (after ≡ banks) ⊎ (after ≡ called f banks b)
  pub others : (c : ℕ) → IsBlock f.net c → c ≢ b → values_at f.net t.values c ≡ values_at f.net s.values c
  pub cursors : t.cursors ≡ s.cursors
  pub marks : t.marks ≡ s.marks
  pub lines : t.lines ≡ s.lines
  pub sum : t.sum ≡ s.sum

-- the block has its values, or the word says why it has none
abbrev pub IsEvaluated : Fixed → List Meaning → List Meaning → Standing → Standing → ℕ → ℕ → Result (List ℤ) StopWord → Option StopWord → Type 0
IsEvaluated f banks after s t b mask (Ok vs) None = (t ≡ record (valued f s b mask vs) { room = t.room }) × (after ≡ called f banks b)
IsEvaluated f banks after s t b mask (Ok vs) (Some word) = ⊥
IsEvaluated f banks after s t b mask (Err word) None = ⊥
IsEvaluated f banks after s t b mask (Err word) (Some other) = (other ≡ word) × IsStopped f banks after s t b

-- what an active block gives on what is kept of it
abbrev pub IsAnswered : Fixed → Columns → List Meaning → List Meaning → Standing → Standing → ℕ → ℕ → Option StopWord → Type 0
IsAnswered f i banks after s t b mask word = IsEvaluated f banks after s t b mask (given f i banks s b mask) word

-- ---- all blocks

-- the values of the reaction; states and cursors are as before
pub record IsValued (f : Fixed) (i : Columns) (source : Source) (m : Memory) (s t : Standing) (banks after : List Meaning) : Type 0 where
  pub y : Signals
  pub active : Activity
  pub result : IsResult f.net m i source (Whole y)
  pub in_range : AreInRange f.net y
  pub active_are : IsActivity f.net source y active
  pub shown : ShowsValues f source t y active
  pub cursors : t.cursors ≡ s.cursors
  pub states : (b : ℕ) → IsBlock f.net b → state_of f after b ≡ state_of f banks b
  pub counted : AreCounted f.net active banks after

-- the reaction has values, or it stops at a block with a word
abbrev pub IsPassed : Fixed → Columns → Source → Memory → Standing → Standing → List Meaning → List Meaning → Option (ℕ × StopWord) → Type 0
IsPassed f i source m s t banks after None = IsValued f i source m s t banks after
IsPassed f i source m s t banks after (Some stop) = IsResult f.net m i source (Stopped stop.0 stop.1) × AreCountedWithin f.net source banks after

-- ---- behind the values

-- the memory behind the reaction
pub record IsStepped (f : Fixed) (source : Source) (m : Memory) (y : Signals) (t : Standing) (after : List Meaning) : Type 0 where
  pub memory : Memory
  pub next : IsNextMemory f.net m source y memory
  pub in_range : IsMemory f.net memory
  pub shown : ShowsMemory f t after memory

-- values are those of a reaction already, which blocks that aren't active have from before; cursors and states are still those of the memory
-- before it
pub record ShowsBefore (f : Fixed) (s : Standing) (banks : List Meaning) (m : Memory) : Type 0 where
  pub held : (b : ℕ) → IsBlock f.net b → (mark_at s.marks b).active ≡ false → values_at f.net s.values b ≡ m.held b
  pub cursor : (b : ℕ) → IsBlock f.net b → cursor_at s b ≡ m.cursor b
  pub state : (b : ℕ) → IsBlock f.net b → state_of f banks b ≡ m.state b

-- the counts of all banks stay
abbrev pub AreAlikeCounts : List Meaning → List Meaning → Type 0
AreAlikeCounts old new = (k : Kind) → (bank_of new k).outs ≡ (bank_of old k).outs

-- one active block has its next state; the others stay
pub record IsStateStepped (f : Fixed) (b : ℕ) (s t : Standing) (banks after : List Meaning) : Type 0 where
  pub state : state_of f after b
      ≡ next (spec_of f.net b) (state_of f banks b) (mark_at s.marks b).mask (all_inputs (spec_of f.net b) (input_in f.net (values_at f.net s.values) b))
  pub same : t ≡ record s { room = t.room }
  pub room : length t.room ≡ length s.room
  pub others : (c : ℕ) → IsBlock f.net c → b ≢ c → state_of f after c ≡ state_of f banks c
  pub seated : AreSeated f after
  pub counts : AreAlikeCounts banks after

-- one active block has its next state, and a sensor has taken one more value of its column; the others stay
pub record IsBlockStepped (f : Fixed) (b : ℕ) (s t : Standing) (banks after : List Meaning) : Type 0 where
  pub state : state_of f after b
      ≡ next (spec_of f.net b) (state_of f banks b) (mark_at s.marks b).mask (all_inputs (spec_of f.net b) (input_in f.net (values_at f.net s.values) b))
  pub cursor : t ≡ record s {
    cursors = (if is_sensor (spec_of f.net b).kind then slice_set s.cursors (b - 1) (cursor_at s b + 1) else s.cursors);
    room = t.room;
  }
  pub room : length t.room ≡ length s.room
  pub others : (c : ℕ) → IsBlock f.net c → b ≢ c → state_of f after c ≡ state_of f banks c
  pub seated : AreSeated f after
  pub counts : AreAlikeCounts banks after

-- values and marks stay, and so do the counts of the banks
pub record KeepsValues (s t : Standing) : Type 0 where
  pub values : t.values ≡ s.values
  pub marks : t.marks ≡ s.marks
  pub lines : t.lines ≡ s.lines
  pub sum : t.sum ≡ s.sum
