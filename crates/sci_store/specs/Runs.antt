-- What the calls of a row come to, and the block at which a depth stops.
use Rattle.std.specs.Prelude.{◌≡◌, ◌≢◌, ◌⊎◌, ℕ, ◌+◌, ◌≤◌, min, Bool, true, ◌&&◌, ℤ, List, [], ◌∷◌, length, map, All, AllPairs, Contains, if◌then◌else◌, nat_eq, nat_lt, Option, Some, None, IsSome, Ok, Err}
use Rattle.std.specs.List.{list_any}
use Rattle.sci_base.specs.declared.observation.StopWord.{StopWord}
use Rattle.sci_forms.specs.declared.Kind.{Kind}
use Rattle.sci_forms.specs.Form.{is_sensor}
use Rattle.sci_kinds.specs.Asks.{IsMask, IsState}
use Rattle.sci_net.specs.Parts.{IsBlock, spec_of}
use Rattle.sci_reaction.specs.Active.{IsSync}
use Rattle.sci_reaction.specs.Memory.{Columns, next_value}
use Rattle.sci_reaction.specs.Equations.{AreInRange, input_in, all_inputs}
use Rattle.sci_kinds.specs.Table.{next}
use Rattle.sci_places.specs.Flat.{values_at}
use Rattle.sci_bank.specs.declared.runs.Call.{Call}
use Rattle.sci_bank.specs.declared.runs.Stuck.{Stuck}
use Rattle.sci_bank.specs.Bank.{Meaning, word_of}
use Rattle.sci_bank.specs.Library.{bank_of}
use Rattle.sci_store.specs.Frame.{Fixed, seat_of, AreSeated}
use Rattle.sci_store.specs.Store.{Standing, IsStore, cursor_at, state_of}
use Rattle.sci_store.specs.Marks.{mark_at}
use Rattle.sci_lines.specs.Lines.{value_lines}
use Rattle.sci_store.specs.declared.row.Show.{Show}
use Rattle.sci_store.specs.Rows.{between, IsMarked}
use Rattle.sci_store.specs.Passed.{given, branch_of, AreAlikeCounts}

-- a block that is called by its own slot, on a mask of its activation inputs
pub record IsCallIn (f : Fixed) (c : Call) : Type 0 where
  pub block : IsBlock f.net c.block
  pub slot : c.slot ≡ (seat_of f c.block).slot
  pub mask : IsMask (spec_of f.net c.block) c.mask

-- two stores have the same cursors, and the same values but for these blocks
pub record AgreesBut (f : Fixed) (blocks : List ℕ) (s t : Standing) : Type 0 where
  pub cursors : t.cursors ≡ s.cursors
  pub values : (b : ℕ) → IsBlock f.net b → (Contains blocks b → ⊥) → values_at f.net t.values b ≡ values_at f.net s.values b

-- none of these blocks is fed by another of them, or by itself, through an input with feedthrough, and each is called once: what each gives, and
-- the branch that it takes, stays the same where only their values change
pub record AreApart (f : Fixed) (calls : List Call) : Type 0 where
  pub once : AllPairs (λ (c d : Call). c.block ≢ d.block) calls
  pub alike : (i : Columns) (banks : List Meaning) (s t : Standing) (c : Call) → Contains calls c → AgreesBut f (map (λ (d : Call). d.block) calls) s t
      → given f i banks s c.block c.mask ≡ given f i banks t c.block c.mask
  pub branches : (s t : Standing) (c : Call) → Contains calls c → AgreesBut f (map (λ (d : Call). d.block) calls) s t
      → branch_of f s c.block ≡ branch_of f t c.block

-- these blocks are of one kind
abbrev pub AreOfKind : Fixed → Kind → List Call → Type 0
AreOfKind f kind calls = All (λ (c : Call). (seat_of f c.block).kind ≡ kind) calls

-- ---- the calls of a run, none of whose blocks depends on another of them

-- the block has the values that it gives on what the store held when the run began, and is marked as active on the call's mask, and with its branch
-- where it is synchronous
pub record HasValues (f : Fixed) (i : Columns) (banks : List Meaning) (s t : Standing) (c : Call) : Type 0 where
  pub values : given f i banks s c.block c.mask ≡ Ok (values_at f.net t.values c.block)
  pub marked : IsMarked t.marks c
  pub branch : IsSync f.net c.block → (mark_at t.marks c.block).branch ≡ branch_of f s c.block

-- the block has no values, and this is the stop
pub record IsStuckAt (f : Fixed) (i : Columns) (banks : List Meaning) (s : Standing) (c : Call) (stop : Option (ℕ × StopWord)) : Type 0 where
  pub word : StopWord
  pub is : stop ≡ Some (c.block, word)
  pub gives : given f i banks s c.block c.mask ≡ Err word

-- The blocks of these calls have their values, up to the first that has none. From there on those that were marked as their calls say are so still.
abbrev pub AreValued : Fixed → Columns → List Meaning → Standing → Standing → List Call → Option (ℕ × StopWord) → Type 0
AreValued f i banks s t [] stop = stop ≡ None
AreValued f i banks s t (c ∷ cs) stop =
    (HasValues f i banks s t c × AreValued f i banks s t cs stop)
    ⊎ (IsStuckAt f i banks s c stop × All (λ (d : Call). IsMarked s.marks d → IsMarked t.marks d) (c ∷ cs))

-- The blocks of these calls have their values, up to the first that has none. The others keep their values and marks, and all keep their states; the
-- bank of their kind has counted these calls, and the other banks none. Where there is a stop not all are counted.
pub record IsRunDone (f : Fixed) (i : Columns) (kind : Kind) (calls : List Call) (s t : Standing) (banks after : List Meaning)
    (stop : Option (ℕ × StopWord)) : Type 0 where
  pub valued : AreValued f i banks s t calls stop
  pub others : (b : ℕ) → IsBlock f.net b → (Contains (map (λ (c : Call). c.block) calls) b → ⊥)
      → (values_at f.net t.values b ≡ values_at f.net s.values b) × (mark_at t.marks b ≡ mark_at s.marks b)
  pub states : (b : ℕ) → IsBlock f.net b → state_of f after b ≡ state_of f banks b
  pub called : ℕ
  pub within : called ≤ length calls
  pub whole : stop ≡ None → called ≡ length calls
  pub counted : (bank_of banks kind).outs ≤ 18446744073709551615 → (bank_of after kind).outs ≡ min ((bank_of banks kind).outs + called) 18446744073709551615
  pub uncounted : (k : Kind) → k ≢ kind → (bank_of after k).outs ≡ (bank_of banks k).outs
  pub kept : (t.cursors ≡ s.cursors) × (t.lines ≡ s.lines) × (t.sum ≡ s.sum)

-- the same of calls of one kind, whichever it is
abbrev pub AreDone : Fixed → Columns → (calls : List Call) → (s t : Standing) → (banks after : List Meaning) → Option (ℕ × StopWord) → Type 0
AreDone f i calls s t banks after stop = (kind : Kind) → AreOfKind f kind calls → IsRunDone f i kind calls s t banks after stop

-- what holds of a store and its banks behind calls
pub record IsSoundBehind (f : Fixed) (s : Standing) (banks : List Meaning) : Type 0 where
  pub store : IsStore f s
  pub seated : AreSeated f banks

-- ---- next states

-- what the states may be stepped on: values in range, masks of the active blocks, a value in the column of each active sensor, states in range
pub record MayStep (f : Fixed) (i : Columns) (s : Standing) (banks : List Meaning) : Type 0 where
  pub values : AreInRange f.net (values_at f.net s.values)
  pub masks : (b : ℕ) → IsBlock f.net b → (mark_at s.marks b).active ≡ true → IsMask (spec_of f.net b) (mark_at s.marks b).mask
  pub sensed : (b : ℕ) → IsBlock f.net b → (mark_at s.marks b).active ≡ true → is_sensor (spec_of f.net b).kind ≡ true
      → IsSome (next_value i (spec_of f.net b) (cursor_at s b))
  pub states : (b : ℕ) → IsBlock f.net b → IsState (spec_of f.net b) (state_of f banks b)

-- the same of some blocks
pub record MayStepAmong (f : Fixed) (i : Columns) (blocks : List ℕ) (s : Standing) (banks : List Meaning) : Type 0 where
  pub values : AreInRange f.net (values_at f.net s.values)
  pub masks : (b : ℕ) → Contains blocks b → (mark_at s.marks b).active ≡ true → IsMask (spec_of f.net b) (mark_at s.marks b).mask
  pub sensed : (b : ℕ) → Contains blocks b → (mark_at s.marks b).active ≡ true → is_sensor (spec_of f.net b).kind ≡ true
      → IsSome (next_value i (spec_of f.net b) (cursor_at s b))
  pub states : (b : ℕ) → Contains blocks b → IsState (spec_of f.net b) (state_of f banks b)

abbrev pub called_blocks : List Call → List ℕ
called_blocks calls = map (λ (c : Call). c.block) calls

-- blocks of the net, each called once
pub record AreCalledOnce (f : Fixed) (calls : List Call) : Type 0 where
  pub blocks : All (λ (c : Call). IsBlock f.net c.block) calls
  pub once : AllPairs (λ (c d : Call). c.block ≢ d.block) calls

-- the block is active, and among those that are done
abbrev pub is_stepped : List ℕ → Standing → ℕ → Bool
is_stepped done s b = (mark_at s.marks b).active && list_any (nat_eq b) done

abbrev pub next_state : Fixed → Standing → List Meaning → ℕ → List ℤ
next_state f s banks b =
    next (spec_of f.net b) (state_of f banks b) (mark_at s.marks b).mask (all_inputs (spec_of f.net b) (input_in f.net (values_at f.net s.values) b))

abbrev pub next_cursor : Fixed → Standing → ℕ → ℕ
next_cursor f s b = if is_sensor (spec_of f.net b).kind then cursor_at s b + 1 else cursor_at s b

-- the active ones of these blocks have their next state, and sensors have gone on in their columns; the others are as before
pub record AreStepped (f : Fixed) (done : List ℕ) (s t : Standing) (banks after : List Meaning) : Type 0 where
  pub states : (b : ℕ) → IsBlock f.net b → state_of f after b ≡ (if is_stepped done s b then next_state f s banks b else state_of f banks b)
  pub cursors : (b : ℕ) → IsBlock f.net b → cursor_at t b ≡ (if is_stepped done s b then next_cursor f s b else cursor_at s b)
  pub same : t ≡ record s { cursors = t.cursors; room = t.room; chosen = t.chosen }
  pub long : length t.cursors ≡ length s.cursors
  pub room : length t.room ≡ length s.room
  pub chosen : length t.chosen ≡ length s.chosen
  pub seated : AreSeated f after
  pub counts : AreAlikeCounts banks after

-- ---- stops

abbrev pub stop_by : ℕ → Option StopWord → Option (ℕ × StopWord)
stop_by b None = None
stop_by b (Some word) = Some (b, word)

abbrev pub stop_of : Stuck → Option (ℕ × StopWord)
stop_of stuck = stop_by stuck.block (word_of stuck.fate)

-- the stop at the lesser block, of two of one depth
abbrev pub lesser : Option (ℕ × StopWord) → Option (ℕ × StopWord) → Option (ℕ × StopWord)
lesser None b = b
lesser (Some x) None = Some x
lesser (Some x) (Some y) = if nat_lt x.0 y.0 then Some x else Some y

-- the lines of the values that are shown in one piece
abbrev pub lines_of : Fixed → Standing → Show → List ℕ
lines_of f s w = value_lines (between f.heads w.start w.end) (between s.values w.start w.end)
