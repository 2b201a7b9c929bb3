-- What a value change dump says: its signals, their first values, and each later change of one.
use Rattle.std.specs.Prelude.{◌≡◌, ◌≢◌, ℕ, ◌+◌, ◌-◌, ◌<◌, ◌≤◌, ℤ, pos, List, [], ◌∷◌, ◌++◌, length, filter, Bool, true, ◌&&◌, ◌||◌, nat_eq, nat_lt, nat_le, if◌then◌else◌, slice_index_or}
use Rattle.sci_base.specs.declared.limits.TheConstants.{BLOCKS, PORTS, PORT_ELEMENTS, ALL_ELEMENTS, TICKS}
use Rattle.sci_base.specs.declared.Ty.{Ty}
use Rattle.sci_base.specs.declared.Ty.TheVariants.{I32}
use Rattle.sci_base.specs.Fit.{in_range}
use Rattle.sci_vcd.specs.declared.signal.Signal.{Signal}
use Rattle.sci_vcd.specs.declared.signal.Change.{Change}

-- A dump's signals are numbered from 1 on. Each has a value at tick 0; what changes later is listed by tick and then by signal, so that a tick
-- without a change isn't told.
pub record Waveforms : Type 0 where
  pub signals : List Signal
  pub first : List ℤ
  pub changes : List Change

-- of each item of the second list this holds with the items before it, of which the first list is the beginning
abbrev pub Each : {A : Type 0} → (List A → A → Type 0) → List A → List A → Type 0
Each P before [] = Unit {0}
Each P before (x ∷ xs) = P before x × Each P (before ++ x ∷ []) xs

-- ---- signals

abbrev pub no_signal : Signal
no_signal = record { block = 0; port = 0; element = 0; ty = I32 }

-- the type of signal n
abbrev pub type_of : List Signal → ℕ → Ty
type_of gs n = (slice_index_or gs (n - 1) no_signal).ty

-- from 1 to the greatest
abbrev pub counts : ℕ → ℕ → Bool
counts greatest n = nat_le 1 n && nat_le n greatest

-- an element of an output of a block that a net may have
abbrev pub is_within : Signal → Bool
is_within g = counts BLOCKS g.block && (counts PORTS g.port && counts PORT_ELEMENTS g.element)

-- by block, port and element
abbrev pub precedes : Signal → Signal → Bool
precedes g h = nat_lt g.block h.block || (nat_eq g.block h.block && (nat_lt g.port h.port || (nat_eq g.port h.port && nat_lt g.element h.element)))

-- behind the last of these, where there is one
abbrev pub rises : List Signal → Signal → Bool
rises before g = nat_eq (length before) 0 || precedes (slice_index_or before (length before - 1) no_signal) g

-- The signal may be the next behind these.
pub record Joins (before : List Signal) (g : Signal) : Type 0 where
  pub few : length before < ALL_ELEMENTS
  pub within : is_within g ≡ true
  pub behind : rises before g ≡ true

abbrev pub AreSignals : List Signal → Type 0
AreSignals gs = Each Joins [] gs

-- ---- first values

-- the value may be the next behind these: it is of its signal's type
abbrev pub Begins : List Signal → List ℤ → ℤ → Type 0
Begins gs before v = in_range (type_of gs (length before + 1)) v ≡ true

abbrev pub AreValues : List Signal → List ℤ → Type 0
AreValues gs vs = Each (Begins gs) [] vs

-- the first value of signal n
abbrev pub first_of : List ℤ → ℕ → ℤ
first_of first n = slice_index_or first (n - 1) (pos 0)

-- ---- changes

-- by tick, and then by signal
abbrev pub is_later : Change → Change → Bool
is_later c d = nat_lt c.tick d.tick || (nat_eq c.tick d.tick && nat_lt c.signal d.signal)

-- what stands for a change before the first one: tick 0 has told all of so many signals
abbrev pub outset_of : ℕ → Change
outset_of count = record { tick = 0; signal = count; value = pos 0 }

-- the last of these changes, which come behind this one
abbrev pub last_from : Change → List Change → Change
last_from c [] = c
last_from c (d ∷ ds) = last_from d ds

abbrev pub last_of : ℕ → List Change → Change
last_of count before = last_from (outset_of count) before

-- the value of signal n behind these changes, where it was v before them
abbrev pub value_behind : ℤ → ℕ → List Change → ℤ
value_behind v n [] = v
value_behind v n (c ∷ cs) = value_behind (if nat_eq c.signal n then c.value else v) n cs

-- The change may be the next behind these: later than the last, at most at tick 2^62, and to another value of the signal's type.
pub record Follows (gs : List Signal) (first : List ℤ) (before : List Change) (c : Change) : Type 0 where
  pub known : counts (length gs) c.signal ≡ true
  pub early : c.tick ≤ TICKS
  pub later : is_later (last_of (length gs) before) c ≡ true
  pub fits : in_range (type_of gs c.signal) c.value ≡ true
  pub another : c.value ≢ value_behind (first_of first c.signal) c.signal before

abbrev pub AreChanges : List Signal → List ℤ → List Change → Type 0
AreChanges gs first cs = Each (Follows gs first) [] cs

-- ---- dumps

-- At most 65,536 signals, which rise by block (at most 2,048), port (at most 64) and element (at most 256); a first value for each; and
-- changes, each to another value of its signal's type.
pub record IsDump (w : Waveforms) : Type 0 where
  pub signals : AreSignals w.signals
  pub first : AreValues w.signals w.first
  pub one_each : length w.first ≡ length w.signals
  pub changes : AreChanges w.signals w.first w.changes

-- the changes up to a tick
abbrev pub up_to : ℕ → List Change → List Change
up_to t cs = filter (λ c. nat_le c.tick t) cs

-- the value of signal n at tick t: its last one at a tick up to t
abbrev pub value_at : Waveforms → ℕ → ℕ → ℤ
value_at w n t = value_behind (first_of w.first n) n (up_to t w.changes)
