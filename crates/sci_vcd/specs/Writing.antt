-- Writing a dump tick by tick, from values that are noted on the way.
use Rattle.std.specs.Prelude.{◌≡◌, ℕ, ◌+◌, ◌-◌, ◌*◌, ◌/◌, min, ◌<◌, ◌≤◌, ℤ, pos, List, [], ◌∷◌, ◌++◌, take, drop, length, slice_index_or, replicate, Option, Some, None, Bool, true, false, nat_lt, if◌then◌else◌}
use Rattle.sci_base.specs.Fit.{in_range, int_eq}
use Rattle.sci_net.specs.Parts.{Parts}
use Rattle.sci_vcd.specs.declared.signal.Signal.{Signal}
use Rattle.sci_vcd.specs.declared.signal.Change.{Change}
use Rattle.sci_vcd.specs.Waveforms.{Waveforms, type_of, first_of, value_at, AreSignals, IsDump}
use Rattle.sci_text.specs.Lines.{joined}
use Rattle.sci_vcd.specs.Spelling.{head_part, change_lines, spelling}
use Rattle.sci_vcd.specs.Machine.{value_now, last_change, change_by}
use Rattle.sci_vcd.specs.Signals.{signals_of, starts_from, AreStarts}

-- The signals; by block how many of them stand before it; the values that were written last, and those that are noted; and the tick that was
-- closed last, where there was one.
pub record Writing : Type 0 where
  pub signals : List Signal
  pub starts : List ℕ
  pub written : List ℤ
  pub noted : List ℤ
  pub closed : Option ℕ

-- a value of each signal, in its type
pub record AreOf (gs : List Signal) (vs : List ℤ) : Type 0 where
  pub one_each : length vs ≡ length gs
  pub fit : (k : ℕ) → 1 ≤ k → k ≤ length gs → in_range (type_of gs k) (first_of vs k) ≡ true

-- there are at most 2,048 blocks
pub record IsWriting (o : Writing) : Type 0 where
  pub signals : AreSignals o.signals
  pub some : 1 ≤ length o.starts
  pub few : length o.starts ≤ 2049
  pub written : length o.written ≡ length o.signals
  pub noted : AreOf o.signals o.noted

-- the place behind the last of a page of 32
abbrev pub page_end : (page count : ℕ) → ℕ
page_end page count = min count (page * 32 + 32)

-- where a page isn't marked, its old values are its new ones
pub record AreMarked (old new : List ℤ) (marked : List Bool) : Type 0 where
  pub pages : length marked ≡ length old / 32 + 1
  pub same : (k : ℕ) → k < length old → slice_index_or marked (k / 32) false ≡ false → slice_index_or old k (pos 0) ≡ slice_index_or new k (pos 0)

-- the new values from place a up to place b, and else the old
abbrev pub settled : (old new : List ℤ) → (a b : ℕ) → List ℤ
settled old new a b = take a old ++ (take (b - a) (drop a new) ++ drop b old)

pub record IsKept (o : Writing) (marked : List Bool) : Type 0 where
  pub writing : IsWriting o
  pub marks : AreMarked o.written o.noted marked

-- what is kept of a net before its first tick: each of its signals has the value 0, as written and as noted
abbrev pub unwritten : Parts → Writing
unwritten n =
    let zeros = replicate (length (signals_of n)) (pos 0) in
    record { signals = signals_of n; starts = starts_from 0 n.specs; written = zeros; noted = zeros; closed = None }

-- nothing was written yet of the signals of this net, and each value is noted as 0
pub record IsOutset (n : Parts) (o : Writing) : Type 0 where
  pub signals : o.signals ≡ signals_of n
  pub starts : AreStarts n o.starts
  pub noted : (k : ℕ) → first_of o.noted k ≡ pos 0
  pub closed : o.closed ≡ None

-- the signals behind the first k are noted to have these values
abbrev pub with_notes : Writing → (k : ℕ) → List ℤ → Writing
with_notes o k vs = record o { noted = take k o.noted ++ (vs ++ drop (k + length vs) o.noted) }

-- ---- closing a tick

-- the first one is 0, and they rise
abbrev pub MayClose : Option ℕ → ℕ → Type 0
MayClose None t = t ≡ 0
MayClose (Some d) t = d < t

-- what changes at a tick of signal k, which had the first of these values and has the second
abbrev pub change_here : (tick k : ℕ) → ℤ → ℤ → List Change
change_here t k v w = if int_eq v w then [] else change_by t k w ∷ []

-- the same of the signals from number k on
abbrev pub changes_at : (tick k : ℕ) → List ℤ → List ℤ → List Change
changes_at t k (v ∷ vs) (w ∷ ws) = change_here t k v w ++ changes_at t (k + 1) vs ws
changes_at t k [] ws = []
changes_at t k (v ∷ vs) [] = []

-- of those from place a on that stand before place b
abbrev pub changes_within : (tick a b : ℕ) → List ℤ → List ℤ → List Change
changes_within t a b vs ws = changes_at t (a + 1) (take (b - a) (drop a vs)) (take (b - a) (drop a ws))

-- the tick that is told behind some changes
abbrev pub told_behind : ℕ → List Change → ℕ
told_behind told [] = told
told_behind told (c ∷ cs) = told_behind c.tick cs

-- of the first tick all that stands before the changes; of a later one its changes
abbrev pub lines_behind : Option ℕ → Writing → ℕ → List (List ℕ)
lines_behind None o t = head_part o.signals o.noted
lines_behind (Some d) o t = change_lines o.signals d (changes_at t 1 o.written o.noted)

abbrev pub tick_text : Writing → ℕ → List ℕ
tick_text o t = joined (lines_behind o.closed o t)

abbrev pub closed_at : Writing → ℕ → Writing
closed_at o t = record o { written = o.noted; closed = Some t }

-- ---- the dump that was written so far, where something was

abbrev pub text_of : Option Waveforms → List ℕ
text_of None = []
text_of (Some w) = spelling w

-- this dump, whose last tick is at most d
pub record IsTold (o : Writing) (w : Waveforms) (d : ℕ) : Type 0 where
  pub closed : o.closed ≡ Some d
  pub dump : IsDump w
  pub signals : w.signals ≡ o.signals
  pub values : (k : ℕ) → 1 ≤ k → k ≤ length o.signals → value_now w k ≡ first_of o.written k
  pub past : (last_change w).tick ≤ d

abbrev pub HasTold : Writing → Option Waveforms → Type 0
HasTold o None = o.closed ≡ None
HasTold o (Some w) = (d : ℕ) × IsTold o w d

-- the dump behind the next tick
abbrev pub told_at : Option Waveforms → Writing → ℕ → Waveforms
told_at None o t = record { signals = o.signals; first = o.noted; changes = [] }
told_at (Some w) o t = record w { changes = w.changes ++ changes_at t 1 o.written o.noted }

-- the value of signal k at a tick in what was written
abbrev pub told_value : Option Waveforms → ℕ → ℕ → ℤ
told_value None k t = pos 0
told_value (Some w) k t = value_at w k t

-- What was written, and then the text of the tick, spell a dump again. From the tick on each signal has in it the value that is noted, and
-- before it the value that was written.
pub record IsTickTold (o : Writing) (before : Option Waveforms) (t : ℕ) : Type 0 where
  pub told : IsTold (closed_at o t) (told_at before o t) t
  pub text : spelling (told_at before o t) ≡ text_of before ++ tick_text o t
  pub values : (k at : ℕ) → 1 ≤ k → k ≤ length o.signals → value_at (told_at before o t) k at ≡ (if nat_lt at t then told_value before k at else first_of o.noted k)
