-- The lines of a dump, one by one, and how far they have come.
use Rattle.std.specs.Prelude.{◌≡◌, ℕ, ◌+◌, ◌<◌, ◌≤◌, ℤ, List, [], ◌∷◌, ◌++◌, length, Option, Some, None, Bool, ◌&&◌, not, nat_eq, nat_lt, if◌then◌else◌, codes}
use Rattle.sci_base.specs.declared.limits.TheConstants.{ALL_ELEMENTS, TICKS}
use Rattle.sci_base.specs.Fit.{int_eq}
use Rattle.sci_vcd.specs.declared.signal.Signal.{Signal}
use Rattle.sci_vcd.specs.declared.signal.Change.{Change}
use Rattle.sci_vcd.specs.declared.machine.Stage.{Stage}
use Rattle.sci_vcd.specs.declared.machine.Stage.TheVariants.{Timescale, Scope, Signals, Definitions, Origin, Dumpvars, First, Ticks, Tick}
use Rattle.sci_vcd.specs.declared.machine.DumpReader.{DumpReader}
use Rattle.sci_vcd.specs.Waveforms.{Waveforms, type_of, counts, is_within, rises, first_of, is_later, last_of, value_behind, AreSignals, AreValues, IsDump}
use Rattle.sci_vcd.specs.Draft.{waveforms_of}
use Rattle.sci_text.specs.Reading.{◌>>=◌, or_else, after, ended}
use Rattle.sci_text.specs.Lines.{through}
use Rattle.sci_vcd.specs.Reading.{decoded, signal_at, change_at, tick_at}

-- Which line comes next, and what those before it say.
pub record State : Type 0 where
  pub stage : Stage
  pub so_far : Waveforms

abbrev pub at_stage : Stage → Waveforms → State
at_stage s w = record { stage = s; so_far = w }

abbrev pub state_of : DumpReader → State
state_of r = at_stage r.stage (waveforms_of r.draft)

abbrev pub nothing : Waveforms
nothing = record { signals = []; first = []; changes = [] }

abbrev pub outset : State
outset = at_stage Timescale nothing

abbrev pub with_signal : Waveforms → Signal → Waveforms
with_signal w g = record w { signals = w.signals ++ g ∷ [] }

abbrev pub with_first : Waveforms → ℤ → Waveforms
with_first w v = record w { first = w.first ++ v ∷ [] }

abbrev pub with_change : Waveforms → Change → Waveforms
with_change w c = record w { changes = w.changes ++ c ∷ [] }

-- the line is this text
abbrev pub fixed : List ℕ → List ℕ → Stage → Waveforms → Option State
fixed text line next w = after text line >>= ended (at_stage next w)

-- g may be the next signal, and n is its number
abbrev pub may_join : List Signal → ℕ → Signal → Bool
may_join before n g = nat_eq n (length before + 1) && (nat_lt (length before) ALL_ELEMENTS && (is_within g && rises before g))

abbrev pub joining : Waveforms → ℕ × Signal → Option State
joining w x = if may_join w.signals x.0 x.1 then Some (at_stage Signals (with_signal w x.1)) else None

-- the first value of the next signal
abbrev pub beginning : Waveforms → List ℕ × ℕ → Option State
beginning w x =
    if nat_eq x.1 (length w.first + 1) then (decoded (type_of w.signals x.1) x.0 >>= λ v. Some (at_stage First (with_first w v))) else None

-- the value of a signal behind all changes so far
abbrev pub value_now : Waveforms → ℕ → ℤ
value_now w n = value_behind (first_of w.first n) n w.changes

abbrev pub last_change : Waveforms → Change
last_change w = last_of (length w.signals) w.changes

-- the change is later than the last one, and to another value
abbrev pub may_change : Waveforms → Change → Bool
may_change w c = is_later (last_change w) c && not (int_eq c.value (value_now w c.signal))

abbrev pub changing : Waveforms → Change → Option State
changing w c = if may_change w c then Some (at_stage Ticks (with_change w c)) else None

abbrev pub change_by : ℕ → ℕ → ℤ → Change
change_by t n v = record { tick = t; signal = n; value = v }

-- a signal's value at this tick
abbrev pub turning : Waveforms → ℕ → List ℕ × ℕ → Option State
turning w t x =
    if counts (length w.signals) x.1 then (decoded (type_of w.signals x.1) x.0 >>= λ v. changing w (change_by t x.1 v)) else None

-- the tick is later than the last one, and there is a signal that may change
abbrev pub may_tick : Waveforms → ℕ → Bool
may_tick w t = nat_lt 0 (length w.signals) && nat_lt (last_change w).tick t

abbrev pub ticking : Waveforms → ℕ → Option State
ticking w t = if may_tick w t then Some (at_stage (Tick t) w) else None

-- a tick, behind its #
abbrev pub ticked : Waveforms → List ℕ → Option State
ticked w rest = tick_at rest >>= ticking w

-- one line, without its LF
abbrev pub pass_at : Stage → Waveforms → List ℕ → Option State
pass_at Timescale w line = fixed (codes "$timescale 1 ns $end") line Scope w
pass_at Scope w line = fixed (codes "$scope module scicos $end") line Signals w
pass_at Signals w line = or_else (after (codes "$upscope $end") line) (ended (at_stage Definitions w)) (signal_at line >>= joining w)
pass_at Definitions w line = fixed (codes "$enddefinitions $end") line Origin w
pass_at Origin w line = fixed (codes "#0") line Dumpvars w
pass_at Dumpvars w line = fixed (codes "$dumpvars") line First w
pass_at First w line = if nat_lt (length w.first) (length w.signals) then (change_at line >>= beginning w) else fixed (codes "$end") line Ticks w
pass_at Ticks w line = or_else (after (codes "#") line) (ticked w) (change_at line >>= turning w (last_change w).tick)
pass_at (Tick t) w line = change_at line >>= turning w t

abbrev pub pass : List ℕ → State → Option State
pass line s = pass_at s.stage s.so_far line

abbrev pub passes : List (List ℕ) → State → Option State
passes = through pass

-- ---- what holds at each stage

-- some signals, and nothing else
pub record HasSignals (w : Waveforms) : Type 0 where
  pub signals : AreSignals w.signals
  pub none : w.first ≡ []
  pub unchanged : w.changes ≡ []

-- all signals, and some first values
pub record HasValues (w : Waveforms) : Type 0 where
  pub signals : AreSignals w.signals
  pub first : AreValues w.signals w.first
  pub few : length w.first ≤ length w.signals
  pub unchanged : w.changes ≡ []

-- a dump, and a later tick at which some signal may change
pub record HasTick (w : Waveforms) (t : ℕ) : Type 0 where
  pub dump : IsDump w
  pub some : 0 < length w.signals
  pub later : (last_change w).tick < t
  pub early : t ≤ TICKS

abbrev pub Stands : Stage → Waveforms → Type 0
Stands Timescale w = w ≡ nothing
Stands Scope w = w ≡ nothing
Stands Signals w = HasSignals w
Stands Definitions w = HasSignals w
Stands Origin w = HasSignals w
Stands Dumpvars w = HasSignals w
Stands First w = HasValues w
Stands Ticks w = IsDump w
Stands (Tick t) w = HasTick w t
