-- Value change dumps, worked out by hand.
use Rattle.std.proofs.Common.{◌≡◌, ℕ, true, false, ℤ, pos, negsuc, List, [], ◌∷◌, codes, Some, None, refl, lit≤, arith}
use Rattle.std.specs.Fmt.{digits}
use Rattle.sci_base.specs.declared.Ty.{Ty}
use Rattle.sci_base.specs.declared.Ty.TheVariants.{I32, I16, I8, U8}
use Rattle.sci_reaction.specs.Memory.{Memory}
use Rattle.sci_run.specs.Run.{State}
use Rattle.sci_vcd.specs.declared.signal.Signal.{Signal}
use Rattle.sci_vcd.specs.declared.signal.Change.{Change}
use Rattle.sci_vcd.specs.Waveforms.{Waveforms, type_of, counts, is_within, precedes, rises, is_later, last_of, value_at}
use Rattle.sci_vcd.specs.Spelling.{binary, bits, type_text, signal_line, value_line, next_tick, change_lines, spelling}
use Rattle.sci_vcd.specs.Signals.{signals_of, before_block, number_of}
use Rattle.sci_vcd.specs.Writing.{Writing, MayClose, change_here, changes_at, lines_behind, told_at, with_notes}
use Rattle.sci_wave.specs.History.{memory_at}
use Rattle.sci_wave.specs.RunDump.{IsDumpOf}
use Rattle.sci_examples.proofs.Blocks.{counting, apart}

abbrev signal : ℕ → ℕ → ℕ → Ty → Signal
signal b p e t = record { block = b; port = p; element = e; ty = t }

abbrev change : ℕ → ℕ → ℤ → Change
change t n v = record { tick = t; signal = n; value = v }

-- ---- signals

count_0 : counts 3 0 ≡ false
count_0 = refl

count_3 : counts 3 3 ≡ true
count_3 = refl

count_4 : counts 3 4 ≡ false
count_4 = refl

largest : is_within (signal 2048 64 256 I32) ≡ true
largest = refl

larger_element : is_within (signal 1 1 257 I32) ≡ false
larger_element = refl

-- by block, then by port, then by element
block_first : precedes (signal 1 2 2 I8) (signal 2 1 1 I8) ≡ true
block_first = refl

port_then : precedes (signal 2 2 1 I8) (signal 2 1 2 I8) ≡ false
port_then = refl

element_then : precedes (signal 2 1 1 I8) (signal 2 1 2 I8) ≡ true
element_then = refl

-- behind the last one, which is the second here
rises_behind : rises (signal 1 1 1 I8 ∷ signal 3 1 1 I8 ∷ []) (signal 2 1 1 I8) ≡ false
rises_behind = refl

begins : rises [] (signal 2 1 1 I8) ≡ true
begins = refl

second_type : type_of (signal 1 1 1 I8 ∷ signal 2 1 1 U8 ∷ []) 2 ≡ U8
second_type = refl

-- ---- changes

-- tick 0 has told all signals, so a change at tick 0 is too early
not_at_0 : is_later (last_of 2 []) (change 0 2 (pos 5)) ≡ false
not_at_0 = refl

tick_first : is_later (change 3 2 (pos 0)) (change 4 1 (pos 0)) ≡ true
tick_first = refl

signal_then : is_later (change 3 2 (pos 0)) (change 3 1 (pos 0)) ≡ false
signal_then = refl

last_counts : last_of 2 (change 3 1 (pos 5) ∷ change 4 2 (pos 6) ∷ []) ≡ change 4 2 (pos 6)
last_counts = refl

-- signal 1 begins with 10, and has 5 from tick 3 on and 7 from tick 6 on; signal 2 begins with 20
abbrev waves : Waveforms
waves = record {
  signals = signal 1 1 1 I8 ∷ signal 2 1 1 U8 ∷ [];
  first = pos 10 ∷ pos 20 ∷ [];
  changes = change 3 1 (pos 5) ∷ change 3 2 (pos 21) ∷ change 6 1 (pos 7) ∷ [];
}

before_changes : value_at waves 1 2 ≡ pos 10
before_changes = refl

at_the_tick : value_at waves 1 3 ≡ pos 5
at_the_tick = refl

other_signal : value_at waves 2 9 ≡ pos 21
other_signal = refl

last_value : value_at waves 1 9 ≡ pos 7
last_value = refl

-- ---- spelling

five : binary 4 5 ≡ codes "0101"
unfolding binary
five = refl

minus_two : bits I8 (negsuc 1) ≡ codes "11111110"
unfolding binary
minus_two = refl

signed_type : type_text I16 ≡ codes "integer 16"
signed_type = refl

unsigned_type : type_text U8 ≡ codes "wire 8"
unsigned_type = refl

signal_told : signal_line 7 (signal 12 2 3 U8) ≡ codes "$var wire 8 v7 b12_2_3 $end"
unfolding digits
signal_told = refl

value_told : value_line U8 7 (pos 5) ≡ codes "b00000101 v7"
unfolding binary digits
value_told = refl

-- a tick has its line once
tick_told : next_tick 3 3 ≡ []
tick_told = refl

changes_told : change_lines waves.signals 0 waves.changes
    ≡ codes "#3" ∷ codes "b00000101 v1" ∷ codes "b00010101 v2" ∷ codes "#6" ∷ codes "b00000111 v1" ∷ []
unfolding binary digits
changes_told = refl

whole : spelling (record { signals = signal 1 1 1 U8 ∷ []; first = pos 3 ∷ []; changes = change 2 1 (pos 4) ∷ [] })
    ≡ codes "$timescale 1 ns $end\n$scope module scicos $end\n$var wire 8 v1 b1_1_1 $end\n$upscope $end\n$enddefinitions $end\n#0\n$dumpvars\nb00000011 v1\n$end\n#2\nb00000100 v1\n"
unfolding binary digits
whole = refl

-- ---- the signals of a net

-- three values, the same taken apart, and two of the gain
eight_signals : signals_of apart
    ≡ signal 1 1 1 I32 ∷ signal 1 1 2 I32 ∷ signal 1 1 3 I32 ∷ signal 2 1 1 I32 ∷ signal 2 2 1 I32 ∷ signal 2 2 2 I32 ∷ signal 3 1 1 I32 ∷ signal 3 1 2 I32 ∷ []
eight_signals = refl

three_before : before_block apart 2 ≡ 3
three_before = refl

seventh : number_of apart 3 1 ≡ 7
seventh = refl

-- ---- writing

nothing_new : change_here 4 1 (pos 5) (pos 5) ≡ []
nothing_new = refl

second_changed : changes_at 4 1 (pos 5 ∷ pos 6 ∷ []) (pos 5 ∷ pos 7 ∷ []) ≡ change 4 2 (pos 7) ∷ []
second_changed = refl

-- signal 1 was written as 10 and is noted as 5; tick 2 was closed last
abbrev writing : Writing
writing = record { signals = signal 1 1 1 U8 ∷ []; starts = 0 ∷ 1 ∷ []; written = pos 10 ∷ []; noted = pos 5 ∷ []; closed = Some 2 }

tick_3 : lines_behind (Some 2) writing 3 ≡ codes "#3" ∷ codes "b00000101 v1" ∷ []
unfolding binary digits
tick_3 = refl

-- the first tick that is closed tells what is noted
first_told : (told_at None writing 0).first ≡ pos 5 ∷ []
first_told = refl

noted_there : (with_notes writing 0 (pos 8 ∷ [])).noted ≡ pos 8 ∷ []
noted_there = refl

closes_at_0 : MayClose None 0
closes_at_0 = refl

not_again : MayClose (Some 2) 2 → ⊥
not_again h = omega (arith, h)

-- ---- the dump of a run

abbrev memory_of : ℤ → Memory
memory_of v = record { state = λ b. v ∷ []; held = λ b. v ∷ []; cursor = λ b. 0 }

abbrev state_at : ℕ → ℤ → State
state_at now v =
    record { memory = memory_of v; pending = record { events = []; programmed = 0 }; now = now; fired = 0; active = λ b. false; activations = λ b. 0 }

-- reactions at dates 2, 2 and 5
abbrev states : List State
states = state_at 2 (pos 20) ∷ state_at 2 (pos 21) ∷ state_at 5 (pos 50) ∷ []

before_all : (memory_at (memory_of (pos 0)) states 1).held 1 ≡ pos 0 ∷ []
before_all = refl

last_of_date : (memory_at (memory_of (pos 0)) states 4).held 1 ≡ pos 21 ∷ []
last_of_date = refl

from_date_on : (memory_at (memory_of (pos 0)) states 5).held 1 ≡ pos 50 ∷ []
from_date_on = refl

-- before any reaction the delay, whose value is the third of all, holds 8
delay_first : (w : Waveforms) → IsDumpOf counting [] w → value_at w 3 0 ≡ pos 8
delay_first w h = h.values 0 4 1 (record { least = lit≤ tt; most = lit≤ tt }) (lit≤ tt) (lit≤ tt)
