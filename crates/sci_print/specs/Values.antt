-- The values of a dump's signals at a tick, line by line.
use Rattle.std.specs.Prelude.{ℕ, ℤ, ◌+◌, List, [], ◌∷◌, ◌++◌, codes}
use Rattle.std.specs.Fmt.{signed_decimal}
use Rattle.sci_vcd.specs.declared.signal.Signal.{Signal}
use Rattle.sci_vcd.specs.Waveforms.{Waveforms, value_at}
use Rattle.sci_vcd.specs.Spelling.{name_text}

-- a signal's name and its value, in a line
unfoldable pub signal_text : Signal → ℤ → List ℕ
signal_text g v = name_text g ++ (codes " " ++ (signed_decimal v ++ codes "\n"))

-- the lines of these signals, of which the first has number n, with their values at the tick
abbrev pub texts_from : Waveforms → (tick n : ℕ) → List Signal → List ℕ
texts_from w tick n [] = []
texts_from w tick n (g ∷ gs) = signal_text g (value_at w n tick) ++ texts_from w tick (n + 1) gs

-- the lines of all signals
abbrev pub values_text : Waveforms → (tick : ℕ) → List ℕ
values_text w tick = texts_from w tick 1 w.signals
