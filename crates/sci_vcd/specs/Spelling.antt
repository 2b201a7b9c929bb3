-- The one text of a dump: a profile of the value change dumps of IEEE 1364, line by line.
use Rattle.std.specs.Prelude.{ℕ, zero, suc, ◌+◌, ◌/◌, ◌%◌, ℤ, List, [], ◌∷◌, ◌++◌, codes, decimal, nat_eq, if◌then◌else◌}
pub use Rattle.sci_text.specs.Lines.{with_lf, joined}
use Rattle.sci_base.specs.declared.Ty.{Ty}
use Rattle.sci_base.specs.declared.Ty.TheVariants.{I32, I16, I8, U32, U16, U8}
use Rattle.sci_base.specs.Fit.{width}
use Rattle.sci_base.specs.Bits.{pattern}
use Rattle.sci_vcd.specs.declared.signal.Signal.{Signal}
use Rattle.sci_vcd.specs.declared.signal.Change.{Change}
use Rattle.sci_vcd.specs.Waveforms.{Waveforms, type_of}

-- p in so many binary digits, the greatest first
unfoldable pub binary : ℕ → ℕ → List ℕ
binary zero p = []
binary (suc w) p = binary w (p / 2) ++ (48 + p % 2) ∷ []

-- the digits of a value of a type: its pattern, with one digit for each bit
abbrev pub bits : Ty → ℤ → List ℕ
bits t v = binary (width t) (pattern t v)

-- a variable's kind, and its width in bits
abbrev pub type_text : Ty → List ℕ
type_text I32 = codes "integer 32"
type_text I16 = codes "integer 16"
type_text I8 = codes "integer 8"
type_text U32 = codes "wire 32"
type_text U16 = codes "wire 16"
type_text U8 = codes "wire 8"

-- a signal's name: its block, port and element
abbrev pub name_text : Signal → List ℕ
name_text g = codes "b" ++ (decimal g.block ++ (codes "_" ++ (decimal g.port ++ (codes "_" ++ decimal g.element))))

-- signal n
abbrev pub signal_line : ℕ → Signal → List ℕ
signal_line n g = codes "$var " ++ (type_text g.ty ++ (codes " v" ++ (decimal n ++ (codes " " ++ (name_text g ++ codes " $end")))))

-- signal n, of this type, has this value
abbrev pub value_line : Ty → ℕ → ℤ → List ℕ
value_line t n v = codes "b" ++ (bits t v ++ (codes " v" ++ decimal n))

abbrev pub tick_line : ℕ → List ℕ
tick_line t = codes "#" ++ decimal t

-- the signals, of which the first has number n
abbrev pub signal_lines : ℕ → List Signal → List (List ℕ)
signal_lines n [] = []
signal_lines n (g ∷ gs) = signal_line n g ∷ signal_lines (n + 1) gs

-- the values of the signals from number n on
abbrev pub value_lines : List Signal → ℕ → List ℤ → List (List ℕ)
value_lines gs n [] = []
value_lines gs n (v ∷ vs) = value_line (type_of gs n) n v ∷ value_lines gs (n + 1) vs

-- the line of a tick, but where it is told already
abbrev pub next_tick : ℕ → ℕ → List (List ℕ)
next_tick told t = if nat_eq t told then [] else tick_line t ∷ []

-- changes, behind what tick `told` has told
abbrev pub change_lines : List Signal → ℕ → List Change → List (List ℕ)
change_lines gs told [] = []
change_lines gs told (c ∷ cs) = next_tick told c.tick ++ (value_line (type_of gs c.signal) c.signal c.value ∷ change_lines gs c.tick cs)

-- up to the signals
abbrev pub signals_part : List Signal → List (List ℕ)
signals_part gs = codes "$timescale 1 ns $end" ∷ codes "$scope module scicos $end" ∷ signal_lines 1 gs

abbrev pub opening : List (List ℕ)
opening = codes "$upscope $end" ∷ codes "$enddefinitions $end" ∷ codes "#0" ∷ codes "$dumpvars" ∷ []

-- up to the first values
abbrev pub values_part : List Signal → List ℤ → List (List ℕ)
values_part gs first = signals_part gs ++ (opening ++ value_lines gs 1 first)

-- all that stands before the changes
abbrev pub head_part : List Signal → List ℤ → List (List ℕ)
head_part gs first = values_part gs first ++ (codes "$end" ∷ [])

abbrev pub lines_of : Waveforms → List (List ℕ)
lines_of w = head_part w.signals w.first ++ change_lines w.signals 0 w.changes

abbrev pub spelling : Waveforms → List ℕ
spelling w = joined (lines_of w)
