-- The parts of nets by number, and their sources, worked out by hand.
use Rattle.std.proofs.Common.{◌≡◌, ℕ, true, false, ℤ, pos, negsuc, [], ◌∷◌, refl, lit≤, arith}
use Rattle.sci_base.specs.declared.Ty.TheVariants.{I32}
use Rattle.sci_forms.specs.declared.ports.Port.{Port as Shape}
use Rattle.sci_net.specs.declared.Source.TheVariants.{Start, Port}
use Rattle.sci_net.specs.Parts.{numbered, wire_of, feeds_of, input_of, output_of, IsBlock, precedes, column_of}
use Rattle.sci_net.specs.Sources.{ports_to, sources_of, source_of, columns_of}
use Rattle.sci_net.specs.Net.{all_elements}
use Rattle.sci_net.specs.Flat.{is_declared}
use Rattle.sci_examples.proofs.Blocks.{column, wire, branch, feed, sensor, counting, branching, apart}

-- ---- by number, from 1

first_is_1 : numbered {A = ℕ} 0 (7 ∷ 8 ∷ []) 1 ≡ 7
first_is_1 = refl

none_is_0 : numbered {A = ℕ} 0 (7 ∷ 8 ∷ []) 0 ≡ 0
none_is_0 = refl

-- the second input of the sum is fed by the delay
second_wire : wire_of counting 3 2 ≡ wire 4 1
second_wire = refl

second_feeds : feeds_of branching 7 2 ≡ feed 1 ∷ branch 3 2 ∷ []
second_feeds = refl

-- what takes three values apart has an input of three, and a second output of two
second_output : output_of apart 2 2 ≡ column (pos 2)
second_output = refl

one_input : input_of apart 2 1 ≡ column (pos 3)
one_input = refl

not_0 : IsBlock counting 0 → ⊥
not_0 h = omega (arith, h.least)

last_block : IsBlock counting 4
last_block = record { least = lit≤ tt; most = lit≤ tt }

-- by block first, and then by port
block_first : precedes (branch 1 2) (branch 2 1) ≡ true
block_first = refl

later_block : precedes (branch 2 1) (branch 1 2) ≡ false
later_block = refl

port_then : precedes (branch 3 1) (branch 3 2) ≡ true
port_then = refl

not_itself : precedes (branch 3 1) (branch 3 1) ≡ false
not_itself = refl

reads_column : column_of (sensor (pos 2)) ≡ 2
reads_column = refl

-- three values, three taken apart, and two of the gain
elements : all_elements apart.specs ≡ 8
elements = refl

-- ---- sources

-- start, and the timer; the branches of the condition are none
sources : sources_of branching ≡ Start ∷ Port (feed 1) ∷ []
sources = refl

second_source : source_of branching 1 ≡ Port (feed 1)
second_source = refl

ports_in_order : ports_to 4 2 ≡ Port (branch 4 1) ∷ Port (branch 4 2) ∷ []
ports_in_order = refl

columns : columns_of branching ≡ record { number = 1; ty = I32; block = 2 } ∷ []
columns = refl

-- ---- declared ports

abbrev shape : ℤ → ℤ → Shape
shape rows ty = record { rows = rows; cols = pos 1; ty = ty }

-- an unknown type and size, and types 0, 2 and 9, which there are none of
unknown : is_declared (shape (negsuc 0) (negsuc 0)) ≡ true
unknown = refl

type_0 : is_declared (shape (pos 1) (pos 0)) ≡ false
type_0 = refl

type_2 : is_declared (shape (pos 1) (pos 2)) ≡ false
type_2 = refl

type_9 : is_declared (shape (pos 1) (pos 9)) ≡ false
type_9 = refl

-- a size of 2 to the 31 is too large
large : is_declared (shape (pos 2147483648) (pos 3)) ≡ false
large = refl
