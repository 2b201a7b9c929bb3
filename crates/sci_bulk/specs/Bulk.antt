-- The bulk diagram of a seed and a size: eight clocks, and data blocks whose kinds and inputs are drawn one after the other.
use Rattle.std.specs.Prelude.{ℕ, zero, suc, ◌+◌, ◌-◌, ◌*◌, ◌/◌, ◌%◌, ℤ, pos, negsuc, List, [], ◌∷◌, ◌++◌, map, codes, None}
use Rattle.sci_base.specs.Lists.{repeated}
use Rattle.sci_base.specs.Plain.{Fields}
use Rattle.sci_diagram.specs.declared.diagram.End.{End}
use Rattle.sci_diagram.specs.Objects.{Object, Objects, block, link, objects_of}
use Rattle.sci_bulk.specs.declared.data_block.DataBlock.{DataBlock}
use Rattle.sci_bulk.specs.declared.data_block.DataBlock.TheVariants.{One, Delay, Sum, Triple}

-- ---- draws

-- A draw replaces a number, at first the seed, by this one ..
unfoldable pub stepped : ℕ → ℕ
stepped x = (1664525 * x + 1013904223) % 4294967296

-- .. and gives this of it.
unfoldable pub drawn : ℕ → ℕ
drawn x = x / 65536

-- ---- data blocks

-- by the kind drawn and two data blocks
abbrev pub chosen : (kind a b : ℕ) → DataBlock
chosen zero a b = Delay (1 + (a + b) % 8) a
chosen (suc zero) a b = Sum a b
chosen (suc (suc k)) a b = Triple a

-- data block i, from 2 up, takes three draws: one for its kind, and two for data blocks before it
unfoldable pub data_block : (i x : ℕ) → DataBlock
data_block i x = chosen (drawn (stepped x) % 3) (1 + drawn (stepped (stepped x)) % (i - 1)) (1 + drawn (stepped (stepped (stepped x))) % (i - 1))

unfoldable pub behind_block : ℕ → ℕ
behind_block x = stepped (stepped (stepped x))

-- so many data blocks, from number i on
abbrev pub blocks_from : (count i x : ℕ) → List DataBlock
blocks_from zero i x = []
blocks_from (suc count) i x = data_block i x ∷ blocks_from count (suc i) (behind_block x)

-- data block 1 takes no draw
abbrev pub data_blocks : (seed size : ℕ) → List DataBlock
data_blocks seed size = One ∷ blocks_from (size - 1) 2 seed

-- ---- objects

abbrev pub clocks : List ℕ
clocks = 1 ∷ 2 ∷ 3 ∷ 4 ∷ 5 ∷ 6 ∷ 7 ∷ 8 ∷ []

-- a block's fields: so many ports, all int32 and 1 by 1, and its lists
abbrev pub fields : (ins outs evtin evtout : ℕ) → (ipar dstate firing : List ℤ) → Fields
fields ins outs evtin evtout ipar dstate firing = record {
  ins = repeated (pos 1) ins;
  in2 = [];
  intyp = repeated (pos 3) ins;
  outs = repeated (pos 1) outs;
  out2 = [];
  outtyp = repeated (pos 3) outs;
  evtin = evtin;
  evtout = evtout;
  dstate = dstate;
  ipar = ipar;
  firing = firing;
  dep = None;
}

-- clock j fires first at date j, and then again every j ticks
abbrev pub clock : ℕ → Object
clock j = block (codes "EVTDLY_c") (fields 0 0 1 1 (pos j ∷ []) [] (pos j ∷ []))

abbrev pub data_object : DataBlock → Object
data_object One = block (codes "CONST_m") (fields 0 1 0 0 (pos 1 ∷ []) [] [])
data_object (Delay c a) = block (codes "DOLLAR_m") (fields 1 1 1 0 [] (pos 0 ∷ []) [])
data_object (Sum a b) = block (codes "SUMMATION") (fields 2 1 0 0 (pos 0 ∷ pos 1 ∷ pos 1 ∷ []) [] [])
data_object (Triple a) = block (codes "GAINBLK") (fields 1 1 0 0 (pos 0 ∷ pos 3 ∷ []) [] [])

-- ---- links

abbrev pub output_end : (object : ℕ) → End
output_end o = record { block = pos o; port = pos 1; side = pos 0 }

abbrev pub input_end : (object port : ℕ) → End
input_end o p = record { block = pos o; port = pos p; side = pos 1 }

-- object o is activated by this clock
abbrev pub activates : (clock o : ℕ) → Object
activates c o = link (output_end c) (input_end o 1) (negsuc 0)

-- input p of object o is fed by data block a
abbrev pub feeds : (a o p : ℕ) → Object
feeds a o p = link (output_end (8 + a)) (input_end o p) (pos 1)

-- each clock activates itself
abbrev pub clock_link : ℕ → Object
clock_link j = activates j j

-- the links into object o, which is this data block
abbrev pub links_into : ℕ → DataBlock → List Object
links_into o One = []
links_into o (Delay c a) = activates c o ∷ feeds a o 1 ∷ []
links_into o (Sum a b) = feeds a o 1 ∷ feeds b o 2 ∷ []
links_into o (Triple a) = feeds a o 1 ∷ []

-- those into the objects from o on
abbrev pub links_from : ℕ → List DataBlock → List Object
links_from o [] = []
links_from o (d ∷ ds) = links_into o d ++ links_from (suc o) ds

-- the clocks are objects 1 to 8, and data block i is object 8 + i; links stand behind them
abbrev pub drawing : List DataBlock → List Object
drawing ds = map clock clocks ++ (map data_object ds ++ (map clock_link clocks ++ links_from 9 ds))

abbrev pub bulk : (seed size : ℕ) → Objects
bulk seed size = objects_of (drawing (data_blocks seed size))
