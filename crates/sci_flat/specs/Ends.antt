-- The ports of one class of all blocks, by block and port: their numbers, and which they are.
use Rattle.std.specs.Prelude.{◌≡◌, ℕ, ◌+◌, ◌<◌, ◌↔◌, List, [], ◌∷◌, ◌++◌, length, map, Contains, AllPairs, slice_index}
use Rattle.std.specs.List.{range_with_len}
use Rattle.sci_net.specs.declared.Feed.{Feed}
use Rattle.sci_blocks.specs.declared.class.PortClass.{PortClass}
use Rattle.sci_flat.specs.Chain.{Chain}
use Rattle.sci_flat.specs.Lists.{list_at}
use Rattle.sci_flat.specs.declared.steps.port_numbers.PortNumbers.{PortNumbers}
use Rattle.sci_flat.specs.PortNumbers.{start, count}

abbrev pub end_of : ℕ → ℕ → Feed
end_of block port = record { block = block; port = port }

-- of one block
abbrev pub seat_numbers : PortClass → PortNumbers → List ℕ
seat_numbers c s = range_with_len (start s c) (count s c)

abbrev pub seat_ends : PortClass → ℕ → PortNumbers → List Feed
seat_ends c block s = map (end_of block) (range_with_len 1 (count s c))

-- of all, the first of which has this number
abbrev pub numbers_of : PortClass → List PortNumbers → List ℕ
numbers_of c [] = []
numbers_of c (s ∷ ss) = seat_numbers c s ++ numbers_of c ss

abbrev pub ends_of : PortClass → ℕ → List PortNumbers → List Feed
ends_of c block [] = []
ends_of c block (s ∷ ss) = seat_ends c block s ++ ends_of c (block + 1) ss

-- the ports of a seat have numbers below this
abbrev pub IsInside : ℕ → PortNumbers → Type 0
IsInside ports s = (c : PortClass) (k : ℕ) → k < count s c → start s c + k < ports

-- the lists, by the number of a port of the class `to`, of the ports of the class `from` that reach it, by their index
pub record AreFeeding (seats : List PortNumbers) (es : List (ℕ × ℕ)) (ports : ℕ) (from to : PortClass) (feeds : List Feed) (lists : List (List ℕ)) : Type 0 where
  pub ends : feeds ≡ ends_of from 1 seats
  pub long : length lists ≡ ports
  pub rising : (q : ℕ) → AllPairs (λ i j. i < j) (list_at lists q)
  pub exactly : (q i : ℕ) → Contains (numbers_of to seats) q → Contains (list_at lists q) i ↔ ((i < length feeds) × Chain es (slice_index (numbers_of from seats) i) q)
