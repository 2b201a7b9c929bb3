-- The laws of one reaction, for every net, every memory and every input.
use Rattle.std.specs.Prelude.{◌≡◌, ℕ, ◌<◌, ◌↔◌, ◌⊎◌, true, List, [], ◌∷◌, ◌++◌, length, Contains}
use Rattle.std.specs.Int.{bit_at}
use Rattle.sci_forms.specs.Ports.{Fills}
use Rattle.sci_kinds.specs.Asks.{IsMask}
use Rattle.sci_net.specs.declared.Source.{Source}
use Rattle.sci_net.specs.Parts.{Parts, IsBlock, spec_of}
use Rattle.sci_net.specs.Net.{IsNet}
use Rattle.sci_net.specs.Sources.{sources_of, source_of}
use Rattle.sci_reaction.specs.Links.{IsSource}
use Rattle.sci_reaction.specs.Active.{Possible}
use Rattle.sci_reaction.specs.Depends.{Depends, IsLoopFree, HasDepth}
use Rattle.sci_reaction.specs.Memory.{Memory, first_memory, IsMemory, Columns, AreColumns}
use Rattle.sci_reaction.specs.Equations.{Signals, AreInRange, input_in, all_inputs, Takes, Active, IsMaskOf}
use Rattle.sci_reaction.specs.Next.{IsNextMemory}
use Rattle.sci_reaction.specs.Result.{Reaction, Whole, IsResult, AreSame, IsTheResult}
use Rattle.sci_reaction.specs.Schedule.{Guard, Entry, blocks_of, IsRow, IsSchedule}
use Rattle.sci_reaction.specs.Pass.{Progress, pass, at_rest, IsFront, IsNext}

-- ---- depth

-- without a loop each possible block has one depth
abbrev pub OneDepth : Type 0
OneDepth =
    (n : Parts) (s : Source) (b : ℕ) → IsNet n → IsLoopFree n s → Possible n s b →
    (d : ℕ) × HasDepth n s b d × ((e : ℕ) → HasDepth n s b e → e ≡ d)

-- a block is deeper than what it depends on
abbrev pub DepthRises : Type 0
DepthRises = (n : Parts) (s : Source) (c b d e : ℕ) → Depends n s c b → HasDepth n s c d → HasDepth n s b e → e < d

-- ---- the result

-- without a loop two assignments of values that meet all equations agree on every block, and on which blocks are active
abbrev pub OneSolution : Type 0
OneSolution =
    (n : Parts) (m : Memory) (i : Columns) (s : Source) (y z : Signals) → IsNet n → IsLoopFree n s →
    IsResult n m i s (Whole y) → IsResult n m i s (Whole z) →
    (b : ℕ) → IsBlock n b → (y b ≡ z b) × (Active n s y b ↔ Active n s z b)

-- without a loop a reaction has at most one result
abbrev pub AtMostOneResult : Type 0
AtMostOneResult =
    (n : Parts) (m : Memory) (i : Columns) (s : Source) (x y : Reaction) → IsNet n → IsLoopFree n s →
    IsResult n m i s x → IsResult n m i s y → AreSame n x y

-- without a loop a reaction has a result
abbrev pub SomeResult : Type 0
SomeResult =
    (n : Parts) (m : Memory) (i : Columns) (s : Source) → IsNet n → IsLoopFree n s → (x : Reaction) × IsResult n m i s x

-- without a loop a reaction has exactly one result
abbrev pub ExactlyOneResult : Type 0
ExactlyOneResult =
    (n : Parts) (m : Memory) (i : Columns) (s : Source) → IsNet n → IsLoopFree n s → (x : Reaction) × IsTheResult n m i s x

-- ---- the schedule

-- a source without a loop has a row
abbrev pub SomeRow : Type 0
SomeRow = (n : Parts) (s : Source) → IsNet n → IsLoopFree n s → (row : List Entry) × IsRow n s row

-- and no other
abbrev pub OneRow : Type 0
OneRow = (n : Parts) (s : Source) (one other : List Entry) → IsNet n → IsLoopFree n s → IsRow n s one → IsRow n s other → one ≡ other

-- where no source has a loop a net has exactly one schedule
abbrev pub SomeSchedule : Type 0
SomeSchedule =
    (n : Parts) → IsNet n → ((k : ℕ) → k < length (sources_of n) → IsLoopFree n (source_of n k)) → (rows : List (List Entry)) × IsSchedule n rows

abbrev pub OneSchedule : Type 0
OneSchedule =
    (n : Parts) (one other : List (List Entry)) → IsNet n → ((k : ℕ) → k < length (sources_of n) → IsLoopFree n (source_of n k)) →
    IsSchedule n one → IsSchedule n other → one ≡ other

-- the sources of a net are those of its list
abbrev pub SourcesAreListed : Type 0
SourcesAreListed = (n : Parts) (s : Source) → Contains (sources_of n) s ↔ IsSource n s

-- one pass over a row, from the held values, finds the result
abbrev pub PassFindsResult : Type 0
PassFindsResult =
    (n : Parts) (m : Memory) (i : Columns) (s : Source) (row : List Entry) → IsNet n → IsLoopFree n s → IsRow n s row →
    IsTheResult n m i s (pass n m i row (at_rest m))

-- a pass begins with no block done
abbrev pub PassBegins : Type 0
PassBegins = (n : Parts) (m : Memory) (i : Columns) (s : Source) → IsFront n m i s [] (at_rest m)

-- it goes on with the next entry of the row
abbrev pub PassGoesOn : Type 0
PassGoesOn =
    (n : Parts) (m : Memory) (i : Columns) (s : Source) (row pre post : List Entry) (e : Entry) (w : Progress) → IsNet n → IsLoopFree n s → IsRow n s row →
    row ≡ pre ++ e ∷ post → IsFront n m i s (blocks_of pre) w → IsNext n m i s (blocks_of pre) w e

-- and gives the values once the row is done
abbrev pub PassEnds : Type 0
PassEnds =
    (n : Parts) (m : Memory) (i : Columns) (s : Source) (row : List Entry) (w : Progress) → IsNet n → IsRow n s row →
    IsFront n m i s (blocks_of row) w → IsResult n m i s (Whole w.values)

-- the guard's block is active and takes the guard's port
abbrev pub GuardApplies : Parts → Source → Signals → Guard → Type 0
GuardApplies n s y g = Active n s y g.block × Takes n y g.block g.port

-- on any values the block of an entry is active exactly where the entry is `always` or one of its guards applies
abbrev pub EntriesAreExact : Type 0
EntriesAreExact =
    (n : Parts) (s : Source) (row : List Entry) (e : Entry) (y : Signals) → IsNet n → IsRow n s row → Contains row e →
    Active n s y e.block ↔ ((e.always ≡ true) ⊎ ((g : Guard) × Contains e.guards g × GuardApplies n s y g))

-- on any values a bit of an active block's mask is set exactly where it is in the entry's own mask, or in that of a guard that applies
abbrev pub MasksAreExact : Type 0
MasksAreExact =
    (n : Parts) (s : Source) (row : List Entry) (e : Entry) (y : Signals) (mask p : ℕ) → IsNet n → IsRow n s row → Contains row e →
    IsMaskOf n s y e.block mask →
    (bit_at mask p ≡ 1) ↔ ((bit_at e.mask p ≡ 1) ⊎ ((g : Guard) × Contains e.guards g × GuardApplies n s y g × (bit_at g.mask p ≡ 1)))

-- on any values no block outside the row is active
abbrev pub OthersAreIdle : Type 0
OthersAreIdle =
    (n : Parts) (s : Source) (row : List Entry) (b : ℕ) (y : Signals) → IsNet n → IsRow n s row → Active n s y b → Contains (blocks_of row) b

-- ---- ranges

-- an active block's mask is such as its kind expects
abbrev pub MasksInRange : Type 0
MasksInRange =
    (n : Parts) (s : Source) (y : Signals) (b mask : ℕ) → IsNet n → Active n s y b → IsMaskOf n s y b mask → IsMask (spec_of n b) mask

-- where all values are in range, so are those on a block's inputs
abbrev pub InputsInRange : Type 0
InputsInRange =
    (n : Parts) (y : Signals) (b : ℕ) → IsNet n → AreInRange n y → IsBlock n b → Fills (spec_of n b).ins (all_inputs (spec_of n b) (input_in n y b))

-- without a loop, with the memory and the input file in range, the values of a reaction are in range
abbrev pub SignalsInRange : Type 0
SignalsInRange =
    (n : Parts) (m : Memory) (i : Columns) (s : Source) (y : Signals) → IsNet n → IsLoopFree n s → IsMemory n m → AreColumns n i →
    IsResult n m i s (Whole y) → AreInRange n y

-- ---- the next memory

-- values leave exactly one memory
abbrev pub SomeNextMemory : Type 0
SomeNextMemory = (n : Parts) (m : Memory) (s : Source) (y : Signals) → IsNet n → (after : Memory) × IsNextMemory n m s y after

abbrev pub OneNextMemory : Type 0
OneNextMemory =
    (n : Parts) (m : Memory) (s : Source) (y : Signals) (one other : Memory) (b : ℕ) → IsNextMemory n m s y one → IsNextMemory n m s y other → IsBlock n b →
    (one.state b ≡ other.state b) × (one.held b ≡ other.held b) × (one.cursor b ≡ other.cursor b)

-- with the memory and the values in range, so is the next memory; and the first memory is
abbrev pub NextInRange : Type 0
NextInRange =
    (n : Parts) (m : Memory) (s : Source) (y : Signals) (after : Memory) → IsNet n → IsMemory n m → AreInRange n y → IsNextMemory n m s y after → IsMemory n after

abbrev pub FirstInRange : Type 0
FirstInRange = (n : Parts) → IsNet n → IsMemory n (first_memory n)
