-- The wires and feed lists of blocks, by the lists of what reaches their inputs.
use Rattle.std.specs.Prelude.{◌≡◌, ℕ, ◌+◌, ◌<◌, ◌⊎◌, pos, List, [], ◌∷◌, length, map, Contains, slice_index_or}
use Rattle.sci_base.specs.declared.refusal.Rule.TheVariants.{NoSource, ColumnTwice}
use Rattle.sci_base.specs.Lists.{at}
use Rattle.sci_base.specs.Plain.{Violation}
use Rattle.sci_forms.specs.declared.spec.Spec.{Spec}
use Rattle.sci_net.specs.Parts.{no_spec}
use Rattle.sci_net.specs.declared.Wire.{Wire}
use Rattle.sci_net.specs.declared.Feed.{Feed}
use Rattle.sci_blocks.specs.declared.class.PortClass.TheVariants.{Input, ActivationInput}
use Rattle.sci_flat.specs.Lists.{list_at}
use Rattle.sci_flat.specs.declared.steps.port_numbers.PortNumbers.{PortNumbers}
use Rattle.sci_flat.specs.PortNumbers.{start, count, no_seat}
use Rattle.sci_flat.specs.Ends.{end_of}
use Rattle.sci_flat.specs.Refused.{ShareColumn}

abbrev pub feed_at : List Feed → ℕ → Feed
feed_at feeds i = slice_index_or feeds i (end_of 0 0)

abbrev pub wire_at : List Feed → ℕ → Wire
wire_at feeds i = record { block = (feed_at feeds i).block; port = (feed_at feeds i).port }

-- the list of regular input k of a seat, counted from 0
abbrev pub input_list : List (List ℕ) → PortNumbers → ℕ → List ℕ
input_list lists s k = list_at lists (start s Input + k)

abbrev pub activation_list : List (List ℕ) → PortNumbers → ℕ → List ℕ
activation_list lists s p = list_at lists (start s ActivationInput + p)

abbrev pub no_wire : Wire
no_wire = record { block = 0; port = 0 }

-- a wire for each of the first n inputs: one of what reaches it
pub record AreWires (feeds : List Feed) (lists : List (List ℕ)) (s : PortNumbers) (n : ℕ) (row : List Wire) : Type 0 where
  pub long : length row ≡ n
  pub each : (k : ℕ) → k < n → (i : ℕ) × Contains (input_list lists s k) i × (slice_index_or row k no_wire ≡ wire_at feeds i)

-- regular input k is the first that nothing reaches
pub record IsFirstUnfed (lists : List (List ℕ)) (s : PortNumbers) (k : ℕ) : Type 0 where
  pub there : k < count s Input
  pub before : (j : ℕ) → j < k → (i : ℕ) × Contains (input_list lists s j) i
  pub unfed : input_list lists s k ≡ []

-- the feed lists of the first n activation inputs
pub record AreFeeds (feeds : List Feed) (lists : List (List ℕ)) (s : PortNumbers) (n : ℕ) (row : List (List Feed)) : Type 0 where
  pub long : length row ≡ n
  pub each : (p : ℕ) → p < n → slice_index_or row p [] ≡ map (feed_at feeds) (activation_list lists s p)

-- ---- all blocks, counted from 0

abbrev pub seat_of : List PortNumbers → ℕ → PortNumbers
seat_of seats b = slice_index_or seats b (no_seat 0)

abbrev pub spec_at : List Spec → ℕ → Spec
spec_at specs b = slice_index_or specs b no_spec

-- an earlier sensor reads the block's column
abbrev pub IsTakenAt : List Spec → ℕ → Type 0
IsTakenAt specs b = (c : ℕ) × (c < b) × ShareColumn (spec_at specs c) (spec_at specs b)

-- something reaches each regular input
abbrev pub IsReached : List (List ℕ) → PortNumbers → Type 0
IsReached lists s = (k : ℕ) → k < count s Input → (i : ℕ) × Contains (input_list lists s k) i

pub record IsSoundAt (lists : List (List ℕ)) (seats : List PortNumbers) (specs : List Spec) (b : ℕ) : Type 0 where
  pub reached : IsReached lists (seat_of seats b)
  pub own : IsTakenAt specs b → ⊥

-- the wires of the first n blocks, none of which breaks a rule
pub record AllWired (feeds : List Feed) (lists : List (List ℕ)) (seats : List PortNumbers) (specs : List Spec) (n : ℕ) (rows : List (List Wire)) : Type 0 where
  pub long : length rows ≡ n
  pub each : (b : ℕ) → b < n → AreWires feeds lists (seat_of seats b) (count (seat_of seats b) Input) (slice_index_or rows b [])
  pub sound : (b : ℕ) → b < n → IsSoundAt lists seats specs b

pub record AllFed (feeds : List Feed) (lists : List (List ℕ)) (seats : List PortNumbers) (n : ℕ) (rows : List (List (List Feed))) : Type 0 where
  pub long : length rows ≡ n
  pub each : (b : ℕ) → b < n → AreFeeds feeds lists (seat_of seats b) (count (seat_of seats b) ActivationInput) (slice_index_or rows b [])

-- block b is the first that breaks a rule: nothing reaches input k
pub record IsUnreached (lists : List (List ℕ)) (seats : List PortNumbers) (specs : List Spec) (b k : ℕ) : Type 0 where
  pub there : b < length seats
  pub sound : (c : ℕ) → c < b → IsSoundAt lists seats specs c
  pub unfed : IsFirstUnfed lists (seat_of seats b) k

-- or an earlier sensor reads its column
pub record IsTwice (lists : List (List ℕ)) (seats : List PortNumbers) (specs : List Spec) (b : ℕ) : Type 0 where
  pub there : b < length seats
  pub sound : (c : ℕ) → c < b → IsSoundAt lists seats specs c
  pub reached : IsReached lists (seat_of seats b)
  pub taken : IsTakenAt specs b

abbrev pub source_missing : List ℕ → ℕ → Violation
source_missing place k = record { rule = NoSource; place = place; detail = pos (k + 1) ∷ [] }

abbrev pub column_shared : List ℕ → Spec → Violation
column_shared place s = record { rule = ColumnTwice; place = place; detail = at s.params 0 ∷ [] }

abbrev pub BreaksAt : List (List ℕ) → List PortNumbers → List Spec → List (List ℕ) → Violation → Type 0
BreaksAt lists seats specs paths v =
    ((b : ℕ) × (k : ℕ) × IsUnreached lists seats specs b k × (v ≡ source_missing (slice_index_or paths b []) k)) ⊎ ((b : ℕ) × IsTwice lists seats specs b × (v ≡ column_shared (slice_index_or paths b []) (spec_at specs b)))
