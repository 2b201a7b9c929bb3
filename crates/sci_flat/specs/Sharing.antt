-- Lists that several activation inputs share, and the numbers of the inputs' lists.
use Rattle.std.specs.Prelude.{◌≡◌, ℕ, ◌+◌, ◌<◌, List, [], length, All, slice_index, slice_index_or}
use Rattle.sci_blocks.specs.declared.class.PortClass.TheVariants.{ActivationInput, ActivationOutput}
use Rattle.sci_flat.specs.declared.ends.Sharing.{Sharing}
use Rattle.sci_flat.specs.declared.steps.port_numbers.PortNumbers.{PortNumbers}
use Rattle.sci_flat.specs.PortNumbers.{start, count}
use Rattle.sci_flat.specs.Lists.{lists_of, list_at}
use Rattle.sci_flat.specs.Ends.{AreFeeding}
use Rattle.sci_flat.specs.Origins.{shared}
use Rattle.sci_flat.specs.Wired.{seat_of}

-- the list of each activation input is that of its origin
pub record AreSharing (seats : List PortNumbers) (es : List (ℕ × ℕ)) (ports : ℕ) (s : Sharing) : Type 0 where
  pub fed : AreFeeding seats es ports ActivationOutput ActivationInput s.feeds.items (shared (lists_of s.lists) s.origins.items)
  pub long : length s.origins.items ≡ ports
  pub within : All (λ o. o < length s.lists.items) s.origins.items
  pub under : (q : ℕ) → All (λ i. i < length s.feeds.items) (list_at (lists_of s.lists) q)

-- the origins of the first n activation inputs of a block
pub record AreNumbers (origins : List ℕ) (s : PortNumbers) (n : ℕ) (row : List ℕ) : Type 0 where
  pub long : length row ≡ n
  pub each : (p : ℕ) → p < n → slice_index row p ≡ slice_index origins (start s ActivationInput + p)

-- of the first n blocks
pub record AllNumbers (origins : List ℕ) (seats : List PortNumbers) (n : ℕ) (rows : List (List ℕ)) : Type 0 where
  pub long : length rows ≡ n
  pub each : (b : ℕ) → b < n → AreNumbers origins (seat_of seats b) (count (seat_of seats b) ActivationInput) (slice_index_or rows b [])
