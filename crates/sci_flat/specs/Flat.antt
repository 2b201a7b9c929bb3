-- The flat net of a tree: its blocks in tree order, numbered from 1, and which outputs feed their inputs.
use Rattle.std.specs.Prelude.{◌≡◌, ℕ, ◌≤◌, ◌↔◌, pos, List, [], length, map, Contains, Ok}
use Rattle.sci_base.specs.Outcome.{Outcome, ◌>>=◌}
use Rattle.sci_diagram.specs.Objects.{Objects}
use Rattle.sci_net.specs.declared.Wire.{Wire}
use Rattle.sci_net.specs.declared.Feed.{Feed}
use Rattle.sci_net.specs.Parts.{Parts, numbered, no_spec, AreRising, IsInput, IsActivationInput, wire_of, feeds_of}
use Rattle.sci_net.specs.Flat.{IsFlat}
use Rattle.sci_blocks.specs.declared.class.PortClass.{PortClass}
use Rattle.sci_blocks.specs.declared.class.PortClass.TheVariants.{Input, Output, ActivationInput, ActivationOutput}
use Rattle.sci_blocks.specs.Blocks.{Placed, placed, parts_of}
use Rattle.sci_blocks.specs.Wiring.{links_of}
use Rattle.sci_goto.specs.Phase.{tags_of}
use Rattle.sci_flat.specs.Ports.{port}
use Rattle.sci_flat.specs.Feeds.{Feeds}

-- the blocks in tree order, where no tag, no object and no link breaks a rule; else the first rule broken, those on tags first
abbrev pub blocks : Objects → Outcome (List Placed)
blocks t = tags_of t >>= λ _. parts_of t >>= λ ps. links_of t >>= λ _. Ok ps

-- the block of this number, counted from 1
abbrev pub block_at : List Placed → ℕ → Placed
block_at ps b = numbered (placed [] no_spec) ps b

-- port p of block b is fed by port k of block s, where these are ports of two classes
pub record FedBy (t : Objects) (ps : List Placed) (from to : PortClass) (s k b p : ℕ) : Type 0 where
  pub least : 1 ≤ s
  pub most : s ≤ length ps
  pub fed : Feeds t (port (block_at ps s).place from (pos k)) (port (block_at ps b).place to (pos p))

-- the output that feeds regular input k of block b
abbrev pub IsWire : Objects → List Placed → ℕ → ℕ → Wire → Type 0
IsWire t ps b k w = FedBy t ps Output Input w.block w.port b k

-- an activation output that feeds activation input p of block b
abbrev pub IsFeed : Objects → List Placed → ℕ → ℕ → Feed → Type 0
IsFeed t ps b p q = FedBy t ps ActivationOutput ActivationInput q.block q.port b p

-- the activation outputs that feed activation input p of block b: by block and port, without repeats
pub record IsFeedList (t : Objects) (ps : List Placed) (b p : ℕ) (feeds : List Feed) : Type 0 where
  pub rising : AreRising feeds
  pub exactly : (q : Feed) → Contains feeds q ↔ IsFeed t ps b p q

-- the flat net of a tree
pub record IsFlatNet (t : Objects) (n : Parts) : Type 0 where
  pub placed : List Placed
  pub blocks : blocks t ≡ Ok placed
  pub specs : n.specs ≡ map (λ p. p.spec) placed
  pub paths : n.paths ≡ map (λ p. p.place) placed
  pub flat : IsFlat n
  pub wires : (b k : ℕ) → IsInput n b k → IsWire t placed b k (wire_of n b k)
  pub feeds : (b p : ℕ) → IsActivationInput n b p → IsFeedList t placed b p (feeds_of n b p)
