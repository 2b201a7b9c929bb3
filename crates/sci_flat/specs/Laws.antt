-- At most one output feeds a regular input.
use Rattle.std.specs.Prelude.{◌≡◌, ℕ, ◌≤◌, pos, List, [], length, Ok}
use Rattle.sci_diagram.specs.Objects.{Objects}
use Rattle.sci_blocks.specs.declared.class.PortClass.{PortClass}
use Rattle.sci_blocks.specs.declared.class.PortClass.TheVariants.{Input, Output, ActivationInput, ActivationOutput}
use Rattle.sci_blocks.specs.Blocks.{Placed, placed, parts_of}
use Rattle.sci_blocks.specs.Wiring.{links_of}
use Rattle.sci_blocks.specs.Kept.{AreBlocksKept, AreLinksKept}
use Rattle.sci_net.specs.Parts.{numbered, no_spec}
use Rattle.sci_flat.specs.Chain.{Step, Chain}
use Rattle.sci_flat.specs.Ports.{Port, port}
use Rattle.sci_flat.specs.Tagged.{all_steps}

-- a class of ports for signals, not for activation
abbrev pub IsRegular : PortClass → Type 0
IsRegular Input = Unit {0}
IsRegular Output = Unit {0}
IsRegular ActivationInput = ⊥
IsRegular ActivationOutput = ⊥

-- no two steps lead to the same regular port
abbrev pub OneBefore : Type 0
OneBefore = (t : Objects) → AreBlocksKept t → AreLinksKept t → (p p' q : Port) → IsRegular q.class → Step (all_steps t) p q → Step (all_steps t) p' q → p ≡ p'

-- output k of the block of this number, counted from 1
abbrev pub output : List Placed → ℕ → ℕ → Port
output ps s k = port (numbered (placed [] no_spec) ps s).place Output (pos k)

-- chains from two outputs of blocks to the same regular input are from one output
abbrev pub OneSource : Type 0
OneSource = (t : Objects) (ps : List Placed) (u : Unit {0}) → parts_of t ≡ Ok ps → links_of t ≡ Ok u → (s k s' k' : ℕ) → 1 ≤ s → s ≤ length ps → 1 ≤ s' → s' ≤ length ps → (q : Port) → q.class ≡ Input
    → Chain (all_steps t) (output ps s k) q → Chain (all_steps t) (output ps s' k') q → (s ≡ s') × (k ≡ k')

-- no step leads to an output of a block
abbrev pub NoneInto : Type 0
NoneInto = (t : Objects) (ps : List Placed) → parts_of t ≡ Ok ps → (s k : ℕ) → 1 ≤ s → s ≤ length ps → (p : Port) → Step (all_steps t) p (output ps s k) → ⊥

-- no two blocks are at one place
abbrev pub OwnPlace : Type 0
OwnPlace = (t : Objects) (ps : List Placed) → parts_of t ≡ Ok ps → (s s' : ℕ) → 1 ≤ s → s ≤ length ps → 1 ≤ s' → s' ≤ length ps
    → (numbered (placed [] no_spec) ps s).place ≡ (numbered (placed [] no_spec) ps s').place → s ≡ s'
