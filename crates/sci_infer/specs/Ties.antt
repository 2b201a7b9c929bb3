-- Ties of parts, as they are found one place after the other.
use Rattle.std.specs.Prelude.{◌≡◌, ℕ, ◌<◌, ◌<ℤ◌, pos, List, ◌⊎◌}
use Rattle.sci_infer.specs.Classes.{Joins}
use Rattle.sci_infer.specs.declared.classes.Tie.{Tie}
use Rattle.sci_net.specs.Parts.{Parts}
use Rattle.sci_infer.specs.declared.parts.PortPart.{PortPart}
use Rattle.sci_infer.specs.Typing.{IsAt, is_type}
use Rattle.sci_infer.specs.PortParts.{AreWired, AreShared}

-- equal numbers of one block, both of types or both of sizes
pub record IsLike (left right : PortPart) : Type 0 where
  pub same_block : left.block ≡ right.block
  pub same_kind : is_type left.what ≡ is_type right.what
  pub same_number : left.declared ≡ right.declared

-- the one tie along a wire that starts at a place
pub record IsWireTie (n : Parts) (i : ℕ) (tie : Tie) : Type 0 where
  pub from : tie.left ≡ i
  pub wired : AreWired n i tie.right
  pub only : (j : ℕ) → AreWired n i j → j ≡ tie.right

abbrev pub HasNoWireTie : Parts → ℕ → Type 0
HasNoWireTie n i = (j : ℕ) → AreWired n i j → ⊥

-- the ties along wires that start below k are added
pub record WiresTied (n : Parts) (k : ℕ) (old new : List Tie) : Type 0 where
  pub kept : (i j : ℕ) → Joins old i j → Joins new i j
  pub sound : (i j : ℕ) → Joins new i j → Joins old i j ⊎ AreWired n i j
  pub complete : (i j : ℕ) → i < k → AreWired n i j → Joins new i j

-- the first part of the block that is like the one at i
pub record IsFirstLike (parts : List PortPart) (i first : ℕ) : Type 0 where
  pub left : PortPart
  pub right : PortPart
  pub at_left : IsAt parts first left
  pub at_right : IsAt parts i right
  pub like : IsLike left right
  pub before : (k : ℕ) (p : PortPart) → k < first → IsAt parts k p → IsLike p right → ⊥

-- none before `start` is like the one at i
abbrev pub BeginsAt : List PortPart → ℕ → ℕ → Type 0
BeginsAt parts start i = (k : ℕ) (p q : PortPart) → k < start → IsAt parts k p → IsAt parts i q → IsLike p q → ⊥

-- the tie of the part at a place, which has a negative number, to the first that is like it
pub record IsSharedTie (parts : List PortPart) (i : ℕ) (tie : Tie) : Type 0 where
  pub from : tie.left ≡ i
  pub first : IsFirstLike parts i tie.right
  pub negative : first.right.declared <ℤ pos 0

abbrev pub HasNoSharedTie : List PortPart → ℕ → Type 0
HasNoSharedTie parts i = (p : PortPart) → IsAt parts i p → p.declared <ℤ pos 0 → ⊥

-- each part below k with a negative number is tied to the first that is like it
pub record SharedTied (parts : List PortPart) (k : ℕ) (old new : List Tie) : Type 0 where
  pub kept : (i j : ℕ) → Joins old i j → Joins new i j
  pub sound : (i j : ℕ) → Joins new i j → Joins old i j ⊎ AreShared parts i j
  pub firsts : (i : ℕ) (p : PortPart) → i < k → IsAt parts i p → p.declared <ℤ pos 0 → (f : ℕ) × IsFirstLike parts i f × Joins new i f
