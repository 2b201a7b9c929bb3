-- The result of one reaction.
use Rattle.std.specs.Prelude.{◌≡◌, ℕ, Err}
use Rattle.sci_base.specs.declared.observation.StopWord.{StopWord}
use Rattle.sci_net.specs.declared.Source.{Source}
use Rattle.sci_net.specs.Parts.{Parts, IsBlock}
use Rattle.sci_reaction.specs.Active.{Possible}
use Rattle.sci_reaction.specs.Depends.{Precedes}
use Rattle.sci_reaction.specs.Memory.{Memory, Columns}
use Rattle.sci_reaction.specs.Equations.{Signals, Gives, Meets}

-- the values of all outputs, or the block that has none with its word
pub data Reaction : Type 0 where
  Whole : Signals → Reaction
  Stopped : ℕ → StopWord → Reaction

-- A reaction gives values that meet the equations of all blocks. It stops at b where some values meet the equation of each block
-- that isn't possible or stands before b, and on them b is active and has no value.
abbrev pub IsResult : Parts → Memory → Columns → Source → Reaction → Type 0
IsResult n m i s (Whole y) = (b : ℕ) → IsBlock n b → Meets n m i s y b
IsResult n m i s (Stopped b word) =
    (y : Signals) × ((c : ℕ) → IsBlock n c → (Possible n s c → Precedes n s c b) → Meets n m i s y c) × Gives n m i s y b (Err word)

-- the same values at every block of the net, or the same block with the same word
abbrev pub AreSame : Parts → Reaction → Reaction → Type 0
AreSame n (Whole y) (Whole z) = (b : ℕ) → IsBlock n b → y b ≡ z b
AreSame n (Whole y) (Stopped b word) = ⊥
AreSame n (Stopped b word) (Whole z) = ⊥
AreSame n (Stopped b word) (Stopped c other) = (b ≡ c) × (word ≡ other)

-- a result, and there is no other
pub record IsTheResult (n : Parts) (m : Memory) (i : Columns) (s : Source) (r : Reaction) : Type 0 where
  pub is : IsResult n m i s r
  pub only : (q : Reaction) → IsResult n m i s q → AreSame n r q
