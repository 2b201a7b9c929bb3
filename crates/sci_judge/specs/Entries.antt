-- The entries of possible blocks, as they are made.
use Rattle.std.specs.Prelude.{◌≡◌, ℕ, ◌<◌, ◌+◌, ◌↔◌, List, Contains}
use Rattle.std.specs.Int.{bit_at}
use Rattle.sci_net.specs.declared.Feed.{Feed}
use Rattle.sci_net.specs.declared.Source.{Source}
use Rattle.sci_net.specs.Parts.{Parts}
use Rattle.sci_reaction.specs.Active.{IsAlways}
use Rattle.sci_reaction.specs.Schedule.{Guard, branch_of}
use Rattle.sci_rounds.specs.Rounds.{IsBranch}

-- ---- as they are made

-- bit p - 1 is set exactly where p is in the set and at most k
pub record HasBitsTo (mask k : ℕ) (set : ℕ → Type 0) : Type 0 where
  pub exactly : (p : ℕ) → (bit_at mask p ≡ 1) ↔ ((p < k) × set (p + 1))

-- the source activates these blocks whatever the values are, and no other
abbrev pub AreAlways : Parts → Source → List ℕ → Type 0
AreAlways n s bs = (b : ℕ) → Contains bs b ↔ IsAlways n s b

-- branches that reach the block: of these those whose block was found
pub record AreBranches (n : Parts) (found : List ℕ) (branches : List Feed) (b : ℕ) (gs : List Guard) : Type 0 where
  pub reach : (g : Guard) → Contains gs g → IsBranch n b g
  pub all : (q : Feed) → Contains branches q → Contains found q.block → (g : Guard) × Contains gs g × (branch_of g ≡ q)
