-- What activates each block of a net, by block.
use Rattle.std.specs.Prelude.{◌≡◌, ℕ, suc, ◌<◌, ◌↔◌, Bool, true, false, List, [], length, Contains}
use Rattle.sci_loop.specs.Walk.{IsMarked}
use Rattle.sci_net.specs.declared.Feed.{Feed}
use Rattle.sci_net.specs.declared.Source.TheVariants.{Start}
use Rattle.sci_net.specs.Parts.{Parts, numbered, AreRising}
use Rattle.sci_reaction.specs.Active.{Reaches, IsAlways}

-- By block, counted from 1: the activation outputs that reach it, and whether start activates it.
pub record ByBlock : Type 0 where
  pub reaching : List (List Feed)
  pub at_start : List Bool

pub record AreByBlock (n : Parts) (r : ByBlock) : Type 0 where
  pub reaching_long : length r.reaching ≡ length n.specs
  pub at_start_long : length r.at_start ≡ length n.specs
  pub reaching_rise : (b : ℕ) → AreRising (numbered [] r.reaching b)
  pub reaching_are : (b : ℕ) (q : Feed) → Contains (numbered [] r.reaching b) q ↔ Reaches n q b
  pub at_start_is : (b : ℕ) → (numbered false r.at_start b ≡ true) ↔ IsAlways n Start b

-- ---- as they are made

-- by block, whether it is one of the first k and among these
pub record AreMarksOf (found : List ℕ) (k : ℕ) (marks : List Bool) : Type 0 where
  pub long : length marks ≡ k
  pub exactly : (p : ℕ) → IsMarked marks p ↔ ((p < k) × Contains found (suc p))

-- by block, whether start activates it
pub record AreAtStart (n : Parts) (marks : List Bool) : Type 0 where
  pub long : length marks ≡ length n.specs
  pub exactly : (p : ℕ) → IsMarked marks p ↔ IsAlways n Start (suc p)
