-- Blocks in the order of their numbers.
use Rattle.std.specs.Prelude.{ℕ, ◌<◌, List, AllPairs, Contains}
use Rattle.sci_net.specs.Parts.{Parts, IsBlock}

-- these blocks by number, all of the net
pub record AreBlocksByNumber (n : Parts) (xs : List ℕ) : Type 0 where
  pub rising : AllPairs (λ b c. b < c) xs
  pub blocks : (b : ℕ) → Contains xs b → IsBlock n b
